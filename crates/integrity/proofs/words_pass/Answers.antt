use borrow.Author.Tests.{tests}
use Rattle.std.proofs.Common.{rules}
use Rattle.gradient.proofs.Chain.{all_of_range}
use Rattle.image.specs.Checks.{word_test}
use Rattle.integrity.proofs.words_pass.Goals as goal

pub returns : goal.returns
returns c = all_of_range (word_test c.args.image.now.sizes c.args.image.now.bytes.now) c.body_count.ensures c.all.ensures.ran (λ x b q k. search (rules, tests))
