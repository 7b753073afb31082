use borrow.Author.Tests.{tests}
use Rattle.std.proofs.Common.{rules}
use Rattle.gradient.proofs.Chain.{all_of_range}
use Rattle.image.specs.Checks.{limit_test}
use Rattle.integrity.proofs.limits_pass.Goals as goal

pub returns : goal.returns
returns c = all_of_range (limit_test c.args.v c.args.image.now.sizes c.args.image.now.bytes.now) c.input_count.ensures c.all.ensures.ran (λ x b q k. search (rules, tests))
