use borrow.Author.Tests.{tests}
use Rattle.std.proofs.Common.{rules, refl}
use Rattle.gradient.proofs.Chain.{all_of_range}
use Rattle.lent.specs.Lent.{entry_test}
use Rattle.lent.proofs.entries_pass.Goals as goal

pub returns : goal.returns
returns c = all_of_range (entry_test c.args.factors.now) refl c.all.ensures.ran (λ x b q k. search (rules, tests))
