use borrow.Author.Tests.{tests}
use Rattle.std.proofs.Common.{rules}
use Rattle.gradient.proofs.Chain.{all_of_range}
use Rattle.interface.specs.Tables.{symmetry_test}
use Rattle.row_tests.proofs.symmetric.Goals as goal

pub returns : goal.returns
returns c = all_of_range (symmetry_test c.args.image.now.sizes c.args.image.now.bytes.now) c.command_count.ensures c.all.ensures.ran (λ x b q k. search (rules, tests))
