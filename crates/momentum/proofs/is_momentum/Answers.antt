use Rattle.std.proofs.Common.{arith}
use Rattle.std.proofs.lemmas.Int.{ints}
use lib.Pow.{pow_pos}
use Rattle.interface.specs.Tables.{momentum_range}
use Rattle.momentum.proofs.is_momentum.Goals as goal

pub returns-then-m-ge0 : goal.returns-then-m-ge0
unfolding momentum_range
returns-then-m-ge0 c = grind (arith, ints, c.momentum-m.ensures, c.power.ensures, pow_pos)

pub returns-else-m-ge0 : goal.returns-else-m-ge0
unfolding momentum_range
returns-else-m-ge0 c = grind (arith, ints, c.momentum-m.ensures)
