use Rattle.std.proofs.Common.{ap}
use lib.Ieee.{binary64, mul}
use Rattle.double.proofs.scaled.Goals as goal

pub returns : goal.returns
returns c = ap (mul binary64 c.args.x) c.power_of_two.ensures
