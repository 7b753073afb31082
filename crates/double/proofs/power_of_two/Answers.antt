use Rattle.std.proofs.Common.{arith}
use Rattle.double.proofs.Scale.{power_is}
use Rattle.double.proofs.power_of_two.Goals as goal

pub returns : goal.returns
returns c = power_is c.args.b (omega arith)
