use native.Mathlib.Omega.{arith}
use mathlib.Core.Path.{refl}
use lib.Pow.{pow_mono}
use Rattle.integer.proofs.Machine.{shl_to_z}
use Rattle.dominance.proofs.power.Goals as goal

pub returns : goal.returns
returns c = rw (shl_to_z c.args.b (omega arith)) (refl, pow_mono {j = 20} c.requires)
