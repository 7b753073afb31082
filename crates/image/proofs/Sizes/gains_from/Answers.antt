use native.Mathlib.Omega.{arith}
use mathlib.Core.Path.{refl}
use Rattle.image.proofs.Sizes.gains_from.Goals as goal

pub returns-in-State : goal.returns-in-State
returns-in-State c = rw (c.in-State.is, c.command_count-n.ensures) (refl, omega arith)

pub returns-in-Target : goal.returns-in-Target
returns-in-Target c = rw (c.in-Target.is, c.command_count-n.ensures) (omega (arith, c.lower_place.ensures.0), omega (arith, c.lower_place.ensures.1))
