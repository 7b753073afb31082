use native.Mathlib.Omega.{arith}
use Rattle.image.proofs.Sizes.limits_from.Goals as goal

pub returns-in-State : goal.returns-in-State
returns-in-State c = rw (c.in-State.is, c.command_count-n.ensures) (omega arith, omega arith)

pub returns-in-Target : goal.returns-in-Target
returns-in-Target c = rw (c.in-Target.is, c.command_count-n.ensures) (omega arith, omega arith)
