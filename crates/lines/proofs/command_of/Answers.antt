use native.Mathlib.Omega.{arith}
use native.Mathlib.Nat.{mul-le-mul}
use Prim.Native.Nat.{◌*◌, ◌≤◌}
use Rattle.lines.proofs.command_of.Goals.{Start}
use Rattle.lines.proofs.command_of.Goals as goal

-- a step and a motor are small
module _ (c : Start) where
  small : c.args.d.column * c.args.z.nu ≤ 16 * 4
  small = mul-le-mul {n₂ = 16} (omega (arith, c.requires.2, c.requires.0.steps_high)) c.requires.0.nu_high

pub overflow_mul-result : goal.overflow_mul-result
overflow_mul-result c = omega (arith, small (goal.at.overflow_mul-result c).Start)

pub overflow_add-result : goal.overflow_add-result
overflow_add-result c = let a = c in omega (arith, small (goal.at.overflow_add-result c).Start, a.requires.1, a.requires.0.nu_high)
