use native.Mathlib.Omega.{arith}
use Prim.Native.Nat.{◌+◌, ◌*◌, ◌≤◌}
use Rattle.image.specs.Sizes.{command_count, body_count}
use Rattle.image.proofs.Sized.{row_end}
use Rattle.image.proofs.Sizes.gain_offset.Goals.{After-input_count}
use Rattle.image.proofs.Sizes.gain_offset.Goals as goal

-- the row ends within the table
module _ (c : After-input_count) where
  within : c.args.i * c.input_count.result + c.input_count.result ≤ command_count c.args.self * c.input_count.result
  within = row_end c.args.i (command_count c.args.self) c.input_count.result c.requires.1

  table : c.gains_from.result + 4 * (command_count c.args.self * c.input_count.result) ≤ 4 * (8 + body_count c.args.self)
  table = rw c.input_count.ensures c.gains_from.ensures.1

pub overflow_mul-result : goal.overflow_mul-result
overflow_mul-result c = omega (arith, within c, table c)

pub overflow_mul-result-2 : goal.overflow_mul-result-2
overflow_mul-result-2 c = omega (arith, within c, table c)

pub overflow_add-result : goal.overflow_add-result
overflow_add-result c = omega (arith, within c, table c)

pub returns : goal.returns
returns c = let e = c.input_count.ensures in (rw (c.gains_from.ensures.0, e), rw (← e) (omega (arith, within c, table c)))
