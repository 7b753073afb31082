-- What its comparison tells is in `Steps.antt`. Assumes nothing.
use Rattle.std.proofs.Common.{◌≡◌, ◌^◌, ℤ, pos, ◌-ℤ◌, refl, arith, to_z-of_z, w64, SFits, to_z, of_z}
use lib.Ieee.{to_signed}
use Rattle.integer.proofs.Machine.{sfits_sub, back}
use Rattle.double.proofs.Value.{Small, small, Truncated, truncated}
use Rattle.double.proofs.Back.{in_float_lem}
use Rattle.double.proofs.Steps.{floor_less, floor_same}
use Rattle.double.proofs.floor_integer.Goals.{After-truncating_f64_to_i64-n}
use Rattle.double.proofs.floor_integer.Goals as goal

module _ (c : After-truncating_f64_to_i64-n) where
  bounded : Small c.args.y
  bounded = small c.args.y c.requires.0 c.requires.1

  abbrev n : ℤ
  n = c.truncating_f64_to_i64-n.result

  known : Truncated c.args.y n
  known = truncated c.args.y n bounded c.truncating_f64_to_i64-n.ensures

  read : to_z w64 (of_z w64 n) ≡ n
  read = back n c.truncating_f64_to_i64-n.type_inv

  less-fits : SFits w64 (n -ℤ pos 1)
  less-fits = sfits_sub n (pos 1) (2 ^ 32) 1 known.integer (omega arith) (omega arith)

pub truncating_f64_to_i64-n-requires : goal.truncating_f64_to_i64-n-requires
truncating_f64_to_i64-n-requires c = let t = truncated c.args.y (to_signed 63 c.args.y) (small c.args.y c.requires.0 c.requires.1) refl in record { lower_bound = t.over; upper_bound = t.under }

pub int_to_float-n : goal.int_to_float-n
int_to_float-n c = let a = (goal.at.int_to_float-n c).After-truncating_f64_to_i64-n in let k = known a in rw (read a) (in_float_lem (n a) (omega arith))

pub overflow_sub-result : goal.overflow_sub-result
overflow_sub-result c = let a = (goal.at.overflow_sub-result c).After-truncating_f64_to_i64-n in rw (read a) (less-fits a)

pub returns-then-y-n : goal.returns-then-y-n
returns-then-y-n c =
    let a = (goal.at.returns-then-y-n c).After-truncating_f64_to_i64-n in
    rw (read a, to_z-of_z (less-fits a)) (floor_less a.args.y (n a) (bounded a) (known a) (rw (read a) at c.if-y-n.true))

pub returns-else-y-n : goal.returns-else-y-n
returns-else-y-n c = let a = (goal.at.returns-else-y-n c).After-truncating_f64_to_i64-n in rw (read a) (floor_same a.args.y (n a) (bounded a) (known a) (rw (read a) at c.if-y-n.false))
