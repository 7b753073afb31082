use native.Mathlib.Omega.{arith}
use mathlib.Core.Path.{◌≡◌}
use Prim.Native.Nat.{ℕ, ◌+◌, ◌*◌, ◌^◌, ◌%◌, ◌≤◌}
use lib.Pow.{pow_mono}
use lib.IntN.{ℤ, pos, nat_abs, ◌-ℤ◌, ◌*ℤ◌}
use mir.Syntax.{w64}
use mir.Val.{to_z, SFits}
use mir.Facts.{to_z-of_z, to_z_pos}
use Rattle.integer.specs.Round.{floor}
use Rattle.integer.proofs.Laws.{abs_sub}
use Rattle.integer.proofs.Machine.{back, shl_to_z, fit_abs}
use Rattle.commands.specs.Steps.{point_of}
use Rattle.commands.proofs.Small.{factor_size, kept_size}
use Rattle.commands.proofs.point.Goals.{After-floor_div-2, Start}
use Rattle.commands.proofs.point.Goals as goal

-- the factors, and the two products
module _ (a : Start) where
  abbrev b : ℕ
  b = a.args.b

  abbrev β : ℕ
  β = a.args.momentum

  one : to_z w64 ((1 * 2 ^ b) % 2 ^ 64) ≡ pos (2 ^ b)
  one = shl_to_z b (omega arith)

  two : to_z w64 β ≡ pos β
  two = to_z_pos w64 (omega arith)

  gain : 2 ^ b + β ≤ 2 ^ 21
  gain = omega (arith, pow_mono {j = 20} a.requires.0.0)

  fits-gain : SFits w64 (pos (2 ^ b + β))
  fits-gain = fit_abs (pos (2 ^ b + β)) (omega (arith, gain))

  left : nat_abs (pos (2 ^ b + β) *ℤ a.args.new) ≤ 2 ^ 52
  left = factor_size (2 ^ b + β) a.args.new gain a.requires.1.0

  right : nat_abs (pos β *ℤ a.args.old) ≤ 2 ^ 52
  right = factor_size β a.args.old (omega arith) a.requires.1.1

  fits-left : SFits w64 (pos (2 ^ b + β) *ℤ a.args.new)
  fits-left = fit_abs (pos (2 ^ b + β) *ℤ a.args.new) (omega (arith, left))

  fits-right : SFits w64 (pos β *ℤ a.args.old)
  fits-right = fit_abs (pos β *ℤ a.args.old) (omega (arith, right))

-- the two quotients, and their difference
module _ (c : After-floor_div-2) where
  abbrev s : Start
  s = (goal.at.After-floor_div-2 c).Start

  abbrev x : ℤ
  x = c.floor_div.result

  abbrev y : ℤ
  y = c.floor_div-2.result

  ex : x ≡ floor (pos (2 ^ b s + β s) *ℤ s.args.new) (2 ^ b s)
  ex = rw (one s, two s, to_z-of_z (fits-gain s), to_z-of_z s.ranges.new, to_z-of_z (fits-left s)) at c.floor_div.ensures

  ey : y ≡ floor (pos (β s) *ℤ s.args.old) (2 ^ b s)
  ey = rw (two s, to_z-of_z s.ranges.old, to_z-of_z (fits-right s)) at c.floor_div-2.ensures

  whole : SFits w64 (x -ℤ y)
  whole =
      let sx : nat_abs x ≤ 2 ^ 52 = rw ex (kept_size (pos (2 ^ b s + β s) *ℤ s.args.new) (b s) (left s)) in
      let sy : nat_abs y ≤ 2 ^ 52 = rw ey (kept_size (pos (β s) *ℤ s.args.old) (b s) (right s)) in
      fit_abs (x -ℤ y) (omega (arith, abs_sub x y))

pub overflow_mul-f : goal.overflow_mul-f
overflow_mul-f c = rw (one c, two c, to_z-of_z (fits-gain c), to_z-of_z c.ranges.new) (fits-left c)

pub overflow_mul-beta : goal.overflow_mul-beta
overflow_mul-beta c = rw (two (goal.at.overflow_mul-beta c).Start, to_z-of_z c.ranges.old) (fits-right (goal.at.overflow_mul-beta c).Start)

pub overflow_sub-result : goal.overflow_sub-result
overflow_sub-result c = rw (back (x c) c.floor_div.type_inv, back (y c) c.floor_div-2.type_inv) (whole c)

pub returns : goal.returns
unfolding point_of
returns c = rw (back (x c) c.floor_div.type_inv, back (y c) c.floor_div-2.type_inv, to_z-of_z (whole c)) (cc (ex c, ey c))
