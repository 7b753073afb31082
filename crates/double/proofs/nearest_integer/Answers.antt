-- What its comparisons tell is in `Steps.antt`. Assumes nothing.
use Rattle.std.proofs.Common.{◌≡◌, ℕ, zero, suc, ◌/◌, ◌%◌, ◌^◌, ◌≤◌, true, ℤ, pos, negsuc, ◌+ℤ◌, ◌*ℤ◌, neg_ℤ, nat_abs, refl, arith, to_z-of_z, w64, SFits, to_z, of_z}
use lib.Signed.{quot_z, rem_z}
use denote.Floats.{passes}
use Rattle.integer.proofs.Machine.{fit_abs, sfits_add, sfits_mul}
use Rattle.double.proofs.Signs.{abs_signed}
use Rattle.double.proofs.Value.{small}
use Rattle.double.proofs.Back.{in_float_lem}
use Rattle.double.proofs.FromFloor.{middle}
use Rattle.double.proofs.Steps.{ByFloor, by_floor}
use Rattle.double.proofs.nearest_integer.Goals.{Start}
use Rattle.double.proofs.nearest_integer.Goals as goal

-- what the remainder tells, as the machine has it
rem-0 : (z : ℤ) → nat_abs z % 2 ≡ 0 → of_z w64 (rem_z z (pos 2)) ≡ 0
rem-0 (pos a) e = rw e
rem-0 (negsuc a) e = rw e

rem-1 : (z : ℤ) → nat_abs z % 2 ≡ 1 → of_z w64 (rem_z z (pos 2)) ≡ 0 → ⊥
rem-1 (pos a) e h = let g = rw e at h in omega arith
rem-1 (negsuc a) e h = let g = rw e at h in omega arith

parity : (z : ℤ) → (of_z w64 (rem_z z (pos 2)) ≡ 0 → nat_abs z % 2 ≡ 0) × ((of_z w64 (rem_z z (pos 2)) ≡ 0 → ⊥) → nat_abs z % 2 ≡ 1)
parity z = by (nat_abs z % 2) refl
  where
    by : (r : ℕ) → nat_abs z % 2 ≡ r → (of_z w64 (rem_z z (pos 2)) ≡ 0 → r ≡ 0) × ((of_z w64 (rem_z z (pos 2)) ≡ 0 → ⊥) → r ≡ 1)
    by zero e = (λ h. refl, λ h. absurd (h (rem-0 z e)))
    by (suc zero) e = (λ h. absurd (rem-1 z e h), λ h. refl)
    by (suc (suc r)) e = absurd (omega arith)

half-fits : (z : ℤ) → nat_abs z ≤ 2 ^ 32 → SFits w64 (quot_z z (pos 2))
half-fits (pos a) h = fit_abs (pos (a / 2)) (omega arith)
half-fits (negsuc a) h = fit_abs (neg_ℤ (pos (suc a / 2))) (rw (abs_signed true (suc a / 2)) (omega arith))

module _ (c : Start) where
  abbrev q : ℤ
  q = c.args.q

  known : ByFloor c.args.y q
  known = by_floor c.args.y q (passes _ c.well_formed.0.1) (small c.args.y c.requires.y_value.0 c.requires.y_value.1) c.requires.q_value

  read : to_z w64 (of_z w64 q) ≡ q
  read = to_z-of_z (fit_abs q (let k = known.small in omega arith))

  twice-fits : SFits w64 (pos 2 *ℤ q)
  twice-fits = sfits_mul (pos 2) q 2 (2 ^ 32) (omega arith) known.small (omega arith)

  middle-read : to_z w64 (of_z w64 (to_z w64 (of_z w64 (pos 2 *ℤ to_z w64 (of_z w64 q))) +ℤ pos 1)) ≡ middle q
  middle-read = rw (read, to_z-of_z twice-fits) (to_z-of_z (fit_abs (middle q) (let k = known.middle_small in omega arith)))

  more-fits : SFits w64 (q +ℤ pos 1)
  more-fits = sfits_add q (pos 1) (2 ^ 32) 1 known.small (omega arith) (omega arith)

pub overflow_mul-twice_middle : goal.overflow_mul-twice_middle
overflow_mul-twice_middle c = let a = (goal.at.overflow_mul-twice_middle c).Start in rw (read a) (twice-fits a)

pub overflow_add-twice_middle : goal.overflow_add-twice_middle
overflow_add-twice_middle c = let a = (goal.at.overflow_add-twice_middle c).Start in rw (read a, to_z-of_z (twice-fits a)) (fit_abs (middle (q a)) (let k = (known a).middle_small in omega arith))

pub int_to_float-twice_middle : goal.int_to_float-twice_middle
int_to_float-twice_middle c = let a = (goal.at.int_to_float-twice_middle c).Start in rw (middle-read a) (in_float_lem (middle (q a)) (let k = (known a).middle_small in omega arith))

pub returns-then-twice_y-twice_middle : goal.returns-then-twice_y-twice_middle
returns-then-twice_y-twice_middle c =
    let a = (goal.at.returns-then-twice_y-twice_middle c).Start in
    rw (read a) ((known a).before (rw (middle-read a, c.scaled-twice_y.ensures) at c.if-twice_y-twice_middle.true))

pub overflow_add-result : goal.overflow_add-result
overflow_add-result c = let a = (goal.at.overflow_add-result c).Start in rw (read a) (more-fits a)

pub returns-then-twice_middle-twice_y : goal.returns-then-twice_middle-twice_y
returns-then-twice_middle-twice_y c =
    let a = (goal.at.returns-then-twice_middle-twice_y c).Start in
    rw (read a, to_z-of_z (more-fits a)) ((known a).after (rw (middle-read a, c.scaled-twice_y.ensures) at c.if-twice_middle-twice_y.true))

pub nonzero_rem-q : goal.nonzero_rem-q
nonzero_rem-q c = let a = (goal.at.nonzero_rem-q c).Start in (omega arith, rw (read a) (half-fits (q a) (known a).small))

pub overflow_add-result-else-q-eq0 : goal.overflow_add-result-else-q-eq0
overflow_add-result-else-q-eq0 c = let a = (goal.at.overflow_add-result-else-q-eq0 c).Start in rw (read a) (more-fits a)

pub returns-then-q-eq0 : goal.returns-then-q-eq0
returns-then-q-eq0 c =
    let a = (goal.at.returns-then-q-eq0 c).Start in
    let e = c.scaled-twice_y.ensures in
    rw (read a) ((known a).even (rw (middle-read a, e) at c.if-twice_y-twice_middle.false) (rw (middle-read a, e) at c.if-twice_middle-twice_y.false) ((parity (q a)).0 (rw (read a) at c.if-q-eq0.true)))

pub returns-else-q-eq0 : goal.returns-else-q-eq0
returns-else-q-eq0 c =
    let a = (goal.at.returns-else-q-eq0 c).Start in
    let e = c.scaled-twice_y.ensures in
    rw (read a, to_z-of_z (more-fits a))
    ((known a).odd (rw (middle-read a, e) at c.if-twice_y-twice_middle.false) (rw (middle-read a, e) at c.if-twice_middle-twice_y.false) ((parity (q a)).1 (rw (read a) at c.if-q-eq0.false)))
