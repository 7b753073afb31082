-- Rounding inward takes no limit across zero. Assumes nothing.
use Rattle.std.proofs.Common.{◌≡◌, ℕ, zero, suc, ◌*◌, ◌/◌, ◌^◌, ◌<◌, Bool, true, false, not, ltb, leb, ℤ, pos, negsuc, neg_ℤ, sym, refl, ap, ◌∙◌, add-zero, mul-pos, zero-mul, mul-one, arith, pow_pos, le-ltb, lt-ltb, le-leb}
use lib.Ieee.{Float, nan, inf, fin, up, down, lt}
use lib.Signed.{le_z}
use borrow.Author.Tests.{lt-leb}
use Rattle.integer.specs.Round.{floor}
use Rattle.integer.proofs.Tests.{of_true}
use Rattle.double.specs.Double.{signed, scalable, rounded, round_up, round_down}
use Rattle.double.specs.Sides.{plus_zero, LowKeepsSide, HighKeepsSide}

-- ---- of a fraction
not_above : (n : ℕ) → le_z (neg_ℤ (pos n)) (pos 0) ≡ true
not_above zero = refl
not_above (suc n) = refl

up_side : (z : ℤ) (d : ℕ) → le_z (round_up z d) (pos 0) ≡ le_z z (pos 0)
unfolding floor
up_side (pos zero) d = not_above (0 / d)
up_side (pos (suc n)) d = lt-leb (suc (n / d)) 0 (omega arith) ∙ sym (lt-leb (suc n) 0 (omega arith))
up_side (negsuc n) d = not_above (suc n / d)

down_side : (z : ℤ) (d : ℕ) → le_z (pos 0) (round_down z d) ≡ le_z (pos 0) z
unfolding floor
down_side (pos n) d = le-leb 0 (n / d) (omega arith) ∙ sym (le-leb 0 n (omega arith))
down_side (negsuc n) d = refl

-- ---- of a finite double, which is ±(m × up e) / down e
below_zero : (n : ℕ) → le_z (pos 0) (neg_ℤ (pos n)) ≡ leb n 0
below_zero zero = refl
below_zero (suc n) = sym (lt-leb (suc n) 0 (omega arith))

scaled_side : (k p : ℕ) → 0 < p → leb (k * p) 0 ≡ not (ltb 0 k)
scaled_side zero p h = le-leb (0 * p) 0 (omega arith)
scaled_side (suc k) p h = lt-leb (suc k * p) 0 (mul-pos (omega arith) h) ∙ ap not (sym (lt-ltb 0 (suc k) (omega arith)))

module _ (b m : ℕ) (e : ℤ) where
  low_side : (s : Bool) → le_z (signed s (m * up e * 2 ^ b)) (pos 0) ≡ not (lt plus_zero (fin s m e))
  unfolding lt
  low_side true = not_above (m * up e * 2 ^ b)
  low_side false = rw (zero-mul (down e), mul-one (m * up e)) (scaled_side (m * up e) (2 ^ b) (pow_pos b))

  high_side : (s : Bool) → le_z (pos 0) (signed s (m * up e * 2 ^ b)) ≡ not (lt (fin s m e) plus_zero)
  unfolding lt
  high_side true =
      rw (zero-mul (down e), mul-one (m * up e), add-zero (m * up e)) (below_zero (m * up e * 2 ^ b) ∙ scaled_side (m * up e) (2 ^ b) (pow_pos b))
  high_side false =
      rw (zero-mul (down e)) (le-leb 0 (m * up e * 2 ^ b) (omega arith) ∙ ap not (sym (le-ltb (m * up e * 1) 0 (omega arith))))

-- ---- of a limit that can be scaled
pub low_keeps_side : (b : ℕ) (x : Float) → scalable b x ≡ true → LowKeepsSide b x
unfolding scalable rounded
low_keeps_side b nan h = absurd (of_true h)
low_keeps_side b (inf s) h = absurd (of_true h)
low_keeps_side b (fin s m e) h = up_side (signed s (m * up e * 2 ^ b)) (down e) ∙ low_side b m e s

pub high_keeps_side : (b : ℕ) (x : Float) → scalable b x ≡ true → HighKeepsSide b x
unfolding scalable rounded
high_keeps_side b nan h = absurd (of_true h)
high_keeps_side b (inf s) h = absurd (of_true h)
high_keeps_side b (fin s m e) h = down_side (signed s (m * up e * 2 ^ b)) (down e) ∙ high_side b m e s
