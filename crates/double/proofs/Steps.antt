-- What the comparisons of `floor_integer`, `round_integer` and `nearest_integer` tell of a double y below 2^32 in magnitude. Assumes nothing.
use Rattle.std.proofs.Common.{◌≡◌, ℕ, ◌*◌, ◌%◌, ◌^◌, ◌<◌, ◌≤◌, true, false, T, ℤ, pos, ◌+ℤ◌, ◌-ℤ◌, ◌*ℤ◌, nat_abs, sym, ◌∙◌, subst, le_trans, lt_of_lt_of_le, le_of_lt, mul-le-mul_right, arith, lit≤}
use mathlib.Core.Bool.{false≢true}
use lib.Signed.{lt_z}
use lib.Ieee.{Float, nan, inf, fin, binary64, up, down, lt, mul, fits, of_int}
use Rattle.integer.specs.Parts.{int, nat, ◌⊕◌, ◌⊙◌}
use Rattle.integer.proofs.Parts.{abs!, abs?}
use Rattle.integer.proofs.Laws.{≤ℤ-antisym}
use Rattle.double.specs.Double.{round_down, round_up, round_nearest, rounded, power, HasQuotient}
use Rattle.double.proofs.Rules.{down_rule, rule_small, down_less, down_same}
use Rattle.double.proofs.FromFloor.{middle, up_more, up_same, nearest_before, nearest_after, nearest_even, nearest_odd}
use Rattle.double.proofs.Signs.{abs_signed, signed_mul}
use Rattle.double.proofs.Value.{quotient_of_value, less_integer, more_integer, lt_z_true, lt_z_false, num, den, Small, Truncated}
use Rattle.double.proofs.Scale.{scale_exact}

-- ---- the floor, by y truncated
module _ (y : Float) (n : ℤ) (a : Small y) (t : Truncated y n) where
  within_53 : nat_abs n ≤ 2 ^ 53
  within_53 = le_trans t.integer (lit≤ tt)

  pub floor_less : lt y (of_int binary64 n) ≡ true → n -ℤ pos 1 ≡ rounded round_down 0 y
  floor_less h =
      down_less (num y) n a.positive t.within (lt_z_true (sym (less_integer y (num y) a.positive a.has_quotient n within_53) ∙ h))
      ∙ sym (a.as_fraction round_down)

  pub floor_same : lt y (of_int binary64 n) ≡ false → n ≡ rounded round_down 0 y
  floor_same h =
      down_same (num y) n a.positive t.within (lt_z_false (sym (less_integer y (num y) a.positive a.has_quotient n within_53) ∙ h))
      ∙ sym (a.as_fraction round_down)

-- ---- the other rules, by the floor q

-- twice y
abbrev pub twice : Float → Float
twice y = mul binary64 y (power 1)

pub record ByFloor (y : Float) (q : ℤ) : Type 0 where
  pub small : nat_abs q ≤ 2 ^ 32
  pub middle_small : nat_abs (middle q) ≤ 2 ^ 34
  -- q as a double beside y: nothing or something is left above q
  pub ceiling_same : lt (of_int binary64 q) y ≡ false → q ≡ rounded round_up 0 y
  pub ceiling_more : lt (of_int binary64 q) y ≡ true → q +ℤ pos 1 ≡ rounded round_up 0 y
  -- y before the middle, after it, and on it with q even or odd
  pub before : lt (twice y) (of_int binary64 (middle q)) ≡ true → q ≡ rounded round_nearest 0 y
  pub after : lt (of_int binary64 (middle q)) (twice y) ≡ true → q +ℤ pos 1 ≡ rounded round_nearest 0 y
  pub even : lt (twice y) (of_int binary64 (middle q)) ≡ false → lt (of_int binary64 (middle q)) (twice y) ≡ false → nat_abs q % 2 ≡ 0 → q ≡ rounded round_nearest 0 y
  pub odd : lt (twice y) (of_int binary64 (middle q)) ≡ false → lt (of_int binary64 (middle q)) (twice y) ≡ false → nat_abs q % 2 ≡ 1 → q +ℤ pos 1 ≡ rounded round_nearest 0 y

twice_quotient : (y : Float) → T (fits binary64 y) → Small y → HasQuotient (twice y) (num y *ℤ pos 2) (den y)
twice_quotient nan f a = absurd (false≢true a.is_finite)
twice_quotient (inf s) f a = absurd (false≢true a.is_finite)
twice_quotient (fin s m e) f a =
    let h : m * up e < 2 ^ 32 * down e = subst (λ (k : ℕ). k < 2 ^ 32 * down e) (abs_signed s (m * up e)) a.magnitude in
    let g : m * up e * 2 < 2 ^ 33 * down e = omega arith in
    let l : 2 ^ 33 * down e ≤ 2 ^ 1024 * down e = mul-le-mul_right (down e) (lit≤ tt) in
    subst (λ (z : ℤ). HasQuotient (twice (fin s m e)) z (down e)) (signed_mul s (m * up e) 2)
    (quotient_of_value (twice (fin s m e)) s (m * up e * 2) (down e) (scale_exact binary64 s m e 1 f (lt_of_lt_of_le g l)))

by_floor_of : (y : Float) → T (fits binary64 y) → (a : Small y) → ByFloor y (round_down (num y) (den y))
by_floor_of y f a = record {
  small = s;
  middle_small = s2;
  ceiling_same = λ h. up_same z D (lt_z_false (sym m ∙ h)) ∙ sym (a.as_fraction round_up);
  ceiling_more = λ h. up_more z D (lt_z_true (sym m ∙ h)) ∙ sym (a.as_fraction round_up);
  before = λ h. nearest_before z D (lt_z_true (sym l2 ∙ h)) ∙ sym (a.as_fraction round_nearest);
  after = λ h. nearest_after z D (lt_z_true (sym m2 ∙ h)) ∙ sym (a.as_fraction round_nearest);
  even = λ h k e. nearest_even z D (level h k) e ∙ sym (a.as_fraction round_nearest);
  odd = λ h k e. nearest_odd z D (level h k) e ∙ sym (a.as_fraction round_nearest);
}
  where
    z : ℤ
    z = num y

    D : 0 < den y
    D = a.positive

    q : ℤ
    q = round_down z (den y)

    s : nat_abs q ≤ 2 ^ 32
    s = rule_small round_down down_rule (2 ^ 32) z D (le_of_lt a.magnitude)

    s2 : nat_abs (middle q) ≤ 2 ^ 34
    s2 = let k = abs? (int q) s in abs! (2 ⊙ int q ⊕ nat 1) (omega arith) (omega arith)

    m : lt (of_int binary64 q) y ≡ lt_z (q *ℤ pos (den y)) z
    m = more_integer y z D a.has_quotient q (le_trans s (lit≤ tt))

    l2 : lt (twice y) (of_int binary64 (middle q)) ≡ lt_z (z *ℤ pos 2) (middle q *ℤ pos (den y))
    l2 = less_integer (twice y) (z *ℤ pos 2) D (twice_quotient y f a) (middle q) (le_trans s2 (lit≤ tt))

    m2 : lt (of_int binary64 (middle q)) (twice y) ≡ lt_z (middle q *ℤ pos (den y)) (z *ℤ pos 2)
    m2 = more_integer (twice y) (z *ℤ pos 2) D (twice_quotient y f a) (middle q) (le_trans s2 (lit≤ tt))

    level : lt (twice y) (of_int binary64 (middle q)) ≡ false → lt (of_int binary64 (middle q)) (twice y) ≡ false → z *ℤ pos 2 ≡ middle q *ℤ pos (den y)
    level h k = ≤ℤ-antisym (lt_z_false (sym m2 ∙ k)) (lt_z_false (sym l2 ∙ h))

pub by_floor : (y : Float) (q : ℤ) → T (fits binary64 y) → Small y → q ≡ rounded round_down 0 y → ByFloor y q
by_floor y q f a e = subst (ByFloor y) (sym (e ∙ a.as_fraction round_down)) (by_floor_of y f a)
