-- The way back: a word divided by 2^b is exactly that quotient, and converts to the word again under every rule. Assumes nothing.
use Rattle.std.proofs.Common.{◌≡◌, ℕ, ◌*◌, ◌^◌, ◌<◌, ◌≤◌, Bool, true, false, T, ℤ, pos, negsuc, nat_abs, sym, refl, ap, ◌∙◌, subst, zero-le, le_trans, lt_of_lt_of_le, mul_assoc, mul_comm, mul-lt-mul_of_pos_right, mul-pos, one-mul, zero-mul, mul-one, lit<, lit≤, le→leb, lt→ltb, pow_pos, lt-ltb, le-leb, Some}
use native.Mathlib.Nat.{eq_of_mul-eq-mul_right}
use lib.Ieee.{Float, nan, inf, fin, binary64, up, down, round, div, of_int, in_float, fits}
use lib.Ieee.Fits.{down_pos, round-fits}
use lib.Ieee.Back.{whole_unique}
use lib.Ieee.Exact.{HasValue}
use lib.Ieee.Scale.{round_same}
use Rattle.integer.proofs.Laws.{abs_mul}
use Rattle.word.specs.Format.{is_format, top, in_word}
use Rattle.word.proofs.Format.{format, word_small}
use Rattle.double.specs.Double.{scalable, rounded, accepted, convert, is_negative, double_value, HasQuotient, power}
use Rattle.double.proofs.Rules.{IsRule, rule_integer}
use Rattle.double.proofs.Signs.{abs_signed, signed_abs, signed_mul}
use Rattle.double.proofs.Value.{quotient_of_value, of_int_value}
use Rattle.double.proofs.Scale.{round_part}

-- ---- the machine's quotient is one rounding of the exact one
pub in_float_lem : (z : ℤ) → nat_abs z ≤ 2 ^ 53 → T (in_float binary64 z)
unfolding in_float
in_float_lem (pos n) h = le→leb n (2 ^ 53) h
in_float_lem (negsuc n) h = lt→ltb n (2 ^ 53) h

div_is : (s : Bool) (m : ℕ) (e : ℤ) (b : ℕ) → div binary64 (fin s m e) (power b) ≡ round binary64 s (m * up e) (2 ^ b * down e)
unfolding div
div_is true m e b = simp (one-mul, mul-one)
div_is false m e b = simp (one-mul, mul-one)

div_power : (x : Float) (s : Bool) (n b : ℕ) → HasValue x s n 1 → div binary64 x (power b) ≡ round binary64 s n (2 ^ b)
div_power nan s n b v = absurd v
div_power (inf t) s n b v = absurd v
div_power (fin t m e) s n b v =
    let p : m * up e ≡ n * down e = sym (mul-one (m * up e)) ∙ v.1 in
    div_is t m e b
    ∙ round_same binary64 t (m * up e) (2 ^ b * down e) n (2 ^ b) (mul-pos (pow_pos b) (down_pos e)) (pow_pos b) (ap (λ (x : ℕ). x * 2 ^ b) p ∙ simp (mul_assoc, mul_comm))
    ∙ ap (λ (u : Bool). round binary64 u n (2 ^ b)) v.0

pub quotient_is : (z : ℤ) (b : ℕ) → nat_abs z ≤ 2 ^ 53 → div binary64 (of_int binary64 z) (power b) ≡ round binary64 (is_negative z) (nat_abs z) (2 ^ b)
quotient_is z b h = div_power (of_int binary64 z) (is_negative z) (nat_abs z) b (of_int_value z h)

-- ---- which loses nothing
pub quotient_exact : (z : ℤ) (b : ℕ) → nat_abs z < 2 ^ 53 → b ≤ 1074 → HasQuotient (round binary64 (is_negative z) (nat_abs z) (2 ^ b)) z (2 ^ b)
quotient_exact z b h k =
    let x = round binary64 (is_negative z) (nat_abs z) (2 ^ b) in
    subst (λ (i : ℤ). HasQuotient x i (2 ^ b)) (signed_abs z) (quotient_of_value x (is_negative z) (nat_abs z) (2 ^ b) (round_part binary64 (is_negative z) (nat_abs z) b h k))

pub value_exact : (b w : ℕ) (z : ℤ) → is_format b w ≡ true → in_word w z ≡ true → HasQuotient (double_value b w z) z (2 ^ b)
value_exact b w z u i =
    let f = format b w u in
    rw (u, i) (quotient_exact z b (lt_of_lt_of_le (word_small w z f.width_most i) (lit≤ tt)) (le_trans f.fraction_most (lit≤ tt)))

-- ---- there and back
back_scalable : (b : ℕ) (x : Float) (z : ℤ) → nat_abs z < 2 ^ 1024 → HasQuotient x z (2 ^ b) → scalable b x ≡ true
unfolding scalable
back_scalable b nan z h v = absurd v
back_scalable b (inf s) z h v = absurd v
back_scalable b (fin s m e) z h v =
    let k : m * up e * 2 ^ b ≡ nat_abs z * down e = sym (abs_signed s (m * up e * 2 ^ b)) ∙ ap nat_abs (signed_mul s (m * up e) (2 ^ b) ∙ v) ∙ abs_mul z (pos (down e)) in
    lt-ltb (m * up e * 2 ^ b) (2 ^ 1024 * down e) (rw k (mul-lt-mul_of_pos_right h (down_pos e)))

back_rounded : (rule : ℤ → ℕ → ℤ) → IsRule rule → (b : ℕ) (x : Float) (z : ℤ) → HasQuotient x z (2 ^ b) → rounded rule b x ≡ z
unfolding rounded
back_rounded rule R b nan z v = absurd v
back_rounded rule R b (inf s) z v = absurd v
back_rounded rule R b (fin s m e) z v = ap (λ (i : ℤ). rule i (down e)) (signed_mul s (m * up e) (2 ^ b) ∙ v) ∙ rule_integer rule R z (down_pos e)

back_accepted : (rule : ℤ → ℕ → ℤ) (b w : ℕ) (x : Float) {z : ℤ} → is_format b w ≡ true → in_word w z ≡ true → scalable b x ≡ true → rounded rule b x ≡ z → accepted rule b w x ≡ true
unfolding accepted
back_accepted rule b w x u i s r = rw (u, s, r, i)

pub round_trip : (rule : ℤ → ℕ → ℤ) → IsRule rule → (b w : ℕ) (z : ℤ) → is_format b w ≡ true → in_word w z ≡ true → convert rule b w (double_value b w z) ≡ Some z
round_trip rule R b w z u i =
    let x = double_value b w z in
    let v = value_exact b w z u i in
    let n : nat_abs z < 2 ^ 1024 = lt_of_lt_of_le (word_small w z (format b w u).width_most i) (lit≤ tt) in
    let r = back_rounded rule R b x z v in
    go x (back_accepted rule b w x u i (back_scalable b x z n v) r) r
  where
    go : (x : Float) → accepted rule b w x ≡ true → rounded rule b x ≡ z → convert rule b w x ≡ Some z
    go x a r = rw (a, r)

-- ---- "plus zero" of word 0
zero_value : (x : Float) (b : ℕ) → HasValue x false 0 (2 ^ b) → HasValue x false 0 1
zero_value nan b v = v
zero_value (inf s) b v = v
zero_value (fin s m e) b v = (v.0, eq_of_mul-eq-mul_right (2 ^ b) (pow_pos b) (m * up e * 1) (0 * down e) (simp (mul-one, zero-mul) (v.1 ∙ zero-mul (down e))))

pub value_zero : (b w : ℕ) → is_format b w ≡ true → double_value b w (pos 0) ≡ fin false 0 (pos 0)
value_zero b w u =
    let x = round binary64 false 0 (2 ^ b) in
    let v = zero_value x b (round_part binary64 false 0 b (lit< tt) (le_trans (format b w u).fraction_most (lit≤ tt))) in
    rw (u, le-leb 0 (top w) zero-le) (whole_unique binary64 x (fin false 0 (pos 0)) false 0 (round-fits binary64 false 0 (2 ^ b)) zero_fits v (refl, refl))
  where
    zero_fits : T (fits binary64 (fin false 0 (pos 0)))
    zero_fits = unfold fits in tt
