-- A conversion: the machine's product rounds to what the exact product rounds to, and no value beyond ±2^32 rounds to a word. Assumes nothing.
use Rattle.std.proofs.Common.{◌≡◌, ℕ, ◌-◌, ◌*◌, ◌^◌, ◌<◌, ◌≤◌, Bool, true, false, cond, ◌&&◌, T, ltb, ℤ, nat_abs, sym, refl, ap, ◌∙◌, le_trans, mul-le-mul_right, mul-one, arith, lit≤, pow_mono, ltb-false, ltb-true, Some, None}
use mathlib.Core.Bool.{false≢true}
use borrow.Author.Tests.{lt-leb}
use lib.Ieee.{Float, nan, inf, fin, binary64, up, down, lt, mul, fits}
use lib.Ieee.Fits.{down_pos}
use lib.Ieee.Exact.{HasValue}
use lib.Ieee.Scale.{finite}
use Rattle.word.specs.Format.{is_format, top, in_word}
use Rattle.double.specs.Double.{signed, scalable, rounded, accepted, conversion_number, convert, converted_number, round_up, round_down, accepted_limits, limits_number, convert_limits, limit_words_number, power, rounded_word}
use Rattle.double.specs.declared.Limits.{Limits}
use Rattle.double.proofs.Rules.{IsRule, rule_large}
use Rattle.double.proofs.Signs.{abs_signed}
use Rattle.double.proofs.Value.{two32, quotient_of_value, large_below, large_above}
use Rattle.double.proofs.Scale.{scale_exact, scale_over}

-- ---- the answer, by its test
answer_number : (t : Bool) (z : ℤ) → converted_number (cond t (Some z) None) ≡ cond t 0 5
answer_number true z = refl
answer_number false z = refl

pub convert_number : (rule : ℤ → ℕ → ℤ) (b w : ℕ) (x : Float) → converted_number (convert rule b w x) ≡ conversion_number rule b w x
convert_number rule b w x = answer_number (accepted rule b w x) (rounded rule b x)

pub convert_word : (rule : ℤ → ℕ → ℤ) (b w : ℕ) (x : Float) {z : ℤ} → convert rule b w x ≡ Some z → (accepted rule b w x ≡ true) × (z ≡ rounded rule b x)
convert_word rule b w x {z} = go (accepted rule b w x)
  where
    go : (t : Bool) → cond t (Some (rounded rule b x)) None ≡ Some z → (t ≡ true) × (z ≡ rounded rule b x)
    go true e = (refl, cc)
    go false e = (cc, cc)

pub convert_refused : (rule : ℤ → ℕ → ℤ) (b w : ℕ) (x : Float) → convert rule b w x ≡ None → accepted rule b w x ≡ false
convert_refused rule b w x = go (accepted rule b w x)
  where
    go : (t : Bool) → cond t (Some (rounded rule b x)) None ≡ None → t ≡ false
    go true e = cc
    go false e = refl

-- ---- values that no rule takes into the word
outside : (rule : ℤ → ℕ → ℤ) → IsRule rule → (w : ℕ) (z : ℤ) {d : ℕ} → w ≤ 32 → 0 < d → 2 ^ 32 * d ≤ nat_abs z → in_word w (rule z d) ≡ false
outside rule R w z {d} W D h =
    let k = rule_large rule R (2 ^ 32) z D h in
    let p : 2 ^ (w - 1) ≤ 2 ^ 31 = pow_mono {j = 31} (omega arith) in
    lt-leb (nat_abs (rule z d)) (top w) (omega arith)

-- an overflow refuses nothing that the word's range would let pass
pub overflow_outside : (rule : ℤ → ℕ → ℤ) → IsRule rule → (w : ℕ) (s : Bool) (n : ℕ) {d : ℕ} → w ≤ 32 → 0 < d → 2 ^ 1024 * d ≤ n → in_word w (rule (signed s n) d) ≡ false
overflow_outside rule R w s n {d} W D h = outside rule R w (signed s n) W D (rw (abs_signed s n) (le_trans (mul-le-mul_right d (lit≤ tt)) h))

module _ (rule : ℤ → ℕ → ℤ) (R : IsRule rule) (w : ℕ) (W : w ≤ 32) where
  large_refused : (s : Bool) (m : ℕ) (e : ℤ) → 2 ^ 32 * down e ≤ m * up e → None ≡ rounded_word rule w (fin s m e)
  unfolding rounded
  large_refused s m e h = rw (outside rule R w (signed s (m * up e * 1)) W (down_pos e) (rw (abs_signed s (m * up e * 1), mul-one (m * up e)) h))

  pub below_refused : (y : Float) → lt (two32 true) y ≡ false → None ≡ rounded_word rule w y
  below_refused nan h = refl
  below_refused (inf s) h = refl
  below_refused (fin s m e) h = large_refused s m e (large_below s m e h)

  pub above_refused : (y : Float) → lt y (two32 false) ≡ false → None ≡ rounded_word rule w y
  above_refused nan h = refl
  above_refused (inf s) h = refl
  above_refused (fin s m e) h = large_refused s m e (large_above s m e h)

pub rounded_answer : (rule : ℤ → ℕ → ℤ) (w : ℕ) (y : Float) (n : ℤ) (r : Bool) → finite y ≡ true → n ≡ rounded rule 0 y → in_word w n ≡ r → cond r (Some n) None ≡ rounded_word rule w y
rounded_answer rule w y n r f e i = rw (f, sym e, i)

-- ---- the machine's product against the exact one
value_finite : (y : Float) (s : Bool) (a c : ℕ) → HasValue y s a c → finite y ≡ true
value_finite nan s a c v = absurd v
value_finite (inf t) s a c v = absurd v
value_finite (fin t m e) s a c v = refl

rounded_value : (rule : ℤ → ℕ → ℤ) → IsRule rule → (y : Float) (s : Bool) (a : ℕ) {c : ℕ} → 0 < c → HasValue y s a c → rounded rule 0 y ≡ rule (signed s a) c
unfolding rounded
rounded_value rule R nan s a C v = absurd v
rounded_value rule R (inf t) s a C v = absurd v
rounded_value rule R (fin t m e) s a {c} C v =
    ap (λ (k : ℕ). rule (signed t k) (down e)) (mul-one (m * up e)) ∙ R.same (signed t (m * up e)) (signed s a) (down_pos e) C (quotient_of_value (fin t m e) s a c v)

pub record Scaled (rule : ℤ → ℕ → ℤ) (b : ℕ) (x : Float) : Type 0 where
  pub is_finite : finite (mul binary64 x (power b)) ≡ scalable b x
  pub rounds : scalable b x ≡ true → rounded rule 0 (mul binary64 x (power b)) ≡ rounded rule b x

scaled_law : (rule : ℤ → ℕ → ℤ) → IsRule rule → (b : ℕ) (x : Float) → T (fits binary64 x) → Scaled rule b x
unfolding scalable rounded
scaled_law rule R b nan t = record { is_finite = unfold mul in refl; rounds = λ e. absurd (false≢true e) }
scaled_law rule R b (inf s) t = record { is_finite = unfold mul in refl; rounds = λ e. absurd (false≢true e) }
scaled_law rule R b (fin s m e) t = record {
  is_finite = go (ltb (m * up e * 2 ^ b) (2 ^ 1024 * down e)) refl;
  rounds = λ h. rounded_value rule R (mul binary64 (fin s m e) (power b)) s (m * up e * 2 ^ b) (down_pos e) (scale_exact binary64 s m e b t (ltb-true _ _ h));
}
  where
    go : (l : Bool) → ltb (m * up e * 2 ^ b) (2 ^ 1024 * down e) ≡ l → finite (mul binary64 (fin s m e) (power b)) ≡ l
    go true h = value_finite (mul binary64 (fin s m e) (power b)) s (m * up e * 2 ^ b) (down e) (scale_exact binary64 s m e b t (ltb-true _ _ h))
    go false h = ap finite (scale_over s m e b (ltb-false _ _ h))

pub convert_scaled : (rule : ℤ → ℕ → ℤ) → IsRule rule → (b w : ℕ) (x : Float) → is_format b w ≡ true → T (fits binary64 x)
    → rounded_word rule w (mul binary64 x (power b)) ≡ convert rule b w x
unfolding accepted
convert_scaled rule R b w x u t =
    let k = scaled_law rule R b x t in
    rw u (go (finite (mul binary64 x (power b))) (scalable b x) (rounded rule 0 (mul binary64 x (power b))) (rounded rule b x) k.is_finite k.rounds)
  where
    go : (f s : Bool) (y z : ℤ) → f ≡ s → (s ≡ true → y ≡ z) → cond (f && in_word w y) (Some y) None ≡ cond (s && in_word w z) (Some z) None
    go f true y z p q = rw (p, q refl)
    go f false y z p q = rw p

pub convert_unformatted : (rule : ℤ → ℕ → ℤ) (b w : ℕ) (x : Float) → is_format b w ≡ false → None ≡ convert rule b w x
unfolding accepted
convert_unformatted rule b w x u = rw u

-- ---- a motor's limits, by the two answers
module _ (b w : ℕ) (l : Limits) where
  pub limits_pair : {low high : ℤ} → convert round_up b w l.low ≡ Some low → convert round_down b w l.high ≡ Some high → Some (low, high) ≡ convert_limits b w l
  limits_pair p q =
      let i = convert_word round_up b w l.low p in
      let j = convert_word round_down b w l.high q in
      rw (i.0, j.0, i.1, j.1)

  pub limits_low : convert round_up b w l.low ≡ None → None ≡ convert_limits b w l
  limits_low p = rw (convert_refused round_up b w l.low p)

  pub limits_high : {low : ℤ} → convert round_up b w l.low ≡ Some low → convert round_down b w l.high ≡ None → None ≡ convert_limits b w l
  limits_high p q = rw ((convert_word round_up b w l.low p).0, convert_refused round_down b w l.high q)

pub limits_number_lem : (b w : ℕ) (l : Limits) → limit_words_number (convert_limits b w l) ≡ limits_number b w l
limits_number_lem b w l = go (accepted_limits b w l) (rounded round_up b l.low, rounded round_down b l.high)
  where
    go : (t : Bool) (words : ℤ × ℤ) → limit_words_number (cond t (Some words) None) ≡ cond t 0 5
    go true words = refl
    go false words = refl
