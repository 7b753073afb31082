-- The value of a finite double as a fraction of integers: comparing doubles is comparing fractions, and truncation loses less than 1. Assumes nothing.
use Rattle.std.proofs.Common.{◌≡◌, ℕ, zero, suc, ◌+◌, ◌-◌, ◌*◌, ◌/◌, ◌^◌, ◌<◌, ◌≤◌, min, Bool, true, false, cond, T, ltb, ℤ, pos, negsuc, ◌*ℤ◌, neg_ℤ, nat_abs, ◌≤ℤ◌, ◌<ℤ◌, sym, refl, ap, ◌∙◌, subst, mod-lt, div-lt_iff_lt-mul, mul-lt-mul_of_pos_right, mul-pos, div-add-mod', zero-add, mul-one, arith, lit<, ltb-false, ltb-true, le-ltb, lt-ltb}
use mathlib.Core.Bool.{false≢true}
use lib.IntN.{one, *ℤ-one}
use lib.Signed.{lt_z, lt_z_yes, lt_z_no, clash_ℤ}
use lib.Ieee.{Float, nan, inf, fin, binary64, up, down, below, lt, le, to_signed, of_int}
use lib.Ieee.Scale.{finite}
use lib.Ieee.Fits.{down_pos}
use lib.Ieee.Bits.{is_true}
use lib.Ieee.Exact.{HasValue}
use lib.Ieee.Back.{round_whole}
use Rattle.integer.specs.Parts.{int, nat, ◌⊕◌, ◌⊡◌, neg}
use Rattle.integer.proofs.Parts.{eq!, lt!, lt?}
use Rattle.integer.proofs.Laws.{scale_mono}
use Rattle.double.specs.Double.{signed, is_negative, rounded, HasQuotient}
use Rattle.double.proofs.Signs.{abs_signed, signed_abs, signed_mul}
use Rattle.double.proofs.Rules.{Within1}

-- ---- the value by the library's relation
pub quotient_of_value : (x : Float) (s : Bool) (a c : ℕ) → HasValue x s a c → HasQuotient x (signed s a) c
quotient_of_value nan s a c v = v
quotient_of_value (inf t) s a c v = v
quotient_of_value (fin t m e) s a c v = sym (signed_mul t (m * up e) c) ∙ ap (signed t) v.1 ∙ ap (λ (u : Bool). signed u (a * down e)) v.0 ∙ signed_mul s a (down e)

-- ---- order
pub lt_lt_z : {a b : ℤ} → a <ℤ b → lt_z a b ≡ true
lt_lt_z h = is_true _ h.lt

pub le_lt_z : (a b : ℤ) → b ≤ℤ a → lt_z a b ≡ false
le_lt_z a b h = go (lt_z a b) refl
  where
    go : (t : Bool) → lt_z a b ≡ t → t ≡ false
    go true e = clash_ℤ (lt_z_yes (subst T (sym e) tt)) h
    go false e = refl

pub lt_z_true : {a b : ℤ} → lt_z a b ≡ true → a <ℤ b
lt_z_true e = lt_z_yes (subst T (sym e) tt)

pub lt_z_false : {a b : ℤ} → lt_z a b ≡ false → b ≤ℤ a
lt_z_false e = lt_z_no (rw e tt)

lt_z_scale : (a b : ℤ) {k : ℕ} → 0 < k → lt_z (a *ℤ pos k) (b *ℤ pos k) ≡ lt_z a b
lt_z_scale a b {k} K = go (lt_z a b) refl
  where
    go : (t : Bool) → lt_z a b ≡ t → lt_z (a *ℤ pos k) (b *ℤ pos k) ≡ t
    go true e = lt_lt_z (lt! (int a ⊡ k) (int b ⊡ k) (omega (arith, mul-lt-mul_of_pos_right (lt? (int a) (int b) (lt_z_true e)) K)))
    go false e = le_lt_z (a *ℤ pos k) (b *ℤ pos k) (scale_mono k {a = b} {b = a} (lt_z_false e))

below_lt_z : (s : Bool) (a : ℕ) (t : Bool) (b : ℕ) → below s a t b ≡ lt_z (signed s a) (signed t b)
below_lt_z false a false b = refl
below_lt_z false a true zero = sym (le-ltb a 0 (omega arith))
below_lt_z false a true (suc b) = refl
below_lt_z true zero false b = ap (ltb 0) (zero-add b)
below_lt_z true (suc a) false b = lt-ltb 0 (suc a + b) (omega arith)
below_lt_z true zero true zero = refl
below_lt_z true (suc a) true zero = lt-ltb 0 (suc a) (omega arith)
below_lt_z true zero true (suc b) = le-ltb (suc b) 0 (omega arith)
below_lt_z true (suc a) true (suc b) = go (ltb b a) refl
  where
    go : (t : Bool) → ltb b a ≡ t → ltb (suc b) (suc a) ≡ t
    go true e = let h = ltb-true b a e in lt-ltb (suc b) (suc a) (omega arith)
    go false e = let h = ltb-false b a e in le-ltb (suc b) (suc a) (omega arith)

pub lt_quotient : (x y : Float) (p q : ℤ) {c d : ℕ} → 0 < c → 0 < d → HasQuotient x p c → HasQuotient y q d → lt x y ≡ lt_z (p *ℤ pos d) (q *ℤ pos c)
unfolding lt
lt_quotient nan y p q C D v w = absurd v
lt_quotient (inf s) y p q C D v w = absurd v
lt_quotient (fin s m e) nan p q C D v w = absurd w
lt_quotient (fin s m e) (inf t) p q C D v w = absurd w
lt_quotient (fin s m e) (fin t k g) p q {c} {d} C D v w =
    below_lt_z s (m * up e * down g) t (k * up g * down e)
    ∙ ap (λ (i : ℤ). lt_z i (signed t (k * up g * down e))) (signed_mul s (m * up e) (down g))
    ∙ ap (lt_z (signed s (m * up e) *ℤ pos (down g))) (signed_mul t (k * up g) (down e))
    ∙ cross (signed s (m * up e)) (signed t (k * up g)) (down e) (down g) (down_pos e) (down_pos g) v w
  where
    cross : (x y : ℤ) (e g : ℕ) → 0 < e → 0 < g → x *ℤ pos c ≡ p *ℤ pos e → y *ℤ pos d ≡ q *ℤ pos g → lt_z (x *ℤ pos g) (y *ℤ pos e) ≡ lt_z (p *ℤ pos d) (q *ℤ pos c)
    cross x y e g E G v w =
        let l : x *ℤ pos g *ℤ pos (c * d) ≡ p *ℤ pos d *ℤ pos (e * g) =
        eq! (int x ⊡ g ⊡ (c * d)) (int x ⊡ c ⊡ (g * d)) (omega arith) ∙ ap (λ (i : ℤ). i *ℤ pos (g * d)) v ∙ eq! (int p ⊡ e ⊡ (g * d)) (int p ⊡ d ⊡ (e * g)) (omega arith) in
        let r : y *ℤ pos e *ℤ pos (c * d) ≡ q *ℤ pos c *ℤ pos (e * g) =
        eq! (int y ⊡ e ⊡ (c * d)) (int y ⊡ d ⊡ (e * c)) (omega arith) ∙ ap (λ (i : ℤ). i *ℤ pos (e * c)) w ∙ eq! (int q ⊡ g ⊡ (e * c)) (int q ⊡ c ⊡ (e * g)) (omega arith) in
        sym (lt_z_scale (x *ℤ pos g) (y *ℤ pos e) (mul-pos C D)) ∙ ap (λ (i : ℤ). lt_z i (y *ℤ pos e *ℤ pos (c * d))) l ∙ ap (lt_z (p *ℤ pos d *ℤ pos (e * g))) r
        ∙ lt_z_scale (p *ℤ pos d) (q *ℤ pos c) (mul-pos E G)

-- ---- an integer as a double
pub of_int_value : (z : ℤ) → nat_abs z ≤ 2 ^ 53 → HasValue (of_int binary64 z) (is_negative z) (nat_abs z) 1
unfolding of_int
of_int_value (pos n) h = round_whole binary64 false n h
of_int_value (negsuc n) h = round_whole binary64 true (suc n) h

of_int_quotient : (z : ℤ) → nat_abs z ≤ 2 ^ 53 → HasQuotient (of_int binary64 z) z 1
of_int_quotient z h = subst (λ (i : ℤ). HasQuotient (of_int binary64 z) i 1) (signed_abs z) (quotient_of_value (of_int binary64 z) (is_negative z) (nat_abs z) 1 (of_int_value z h))

-- a double of value p / c against an integer
module _ (x : Float) (p : ℤ) {c : ℕ} (C : 0 < c) (v : HasQuotient x p c) (n : ℤ) (h : nat_abs n ≤ 2 ^ 53) where
  pub less_integer : lt x (of_int binary64 n) ≡ lt_z p (n *ℤ pos c)
  unfolding one
  less_integer = lt_quotient x (of_int binary64 n) p n C (lit< tt) v (of_int_quotient n h) ∙ ap (λ (z : ℤ). lt_z z (n *ℤ pos c)) (*ℤ-one p)

  pub more_integer : lt (of_int binary64 n) x ≡ lt_z (n *ℤ pos c) p
  unfolding one
  more_integer = lt_quotient (of_int binary64 n) x n p (lit< tt) C (of_int_quotient n h) v ∙ ap (lt_z (n *ℤ pos c)) (*ℤ-one p)

-- ---- the fraction of a double
abbrev pub num : Float → ℤ
num nan = pos 0
num (inf s) = pos 0
num (fin s m e) = signed s (m * up e)

abbrev pub den : Float → ℕ
den nan = 1
den (inf s) = 1
den (fin s m e) = down e

-- 2^32, and a double that it bounds
abbrev pub two32 : Bool → Float
two32 s = fin s 1 (pos 32)

pub record Small (y : Float) : Type 0 where
  pub is_finite : finite y ≡ true
  pub magnitude : nat_abs (num y) < 2 ^ 32 * den y
  pub positive : 0 < den y
  pub has_quotient : HasQuotient y (num y) (den y)
  pub as_fraction : (rule : ℤ → ℕ → ℤ) → rounded rule 0 y ≡ rule (num y) (den y)

pub small : (y : Float) → lt (two32 true) y ≡ true → lt y (two32 false) ≡ true → Small y
unfolding lt rounded
small nan h k = absurd (false≢true h)
small (inf true) h k = absurd (false≢true h)
small (inf false) h k = absurd (false≢true k)
small (fin s m e) h k = record {
  is_finite = refl;
  magnitude = bound s h k;
  positive = down_pos e;
  has_quotient = refl;
  as_fraction = λ rule. ap (λ (a : ℕ). rule (signed s a) (down e)) (mul-one (m * up e));
}
  where
    bound : (s : Bool) → below true (1 * 2 ^ 32 * down e) s (m * up e * 1) ≡ true → below s (m * up e * 1) false (1 * 2 ^ 32 * down e) ≡ true → nat_abs (signed s (m * up e)) < 2 ^ 32 * down e
    bound true h k = rw (abs_signed true (m * up e)) (let i = ltb-true (m * up e * 1) (1 * 2 ^ 32 * down e) h in omega arith)
    bound false h k = let i = ltb-true (m * up e * 1) (1 * 2 ^ 32 * down e) k in omega arith

-- a number at or beyond either bound
pub large_below : (s : Bool) (m : ℕ) (e : ℤ) → lt (two32 true) (fin s m e) ≡ false → 2 ^ 32 * down e ≤ m * up e
unfolding lt
large_below true m e h = let i = ltb-false (m * up e * 1) (1 * 2 ^ 32 * down e) h in omega arith
large_below false m e h = let i = ltb-false 0 (1 * 2 ^ 32 * down e + m * up e * 1) h in let D = down_pos e in absurd (omega arith)

pub large_above : (s : Bool) (m : ℕ) (e : ℤ) → lt (fin s m e) (two32 false) ≡ false → 2 ^ 32 * down e ≤ m * up e
unfolding lt
large_above true m e h = let i = ltb-false 0 (m * up e * 1 + 1 * 2 ^ 32 * down e) h in let D = down_pos e in absurd (omega arith)
large_above false m e h = let i = ltb-false (m * up e * 1) (1 * 2 ^ 32 * down e) h in omega arith

-- ---- truncation of such a double
le_of_lt : (x y : Float) → lt x y ≡ true → T (le x y)
unfolding le
le_of_lt x y e = rw e tt

signed_within : (s : Bool) (a d : ℕ) → 0 < d → Within1 (signed s a) (signed s (a / d)) d
signed_within false a d D =
    let q = a / d in
    let g = div-add-mod' a d in
    let r = mod-lt a D in
    record { lower = lt! (nat q ⊡ d) (nat a ⊕ nat d) (omega arith); upper = lt! (nat a) (nat q ⊡ d ⊕ nat d) (omega arith) }
signed_within true a d D =
    let q = a / d in
    let g = div-add-mod' a d in
    let r = mod-lt a D in
    record { lower = lt! (neg (nat q) ⊡ d) (neg (nat a) ⊕ nat d) (omega arith); upper = lt! (neg (nat a)) (neg (nat q) ⊡ d ⊕ nat d) (omega arith) }

pub record Truncated (y : Float) (n : ℤ) : Type 0 where
  pub over : T (le (fin true 1 (pos 63)) y)
  pub under : T (lt y (fin false 1 (pos 63)))
  pub integer : nat_abs n ≤ 2 ^ 32
  pub within : Within1 (num y) n (den y)

-- a value below 2^32 in magnitude lies between ±2^63
between : (s : Bool) (a d : ℕ) → 0 < d → a < 2 ^ 32 * d → (below true (1 * 2 ^ 63 * d) s (a * 1) ≡ true) × (below s (a * 1) false (1 * 2 ^ 63 * d) ≡ true)
between true a d D h = (lt-ltb (a * 1) (1 * 2 ^ 63 * d) (omega arith), lt-ltb 0 (a * 1 + 1 * 2 ^ 63 * d) (omega arith))
between false a d D h = (lt-ltb 0 (1 * 2 ^ 63 * d + a * 1) (omega arith), lt-ltb (a * 1) (1 * 2 ^ 63 * d) (omega arith))

truncated_signed : (s : Bool) (q : ℕ) → q < 2 ^ 32 → cond s (neg_ℤ (pos (min q (2 ^ 63)))) (pos (min q (2 ^ 63 - 1))) ≡ signed s q
truncated_signed true q h = let e : min q (2 ^ 63) ≡ q = omega arith in ap (λ (k : ℕ). neg_ℤ (pos k)) e
truncated_signed false q h = let e : min q (2 ^ 63 - 1) ≡ q = omega arith in ap pos e

truncated_fin : (s : Bool) (m : ℕ) (e : ℤ) (n : ℤ) → m * up e < 2 ^ 32 * down e → n ≡ to_signed 63 (fin s m e) → Truncated (fin s m e) n
unfolding to_signed lt one
truncated_fin s m e n h k =
    let a = m * up e in
    let d = down e in
    let D : 0 < d = down_pos e in
    let l : a / d < 2 ^ 32 = (div-lt_iff_lt-mul D).1 h in
    let i : n ≡ signed s (a / d) = k ∙ truncated_signed s (a / d) l in
    let j : nat_abs n ≤ 2 ^ 32 = rw (i, abs_signed s (a / d)) (omega arith) in
    record {
      over = le_of_lt (fin true 1 (pos 63)) (fin s m e) (between s a d D h).0;
      under = subst T (sym (between s a d D h).1) tt;
      integer = j;
      within = rw i (signed_within s a d D);
    }

pub truncated : (y : Float) (n : ℤ) → Small y → n ≡ to_signed 63 y → Truncated y n
truncated nan n h k = absurd (false≢true h.is_finite)
truncated (inf s) n h k = absurd (false≢true h.is_finite)
truncated (fin s m e) n h k = truncated_fin s m e n (subst (λ (a : ℕ). a < 2 ^ 32 * down e) (abs_signed s (m * up e)) h.magnitude) k
