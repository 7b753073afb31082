-- Doubles compared by value: `eq` says that two doubles have one value, and a value has one double but for the sign of zero. Assumes nothing.
use Rattle.std.proofs.Common.{◌≡◌, ℕ, ◌*◌, ◌^◌, ◌<◌, Bool, true, false, ◌&&◌, ◌||◌, T, eqb, ℤ, pos, ◌*ℤ◌, neg_ℤ, nat_abs, sym, refl, ap, ◌∙◌, arith, eq-eqb, eqb-true}
use native.Mathlib.Nat.{eq_of_mul-eq-mul_right}
use mathlib.Core.Bool.{beq, false≢true}
use lib.Ieee.{Float, nan, inf, fin, binary64, up, down, level, eq, fits, low, to_bits, of_bits}
use lib.Ieee.Bits.{of_bits-to_bits}
use lib.Ieee.Fits.{down_pos}
use lib.Ieee.Nearest.{div_same}
use Rattle.integer.specs.Parts.{int, nat, neg, ◌⊡◌}
use Rattle.integer.proofs.Parts.{eq!, eq?}
use Rattle.double.specs.Double.{signed, HasQuotient}
use Rattle.double.proofs.Signs.{abs_signed, signed_mul}

-- ---- signs and magnitudes

differ : {A : Type 0} → false ≡ true → A
differ e = absurd (false≢true e)

turned : (n : ℕ) → neg_ℤ (pos n) ≡ pos n → n ≡ 0
turned n q = omega (arith, eq? (neg (nat n)) (nat n) q)

zeros : (s t : Bool) → signed s 0 ≡ signed t 0
zeros true true = refl
zeros true false = refl
zeros false true = refl
zeros false false = refl

-- what `level` tells: the magnitudes agree, and the signs too unless both are zero
level_true : (s : Bool) (a : ℕ) (t : Bool) (b : ℕ) → level s a t b ≡ true → (a ≡ b) × (signed s a ≡ signed t b)
level_true s a t b h = by (eqb a b) refl s t h
  where
    none : (s t : Bool) → a ≡ b → a ≡ 0 → signed s a ≡ signed t b
    none s t e z = ap (signed s) z ∙ zeros s t ∙ sym (ap (signed t) (sym e ∙ z))

    by : (p : Bool) → eqb a b ≡ p → (s t : Bool) → p && (beq s t || eqb a 0) ≡ true → (a ≡ b) × (signed s a ≡ signed t b)
    by true e true true q = (eqb-true a b e, ap (signed true) (eqb-true a b e))
    by true e false false q = (eqb-true a b e, ap (signed false) (eqb-true a b e))
    by true e true false q = (eqb-true a b e, none true false (eqb-true a b e) (eqb-true a 0 q))
    by true e false true q = (eqb-true a b e, none false true (eqb-true a b e) (eqb-true a 0 q))
    by false e s t q = differ q

level_of : (s : Bool) (a : ℕ) (t : Bool) (b : ℕ) → signed s a ≡ signed t b → level s a t b ≡ true
level_of s a t b h =
    let e : a ≡ b = sym (abs_signed s a) ∙ ap nat_abs h ∙ abs_signed t b in
    rw (eq-eqb a b e) (by s t (h ∙ ap (signed t) (sym e)))
  where
    by : (s t : Bool) → signed s a ≡ signed t a → beq s t || eqb a 0 ≡ true
    by true true q = refl
    by false false q = refl
    by true false q = eq-eqb a 0 (turned a q)
    by false true q = eq-eqb a 0 (turned a (sym q))

-- ---- one value
cancel : (a b : ℤ) {k : ℕ} → 0 < k → a *ℤ pos k ≡ b *ℤ pos k → a ≡ b
cancel a b {k} K h =
    let q = eq? (int a ⊡ k) (int b ⊡ k) h in
    eq! (int a) (int b) (eq_of_mul-eq-mul_right k K _ _ (omega arith))

module _ (z : ℤ) {d : ℕ} (D : 0 < d) where
  -- a double that is equal to one of value z / d has it too
  pub eq_quotient : (x y : Float) → HasQuotient y z d → eq x y ≡ true → HasQuotient x z d
  unfolding eq
  eq_quotient x nan v h = absurd v
  eq_quotient x (inf t) v h = absurd v
  eq_quotient nan (fin t n g) v h = differ h
  eq_quotient (inf s) (fin t n g) v h = differ h
  eq_quotient (fin s m e) (fin t n g) v h =
      let x = signed s (m * up e) in
      let y = signed t (n * up g) in
      let c : x *ℤ pos (down g) ≡ y *ℤ pos (down e) = sym (signed_mul s (m * up e) (down g)) ∙ (level_true s (m * up e * down g) t (n * up g * down e) h).1 ∙ signed_mul t (n * up g) (down e) in
      cancel (x *ℤ pos d) (z *ℤ pos (down e)) (down_pos g)
      (eq! (int x ⊡ d ⊡ down g) (int x ⊡ down g ⊡ d) (omega arith)
      ∙ ap (λ (i : ℤ). i *ℤ pos d) c
      ∙ eq! (int y ⊡ down e ⊡ d) (int y ⊡ d ⊡ down e) (omega arith)
      ∙ ap (λ (i : ℤ). i *ℤ pos (down e)) v
      ∙ eq! (int z ⊡ down g ⊡ down e) (int z ⊡ down e ⊡ down g) (omega arith))

  -- and two of that value are equal
  pub quotient_eq : (x y : Float) → HasQuotient x z d → HasQuotient y z d → eq x y ≡ true
  unfolding eq
  quotient_eq nan y u v = absurd u
  quotient_eq (inf s) y u v = absurd u
  quotient_eq (fin s m e) nan u v = absurd v
  quotient_eq (fin s m e) (inf t) u v = absurd v
  quotient_eq (fin s m e) (fin t n g) u v =
      let x = signed s (m * up e) in
      let y = signed t (n * up g) in
      let c : x *ℤ pos (down g) ≡ y *ℤ pos (down e) =
      cancel (x *ℤ pos (down g)) (y *ℤ pos (down e)) D
      (eq! (int x ⊡ down g ⊡ d) (int x ⊡ d ⊡ down g) (omega arith)
      ∙ ap (λ (i : ℤ). i *ℤ pos (down g)) u
      ∙ eq! (int z ⊡ down e ⊡ down g) (int z ⊡ down g ⊡ down e) (omega arith)
      ∙ ap (λ (i : ℤ). i *ℤ pos (down e)) (sym v)
      ∙ eq! (int y ⊡ d ⊡ down e) (int y ⊡ down e ⊡ d) (omega arith)) in
      level_of s (m * up e * down g) t (n * up g * down e) (signed_mul s (m * up e) (down g) ∙ c ∙ sym (signed_mul t (n * up g) (down e)))

-- a double of value 0 has no other
pub quotient_zero : (x : Float) (z : ℤ) (d : ℕ) → HasQuotient x (pos 0) 1 → HasQuotient x z d → z ≡ pos 0
quotient_zero nan z d u v = absurd u
quotient_zero (inf s) z d u v = absurd u
quotient_zero (fin s m e) z d u v =
    let x = signed s (m * up e) in
    let o : x ≡ pos 0 = eq! (int x) (nat 0) (omega (arith, eq? (int x ⊡ 1) (nat 0 ⊡ down e) u)) in
    cancel z (pos 0) (down_pos e) (sym v ∙ ap (λ (i : ℤ). i *ℤ pos d) o ∙ eq! (nat 0 ⊡ d) (nat 0 ⊡ down e) (omega arith))

-- ---- one double
scaled : (a g b e p : ℕ) → a * g ≡ b * e → a * p * g ≡ b * p * e
scaled a g b e p h =
    let l : a * p * g ≡ a * g * p = omega arith in
    let r : b * e * p ≡ b * p * e = omega arith in
    l ∙ ap (λ (i : ℕ). i * p) h ∙ r

same_bits : (s : Bool) (m : ℕ) (e : ℤ) (n : ℕ) (g : ℤ) → m * up e * down g ≡ n * up g * down e → to_bits binary64 (fin s m e) ≡ to_bits binary64 (fin s n g)
unfolding to_bits
same_bits s m e n g h =
    rw (div_same (m * up e * 2 ^ low binary64) (down e) (n * up g * 2 ^ low binary64) (down g) (down_pos e) (down_pos g) (scaled (m * up e) (down g) (n * up g) (down e) (2 ^ low binary64) h))

-- equal doubles are the same double, where they are not zero
pub eq_same : (x y : Float) → T (fits binary64 x) → T (fits binary64 y) → eq x y ≡ true → eq x (fin false 0 (pos 0)) ≡ false → x ≡ y
unfolding eq
eq_same nan y p q h n = differ h
eq_same (inf s) nan p q h n = differ h
eq_same (inf s) (inf t) p q h n = ap inf (same s t h)
  where
    same : (s t : Bool) → beq s t ≡ true → s ≡ t
    same true true h = refl
    same false false h = refl
    same true false h = differ h
    same false true h = differ h
eq_same (inf s) (fin t k g) p q h n = differ h
eq_same (fin s m e) nan p q h n = differ h
eq_same (fin s m e) (inf t) p q h n = differ h
eq_same (fin s m e) (fin t k g) p q h n =
    let l = level_true s (m * up e * down g) t (k * up g * down e) h in
    sym (of_bits-to_bits binary64 (fin s m e) p) ∙ ap (of_bits binary64) (same_bits s m e k g l.0 ∙ ap (λ (u : Bool). to_bits binary64 (fin u k g)) (sign s t l.0 l.1)) ∙ of_bits-to_bits binary64 (fin t k g) q
  where
    no_zero : m * up e * down g ≡ 0 → ⊥
    no_zero o =
        let u : m * up e ≡ 0 = eq_of_mul-eq-mul_right (down g) (down_pos g) (m * up e) 0 (omega arith) in
        false≢true (sym n ∙ level_of s (m * up e * 1) false (0 * 1 * down e) (ap (signed s) (omega arith) ∙ zeros s false ∙ ap (signed false) (omega arith)))

    sign : (s t : Bool) → m * up e * down g ≡ k * up g * down e → signed s (m * up e * down g) ≡ signed t (k * up g * down e) → s ≡ t
    sign true true q l = refl
    sign false false q l = refl
    sign true false q l = absurd (no_zero (turned (m * up e * down g) (l ∙ ap pos (sym q))))
    sign false true q l = absurd (no_zero (turned (m * up e * down g) (ap (λ (i : ℕ). neg_ℤ (pos i)) q ∙ sym l)))
