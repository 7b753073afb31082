-- What is kept is the double of the word, whatever was given, and the mark tells whether the value was that. Assumes nothing.
use mathlib.Core.Path.{◌≡◌, refl, sym, ap, ◌∙◌}
use mathlib.Core.Bool.{Bool, true, false, cond, not, false≢true}
use mathlib.Core.Logic.{inl, inr}
use Prim.Native.Nat.{ℕ, ◌^◌, ◌<◌}
use lib.Dec.{T, lit<}
use lib.IntN.{ℤ, pos, nat_abs}
use lib.Pow.{pow_pos}
use lib.Ieee.{Float, nan, inf, fin, binary64, eq, fits, is_nan}
use lib.Ieee.Fits.{round-fits}
use Rattle.word.specs.Format.{is_format, in_word}
use Rattle.double.specs.Double.{double_value, is_negative, HasQuotient}
use Rattle.double.proofs.Back.{value_exact, value_zero}
use Rattle.double.proofs.Same.{eq_quotient, eq_same, quotient_eq, quotient_zero}
use Rattle.page_line.specs.Effect.{effect_of, given, is_kept, kept, mark, plus_for_minus}
use Rattle.page_line.specs.declared.Effect.TheVariants.{Kept, Moved}
use Rattle.page_line.specs.Laws.{Marks}

-- a double with a value is a number
pub value_number_lem : (x : Float) (v : ℤ) (d : ℕ) → HasQuotient x v d → T (not (is_nan x))
unfolding is_nan
value_number_lem nan v d h = absurd h
value_number_lem (inf s) v d h = tt
value_number_lem (fin s m e) v d h = tt

-- a double of the word's value is kept, and no other
module _ (v : ℤ) {d : ℕ} (D : 0 < d) (x y : Float) (w : HasQuotient y v d) where
  value_kept : HasQuotient x v d → is_kept x y ≡ true
  unfolding is_kept
  value_kept h = quotient_eq v D x y h w

  kept_value : is_kept x y ≡ true → HasQuotient x v d
  unfolding is_kept
  kept_value e = eq_quotient v D x y w e

-- whatever was done, the given double is the one that was given
pub given_is : (x y : Float) → given (effect_of x y) ≡ x
unfolding effect_of
given_is x y = by (is_kept x y)
  where
    by : (t : Bool) → given (cond t (Kept x) (Moved x y)) ≡ x
    by true = refl
    by false = refl

-- the double of a word
module _ (b w : ℕ) (v : ℤ) (u : is_format b w ≡ true) (i : in_word w v ≡ true) where
  abbrev y : Float
  y = double_value b w v

  exact : HasQuotient y v (2 ^ b)
  exact = value_exact b w v u i

  pub word_fits : T (fits binary64 y)
  word_fits = rw (u, i) (round-fits binary64 (is_negative v) (nat_abs v) (2 ^ b))

  module _ (x : Float) where
    kept_same : T (fits binary64 x) → is_kept x y ≡ true → plus_for_minus x ≡ y
    unfolding is_kept
    kept_same f e = by (eq x (fin false 0 (pos 0))) refl
      where
        by : (t : Bool) → eq x (fin false 0 (pos 0)) ≡ t → cond t (fin false 0 (pos 0)) x ≡ y
        by true z =
            let o : v ≡ pos 0 = quotient_zero x v (2 ^ b) (eq_quotient (pos 0) (lit< tt) x (fin false 0 (pos 0)) refl z) (kept_value v (pow_pos b) x y exact e) in
            sym (ap (double_value b w) o ∙ value_zero b w u)
        by false z = eq_same x y f word_fits e z

    pub kept_is : T (fits binary64 x) → kept (effect_of x y) ≡ y
    unfolding effect_of
    kept_is f = by (is_kept x y) refl
      where
        by : (t : Bool) → is_kept x y ≡ t → kept (cond t (Kept x) (Moved x y)) ≡ y
        by true e = kept_same f e
        by false e = refl

    pub mark_is : Marks (mark (effect_of x y)) x v b
    unfolding effect_of
    mark_is = by (is_kept x y) refl
      where
        by : (t : Bool) → is_kept x y ≡ t → Marks (mark (cond t (Kept x) (Moved x y))) x v b
        by true e = inl (refl, kept_value v (pow_pos b) x y exact e)
        by false e = inr (refl, λ h. false≢true (sym e ∙ value_kept v (pow_pos b) x y exact h))

  -- given itself, it is kept
  pub mark_same : mark (effect_of y y) ≡ 75
  unfolding effect_of
  mark_same = rw (value_kept v (pow_pos b) y y exact exact)
