-- The word of a line's double, and what a line gives where one is due. Assumes nothing.
use mathlib.Core.Path.{◌≡◌, refl, ap, ◌∙◌}
use mathlib.Core.Bool.{Bool, true, false, cond, ◌&&◌, and-false, false≢true}
use Prim.Native.Nat.{ℕ}
use native.Mathlib.Omega.{arith}
use lib.IntN.{ℤ, pos, negsuc}
use lib.Ieee.{Float, nan, binary64, of_bits}
use lib.Signed.{le_z}
use borrow.Author.Tests.{eq-eqb, le-leb}
use Rattle.word.specs.Format.{is_format, top, in_word}
use Rattle.double.specs.Double.{convert, accepted, scalable, rounded, round_up, rule_of, converted_number, double_value, round_down}
use Rattle.std.specs.Prelude.{Option, Some, None, Ok, Err}
use Rattle.double.proofs.Back.{round_trip}
use Rattle.double.proofs.Convert.{convert_word}
use Rattle.double.proofs.Rules.{is_rule}
use Rattle.image.specs.declared.Sizes.{Sizes}
use Rattle.image.proofs.Ordering.{both}
use Rattle.refusal.specs.declared.Refusal.TheVariants.{Misplaced}
use Rattle.frame.specs.declared.Due.{Due}
use Rattle.frame.specs.Frame.{converted_word, is_input_limit, not_below_zero, rounding_of, value_of, word_of}
use Rattle.frame.proofs.Sized.{differ}

-- ---- the word of a double
module _ (w : ℕ) where
  zero_in : in_word w (pos 0) ≡ true
  zero_in = le-leb 0 (top w) (omega arith)

  convert_in : (rule : ℤ → ℕ → ℤ) (b : ℕ) (x : Float) → in_word w (converted_word (convert rule b w x)) ≡ true
  unfolding accepted
  convert_in rule b x = by (is_format b w && scalable b x) (in_word w (rounded rule b x)) refl
    where
      by : (p q : Bool) → in_word w (rounded rule b x) ≡ q → in_word w (converted_word (cond (p && q) (Some (rounded rule b x)) None)) ≡ true
      by true true e = e
      by true false e = zero_in
      by false q e = zero_in

  not_below_in : (c : Option ℤ) → in_word w (converted_word c) ≡ true → in_word w (converted_word (not_below_zero c)) ≡ true
  not_below_in (Some (pos n)) h = h
  not_below_in (Some (negsuc n)) h = zero_in
  not_below_in None h = h

  kind_in : (t : Bool) (c : Option ℤ) → in_word w (converted_word c) ≡ true → in_word w (converted_word (cond t (not_below_zero c) c)) ≡ true
  kind_in true c h = not_below_in c h
  kind_in false c h = h

not_negative : (c : Option ℤ) → le_z (pos 0) (converted_word (not_below_zero c)) ≡ true
not_negative (Some (pos n)) = le-leb 0 n (omega arith)
not_negative (Some (negsuc n)) = refl
not_negative None = refl

not_below_word : (t : Bool) (c : Option ℤ) (v : ℤ) → cond t (not_below_zero c) c ≡ Some v → c ≡ Some v
not_below_word true (Some (pos n)) v e = e
not_below_word true (Some (negsuc n)) v e = absurd (differ (cc))
not_below_word true None v e = e
not_below_word false c v e = e

module _ (z : Sizes) (kind : ℕ) (x : Float) where
  abbrev rule : ℤ → ℕ → ℤ
  rule = rule_of (rounding_of kind)

  -- it is one of the format
  pub word_in : in_word z.w (converted_word (word_of z kind x)) ≡ true
  unfolding word_of
  word_in = kind_in z.w (is_input_limit kind) (convert rule z.b z.w x) (convert_in z.w rule z.b x)

  pub limit_in : is_input_limit kind ≡ true → le_z (pos 0) (converted_word (word_of z kind x)) ≡ true
  unfolding word_of
  limit_in e = rw e (not_negative (convert rule z.b z.w x))

  -- its double is "neither NaN, infinity" nor does scaling overflow
  pub word_scalable : (v : ℤ) → word_of z kind x ≡ Some v → scalable z.b x ≡ true
  unfolding word_of accepted
  word_scalable v e =
      let a = (convert_word rule z.b z.w x (not_below_word (is_input_limit kind) (convert rule z.b z.w x) v e)).0 in
      (both (is_format z.b z.w) (scalable z.b x) (both (is_format z.b z.w && scalable z.b x) (in_word z.w (rounded rule z.b x)) a).0).1

  -- and it is the rounding of the double by its kind
  pub word_rounded : (v : ℤ) → word_of z kind x ≡ Some v → v ≡ rounded rule z.b x
  unfolding word_of
  word_rounded v e = (convert_word rule z.b z.w x (not_below_word (is_input_limit kind) (convert rule z.b z.w x) v e)).1

  -- a NaN has none
  pub nan_refused : x ≡ nan → word_of z kind x ≡ None
  unfolding word_of accepted scalable
  nan_refused e = rw (e, and-false (is_format z.b z.w)) (either (is_input_limit kind))
    where
      either : (t : Bool) → cond {A = Option ℤ} t None None ≡ None
      either true = refl
      either false = refl

  pub kind_4 : kind ≡ 4 → word_of z kind x ≡ convert round_up z.b z.w x
  unfolding word_of
  kind_4 h = rw h

  pub kind_5 : kind ≡ 5 → word_of z kind x ≡ convert round_down z.b z.w x
  unfolding word_of
  kind_5 h = rw h

-- ---- the way back
not_below : (v : ℤ) → le_z (pos 0) v ≡ true → not_below_zero (Some v) ≡ Some v
not_below (pos n) h = refl
not_below (negsuc n) h = absurd (false≢true h)

-- the double of a word has that word by every kind that may have it
pub word_back : (z : Sizes) (kind : ℕ) (v : ℤ) → is_format z.b z.w ≡ true → in_word z.w v ≡ true → (is_input_limit kind ≡ true → le_z (pos 0) v ≡ true) → word_of z kind (double_value z.b z.w v) ≡ Some v
unfolding word_of
word_back z kind v u i n =
    ap (λ (c : Option ℤ). cond (is_input_limit kind) (not_below_zero c) c) (round_trip (rule_of (rounding_of kind)) (is_rule (rounding_of kind)) z.b z.w v u i)
    ∙ by (is_input_limit kind) refl
  where
    by : (t : Bool) → is_input_limit kind ≡ t → cond t (not_below_zero (Some v)) (Some v) ≡ Some v
    by true e = not_below v (n e)
    by false e = refl

-- ---- what a line gives

-- the frame due gives its double
pub due_value : (d : Due) (bits : ℕ) → value_of d (Ok (record { kind = d.kind; row = d.row; column = d.column; bits = bits })) ≡ Ok (of_bits binary64 bits)
due_value d bits = rw (eq-eqb d.kind d.kind refl, eq-eqb d.row d.row refl, eq-eqb d.column d.column refl) refl

pub due_double : (t : Bool) (y x : Float) → cond t (Ok y) (Err Misplaced) ≡ Ok x → (t ≡ true) × (x ≡ y)
due_double true y x e = (refl, cc)
due_double false y x e = absurd (differ (cc))

pub is_word : (c : Option ℤ) → converted_number c ≡ 0 → c ≡ Some (converted_word c)
is_word (Some v) h = refl
is_word None h = let x : ⊥ = omega arith in absurd x
