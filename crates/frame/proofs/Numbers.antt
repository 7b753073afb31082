-- What line 01, a later line and a conversion give has the number that their tests give. Assumes nothing.
use mathlib.Core.Path.{◌≡◌, refl, ap, ◌∙◌}
use mathlib.Core.Bool.{Bool, true, false, not, cond, ◌&&◌}
use Prim.Native.Nat.{ℕ}
use lib.Dec.{eqb}
use lib.IntN.{ℤ, pos, negsuc}
use lib.Ieee.{Float, binary64, of_bits}
use Rattle.double.specs.Double.{accepted, converted_number, is_negative, rounded, rule_of}
use Rattle.std.specs.Prelude.{Option, Some, None, Result, Ok, Err}
use Rattle.image.specs.declared.Sizes.{Sizes}
use Rattle.image.specs.Sizes.{sound}
use Rattle.line.specs.declared.Frame.{Frame}
use Rattle.refusal.specs.declared.Refusal.{Refusal}
use Rattle.refusal.specs.declared.Refusal.TheVariants.{Misplaced, Size}
use Rattle.frame.specs.declared.Due.{Due}
use Rattle.frame.specs.Frame.{due_number, frame_sizes, frame_zeros, head_fault, head_of, is_due, is_input_limit, line_one_number, not_below_zero, rounding_of, value_fault, value_of, word_number, word_of}

head_number_lem : (l : Result Frame Refusal) → head_fault (head_of l) ≡ line_one_number l
unfolding head_of
head_number_lem (Err why) = refl
head_number_lem (Ok f) = by (eqb f.kind 1) (frame_zeros f.bits) (sound (frame_sizes f.row f.column f.bits)) (frame_sizes f.row f.column f.bits)
  where
    by : (a b c : Bool) (z : Sizes) → head_fault (cond (a && b) (cond c (Ok z) (Err Size)) (Err Misplaced)) ≡ cond a (cond b (cond c 0 3) 2) 2
    by true true true z = refl
    by true true false z = refl
    by true false c z = refl
    by false b c z = refl

value_number_lem : (d : Due) (l : Result Frame Refusal) → value_fault (value_of d l) ≡ due_number d l
value_number_lem d (Err why) = refl
value_number_lem d (Ok f) = by (is_due d f.kind f.row f.column) (of_bits binary64 f.bits)
  where
    by : (a : Bool) (x : Float) → value_fault (cond a (Ok x) (Err Misplaced)) ≡ cond a 0 2
    by true x = refl
    by false x = refl

word_number_lem : (z : Sizes) (kind : ℕ) (x : Float) → converted_number (word_of z kind x) ≡ word_number z kind x
unfolding word_of
word_number_lem z kind x =
    let rule = rule_of (rounding_of kind) in
    by (is_input_limit kind) (accepted rule z.b z.w x) (rounded rule z.b x)
  where
    by : (t a : Bool) (v : ℤ) → converted_number (cond t (not_below_zero (cond a (Some v) None)) (cond a (Some v) None)) ≡ cond a (cond (not (t && is_negative v)) 0 5) 5
    by true true (pos n) = refl
    by true true (negsuc n) = refl
    by true false v = refl
    by false true v = refl
    by false false v = refl

-- what the promises say follows from what is given
pub head_told : (l : Result Frame Refusal) {h : Result Sizes Refusal} → h ≡ head_of l → (h ≡ head_of l) × (head_fault h ≡ line_one_number l)
head_told l e = (e, ap head_fault e ∙ head_number_lem l)

pub value_told : (d : Due) (l : Result Frame Refusal) {v : Result Float Refusal} → v ≡ value_of d l → (v ≡ value_of d l) × (value_fault v ≡ due_number d l)
value_told d l e = (e, ap value_fault e ∙ value_number_lem d l)

pub word_told : (z : Sizes) (kind : ℕ) (x : Float) {c : Option ℤ} → c ≡ word_of z kind x → (c ≡ word_of z kind x) × (converted_number c ≡ word_number z kind x)
word_told z kind x e = (e, ap converted_number e ∙ word_number_lem z kind x)
