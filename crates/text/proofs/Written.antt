-- A line written to a buffer, and that its digits suffice. Assumes nothing.
use mathlib.Core.Path.{◌≡◌, refl, ap, ◌∙◌}
use mathlib.Core.Bool.{Bool, true, false, cond}
use mathlib.Core.List.{List, [], ◌∷◌, ◌++◌, append_assoc}
use Prim.Native.Nat.{ℕ, ◌+◌, ◌^◌, ◌≤◌, ◌<◌}
use native.Mathlib.Omega.{arith}
use lib.Dec.{ltb}
use lib.ListN.{length, take, set, length-append}
use lib.Seq.{take_at}
use borrow.Author.Tests.{ltb-true}
use Rattle.word.specs.Buffer.{put_at}
use Rattle.word.specs.Digits.{digits_be}
use Rattle.word.proofs.Buffer.{front_put, put_next, set_next}
use Rattle.hexadecimal.specs.Hex.{hex_at, hex_digits}
use Rattle.hexadecimal.proofs.Hex.{length_hex, hex_front}
use Rattle.text.specs.Text.{distance_digits, line_of, refusal}

-- ---- a line: command, space, bound, space, D, byte 10
module _ (command bound digits D : ℕ) where
  abbrev c : List ℕ
  c = hex_digits 8 command

  abbrev b : List ℕ
  b = hex_digits 8 bound

  abbrev d : List ℕ
  d = hex_digits digits D

  two : length (c ++ 32 ∷ [] ++ b) ≡ 17
  two = omega (arith, length-append (c ++ 32 ∷ []) b, length-append c (32 ∷ []), length_hex 8 command, length_hex 8 bound)

  three : length (c ++ 32 ∷ [] ++ b ++ 32 ∷ [] ++ d) ≡ 18 + digits
  three = omega (arith, length-append (c ++ 32 ∷ [] ++ b ++ 32 ∷ []) d, length-append (c ++ 32 ∷ [] ++ b) (32 ∷ []), two, length_hex digits D)

  -- a line has 19 bytes and its digits of D
  pub length_line : length (line_of command bound digits D) ≡ 19 + digits
  unfolding line_of
  length_line = omega (arith, length-append (c ++ 32 ∷ [] ++ b ++ 32 ∷ [] ++ d) (10 ∷ []), three)

  -- and begins with command, space, bound
  pub line_begins : take 17 (line_of command bound digits D) ≡ c ++ 32 ∷ [] ++ b
  unfolding line_of
  line_begins =
      ap (take 17) (append_assoc (c ++ 32 ∷ [] ++ b ++ 32 ∷ []) d (10 ∷ []) ∙ append_assoc (c ++ 32 ∷ [] ++ b) (32 ∷ []) (d ++ 10 ∷ []))
      ∙ take_at (c ++ 32 ∷ [] ++ b) (32 ∷ [] ++ (d ++ 10 ∷ [])) 17 two

  pub put_line_lem : (s : List ℕ) (at : ℕ) → at + (19 + digits) ≤ length s
      → set (put_at (set (put_at (set (put_at s at c) (at + 8) 32) (at + 9) b) (at + 17) 32) (at + 18) d) (at + (18 + digits)) 10 ≡ put_at s at (line_of command bound digits D)
  unfolding line_of
  put_line_lem s at h =
      ap (λ (o : List ℕ). set (put_at (set (put_at o (at + 9) b) (at + 17) 32) (at + 18) d) (at + (18 + digits)) 10) (set_next s at c (at + 8) 32 (omega (arith, length_hex 8 command)) (omega arith))
      ∙ ap (λ (o : List ℕ). set (put_at (set o (at + 17) 32) (at + 18) d) (at + (18 + digits)) 10) (put_next s at (c ++ 32 ∷ []) b (at + 9) (omega (arith, length-append c (32 ∷ []), length_hex 8 command)) (omega arith))
      ∙ ap (λ (o : List ℕ). set (put_at o (at + 18) d) (at + (18 + digits)) 10) (set_next s at (c ++ 32 ∷ [] ++ b) (at + 17) 32 (omega (arith, two)) (omega arith))
      ∙ ap (λ (o : List ℕ). set o (at + (18 + digits)) 10) (put_next s at (c ++ 32 ∷ [] ++ b ++ 32 ∷ []) d (at + 18) (omega (arith, length-append (c ++ 32 ∷ [] ++ b) (32 ∷ []), two)) (omega arith))
      ∙ set_next s at (c ++ 32 ∷ [] ++ b ++ 32 ∷ [] ++ d) (at + (18 + digits)) 10 (omega (arith, three)) (omega arith)

-- the digits of a D of 64 bits suffice: they say it
pub digits_suffice : (D : ℕ) → D < 2 ^ 64 → (rest : List ℕ) → hex_at (distance_digits D) (hex_digits (distance_digits D) D ++ rest) 0 ≡ D
unfolding distance_digits
digits_suffice D h rest = by (ltb D (2 ^ 32)) refl
  where
    by : (t : Bool) → ltb D (2 ^ 32) ≡ t → hex_at (cond t 8 16) (hex_digits (cond t 8 16) D ++ rest) 0 ≡ D
    by true e = hex_front 8 D rest (ltb-true D (2 ^ 32) e)
    by false e = hex_front 16 D rest h

-- ---- the line of a refusal stands in front
pub front_refusal : (s : List ℕ) (number : ℕ) → 11 ≤ length s → take 11 (put_at s 0 (refusal number)) ≡ refusal number
unfolding refusal digits_be
front_refusal s number h = front_put s [] (refusal number) 0 11 refl refl h
