-- A line written to a buffer. Assumes nothing.
use mathlib.Core.Path.{◌≡◌, ap, ◌∙◌}
use mathlib.Core.List.{List, [], ◌∷◌, ◌++◌, append_assoc}
use Prim.Native.Nat.{ℕ, ◌+◌, ◌≤◌}
use native.Mathlib.Omega.{arith}
use lib.Ieee.{Float, binary64, to_bits}
use lib.ListN.{length, set, length-append}
use Rattle.word.specs.Buffer.{put_at}
use Rattle.word.proofs.Buffer.{put_next, set_next}
use Rattle.hexadecimal.specs.Hex.{hex_digits}
use Rattle.hexadecimal.proofs.Hex.{length_hex}
use Rattle.frame.specs.declared.Due.{Due}
use Rattle.page_line.specs.declared.Effect.{Effect}
use Rattle.page_line.specs.Effect.{effect_text, fields_text, given, kept, line_text, mark}

-- ---- the two doubles and the mark
module _ (x y : Float) (m : ℕ) where
  abbrev g : List ℕ
  g = hex_digits 16 (to_bits binary64 x)

  abbrev k : List ℕ
  k = hex_digits 16 (to_bits binary64 y)

  pub length_fields : length (fields_text x y m) ≡ 35
  unfolding fields_text
  length_fields = simp (length-append, length_hex)

  pub put_fields_lem : (s : List ℕ) (at : ℕ) → at + 35 ≤ length s
      → set (set (put_at (set (put_at s at g) (at + 16) 32) (at + 17) k) (at + 33) 32) (at + 34) m ≡ put_at s at (fields_text x y m)
  unfolding fields_text
  put_fields_lem s at h =
      let p : length g ≡ 16 = length_hex 16 (to_bits binary64 x) in
      let q : length k ≡ 16 = length_hex 16 (to_bits binary64 y) in
      let a = length-append g (32 ∷ []) in
      let b = length-append (g ++ 32 ∷ []) k in
      let c = length-append (g ++ 32 ∷ [] ++ k) (32 ∷ []) in
      ap (λ (o : List ℕ). set (set (put_at o (at + 17) k) (at + 33) 32) (at + 34) m) (set_next s at g (at + 16) 32 (omega arith) (omega arith))
      ∙ ap (λ (o : List ℕ). set (set o (at + 33) 32) (at + 34) m) (put_next s at (g ++ 32 ∷ []) k (at + 17) (omega arith) (omega arith))
      ∙ ap (λ (o : List ℕ). set o (at + 34) m) (set_next s at (g ++ 32 ∷ [] ++ k) (at + 33) 32 (omega arith) (omega arith))
      ∙ set_next s at (g ++ 32 ∷ [] ++ k ++ 32 ∷ []) (at + 34) m (omega arith) (omega arith)

-- ---- the line
module _ (d : Due) (e : Effect) where
  abbrev f : List ℕ
  f = effect_text e

  abbrev i : List ℕ
  i = hex_digits 2 d.kind

  abbrev r : List ℕ
  r = hex_digits 2 d.row

  abbrev l : List ℕ
  l = hex_digits 2 d.column

  -- the line, part by part as it is written
  written : i ++ 32 ∷ [] ++ r ++ l ++ 32 ∷ [] ++ f ++ 10 ∷ [] ≡ line_text d e
  unfolding line_text fields_text
  written = simp append_assoc

  pub length_line : length (line_text d e) ≡ 44
  unfolding line_text
  length_line = simp (length-append, length_hex)

  pub put_line_lem : (s : List ℕ) (at : ℕ) → at + 44 ≤ length s
      → set (put_at (set (put_at (put_at (set (put_at s at i) (at + 2) 32) (at + 3) r) (at + 5) l) (at + 7) 32) (at + 8) f) (at + 43) 10 ≡ put_at s at (line_text d e)
  put_line_lem s at h =
      let a : length (i ++ 32 ∷ []) ≡ 3 = simp (length-append, length_hex) in
      let b : length (i ++ 32 ∷ [] ++ r) ≡ 5 = simp (length-append, length_hex) in
      let c : length (i ++ 32 ∷ [] ++ r ++ l) ≡ 7 = simp (length-append, length_hex) in
      let g : length (i ++ 32 ∷ [] ++ r ++ l ++ 32 ∷ []) ≡ 8 = simp (length-append, length_hex) in
      let k : length (i ++ 32 ∷ [] ++ r ++ l ++ 32 ∷ [] ++ f) ≡ 43 = simp (length-append, length_hex, length_fields (given e) (kept e) (mark e)) in
      ap (λ (o : List ℕ). set (put_at (set (put_at (put_at o (at + 3) r) (at + 5) l) (at + 7) 32) (at + 8) f) (at + 43) 10) (set_next s at i (at + 2) 32 (omega (arith, length_hex 2 d.kind)) (omega arith))
      ∙ ap (λ (o : List ℕ). set (put_at (set (put_at o (at + 5) l) (at + 7) 32) (at + 8) f) (at + 43) 10) (put_next s at (i ++ 32 ∷ []) r (at + 3) (omega arith) (omega arith))
      ∙ ap (λ (o : List ℕ). set (put_at (set o (at + 7) 32) (at + 8) f) (at + 43) 10) (put_next s at (i ++ 32 ∷ [] ++ r) l (at + 5) (omega arith) (omega arith))
      ∙ ap (λ (o : List ℕ). set (put_at o (at + 8) f) (at + 43) 10) (set_next s at (i ++ 32 ∷ [] ++ r ++ l) (at + 7) 32 (omega arith) (omega arith))
      ∙ ap (λ (o : List ℕ). set o (at + 43) 10) (put_next s at (i ++ 32 ∷ [] ++ r ++ l ++ 32 ∷ []) f (at + 8) (omega arith) (omega arith))
      ∙ set_next s at (i ++ 32 ∷ [] ++ r ++ l ++ 32 ∷ [] ++ f) (at + 43) 10 (omega arith) (omega arith)
      ∙ ap (put_at s at) written
