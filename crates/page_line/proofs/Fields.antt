-- The fields of a line, each at its place. Assumes nothing.
use mathlib.Core.Path.{◌≡◌, refl}
use mathlib.Core.List.{List, [], ◌∷◌, ◌++◌, append_assoc}
use Prim.Native.Nat.{ℕ}
use lib.Ieee.{binary64, to_bits}
use lib.ListN.{take, drop, length-append}
use Rattle.word.proofs.Buffer.{part_between}
use Rattle.hexadecimal.specs.Hex.{hex_digits}
use Rattle.hexadecimal.proofs.Hex.{length_hex}
use Rattle.frame.specs.declared.Due.{Due}
use Rattle.page_line.specs.declared.Effect.{Effect}
use Rattle.page_line.specs.Effect.{given, kept, line_text, mark}

module _ (d : Due) (e : Effect) where
  abbrev kind : List ℕ
  kind = hex_digits 2 d.kind

  abbrev place : List ℕ
  place = hex_digits 2 d.row ++ hex_digits 2 d.column

  abbrev given_digits : List ℕ
  given_digits = hex_digits 16 (to_bits binary64 (given e))

  abbrev kept_digits : List ℕ
  kept_digits = hex_digits 16 (to_bits binary64 (kept e))

  pub kind_field : take 2 (drop 0 (line_text d e)) ≡ kind
  unfolding line_text
  kind_field =
      part_between (line_text d e) [] kind (32 ∷ place ++ 32 ∷ [] ++ given_digits ++ 32 ∷ [] ++ kept_digits ++ 32 ∷ mark e ∷ 10 ∷ []) 0 2
      (simp append_assoc) refl (length_hex 2 d.kind)

  pub place_field : take 4 (drop 3 (line_text d e)) ≡ place
  unfolding line_text
  place_field =
      part_between (line_text d e) (kind ++ 32 ∷ []) place (32 ∷ given_digits ++ 32 ∷ [] ++ kept_digits ++ 32 ∷ mark e ∷ 10 ∷ []) 3 4
      (simp append_assoc) (simp (length-append, length_hex)) (simp (length-append, length_hex))

  pub given_field : take 16 (drop 8 (line_text d e)) ≡ given_digits
  unfolding line_text
  given_field =
      part_between (line_text d e) (kind ++ 32 ∷ [] ++ place ++ 32 ∷ []) given_digits (32 ∷ kept_digits ++ 32 ∷ mark e ∷ 10 ∷ []) 8 16
      (simp append_assoc) (simp (length-append, length_hex)) (length_hex 16 (to_bits binary64 (given e)))

  pub kept_field : take 16 (drop 25 (line_text d e)) ≡ kept_digits
  unfolding line_text
  kept_field =
      part_between (line_text d e) (kind ++ 32 ∷ [] ++ place ++ 32 ∷ [] ++ given_digits ++ 32 ∷ []) kept_digits (32 ∷ mark e ∷ 10 ∷ []) 25 16
      refl (simp (length-append, length_hex)) (length_hex 16 (to_bits binary64 (kept e)))
