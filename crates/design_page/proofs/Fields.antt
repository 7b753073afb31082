-- The lines of a page, and the fields of each, where they stand. Assumes nothing.
use mathlib.Core.Path.{◌≡◌, sym, ap, ◌∙◌}
use mathlib.Core.List.{List, ◌++◌}
use Prim.Native.Nat.{ℕ, ◌+◌, ◌*◌, ◌≤◌, ◌<◌}
use native.Mathlib.Omega.{arith}
use lib.Ieee.{binary64, to_bits}
use lib.ListN.{take, drop}
use Rattle.word.proofs.Buffer.{part_within}
use Rattle.word.proofs.Joined.{part_joined}
use Rattle.hexadecimal.specs.Hex.{hex_digits}
use Rattle.image.specs.Sizes.{Sound}
use Rattle.image.specs.declared.Sizes.{Sizes}
use Rattle.line.specs.Line.{line_at}
use Rattle.std.specs.Prelude.{Ok}
use Rattle.frame.specs.Frame.{due_at, head_of, total}
use Rattle.frame.proofs.Sized.{head_sound}
use Rattle.lines.specs.Lines.{line_double, line_fault}
use Rattle.page_line.specs.Effect.{line_fields, line_text, mark}
use Rattle.page_line.proofs.Fields.{given_field, kept_field, kind_field, place_field}
use Rattle.page_line.proofs.Kept.{given_is}
use Rattle.design_page.specs.Page.{line_effect, page_line, sheet_page, word_double}
use Rattle.design_page.proofs.Call.{page_sized}
use Rattle.design_page.proofs.Effects.{kept_double}
use Rattle.design_page.proofs.Length.{length_page_line}

-- a line by its fields
module _ (z : Sizes) (s : List ℕ) (i : ℕ) (o : Sound z) (f : line_fault z s i ≡ 0) where
  pub line_text_lem : page_line z s i
      ≡ line_fields (hex_digits 2 (due_at z i).kind) (hex_digits 2 (due_at z i).row ++ hex_digits 2 (due_at z i).column) (hex_digits 16 (to_bits binary64 (line_double z s i)))
      (hex_digits 16 (to_bits binary64 (word_double z s i))) (mark (line_effect z s i))
  unfolding page_line line_text
  line_text_lem = rw (given_is (line_double z s i) (word_double z s i), kept_double z s i o f)

-- where they stand
module _ (z : Sizes) (s : List ℕ) (h : head_of (line_at s 0) ≡ Ok z) (i : ℕ) (l : i < total z) where
  abbrev page : List ℕ
  page = sheet_page s

  pub line_at_lem : take 44 (drop (44 * i) page) ≡ page_line z s i
  line_at_lem = rw (page_sized s z h) (part_joined (page_line z s) 44 (total z) (λ j k. length_page_line z s j) i l)

  field_at : (j m : ℕ) → j + m ≤ 44 → take m (drop (44 * i + j) page) ≡ take m (drop j (page_line z s i))
  field_at j m k = sym (part_within page (44 * i) 44 j m k) ∙ ap (λ (x : List ℕ). take m (drop j x)) line_at_lem

  pub kind_at : take 2 (drop (44 * i) page) ≡ hex_digits 2 (due_at z i).kind
  unfolding page_line
  kind_at =
      let e : 44 * i + 0 ≡ 44 * i = omega arith in
      rw e at (field_at 0 2 (omega arith)) ∙ kind_field (due_at z i) (line_effect z s i)

  pub place_at : take 4 (drop (44 * i + 3) page) ≡ hex_digits 2 (due_at z i).row ++ hex_digits 2 (due_at z i).column
  unfolding page_line
  place_at = field_at 3 4 (omega arith) ∙ place_field (due_at z i) (line_effect z s i)

  -- the given double
  pub given_at : take 16 (drop (44 * i + 8) page) ≡ hex_digits 16 (to_bits binary64 (line_double z s i))
  unfolding page_line
  given_at =
      field_at 8 16 (omega arith) ∙ given_field (due_at z i) (line_effect z s i) ∙ rw (given_is (line_double z s i) (word_double z s i))

  -- the kept double
  pub kept_at : line_fault z s i ≡ 0 → take 16 (drop (44 * i + 25) page) ≡ hex_digits 16 (to_bits binary64 (word_double z s i))
  unfolding page_line
  kept_at f =
      field_at 25 16 (omega arith) ∙ kept_field (due_at z i) (line_effect z s i) ∙ rw (kept_double z s i (head_sound (line_at s 0) z h) f)
