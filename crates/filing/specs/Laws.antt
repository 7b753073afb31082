-- What the laws of a page state: what a line says of sheet and image, and a page's kept doubles as a sheet again. Definitions only.
use Rattle.std.specs.Prelude.{ℕ, ◌+◌, ◌*◌, ◌^◌, ◌≡◌, List, [], ◌∷◌, ◌++◌, ℤ, take, drop}
use Rattle.std.specs.Float.{binary64}
use Rattle.std.specs.Float.Ieee.{of_bits, to_bits}
use Rattle.word.specs.Buffer.{joined}
use Rattle.word.specs.Word.{word_at}
use Rattle.hexadecimal.specs.Hex.{hex_at, hex_digits}
use Rattle.double.specs.Double.{double_value, HasQuotient}
use Rattle.image.specs.declared.Sizes.{Sizes}
use Rattle.sheet.specs.Sheet.{sheet_image}
use Rattle.intake.specs.Intake.{intake_number}
use Rattle.page_line.specs.Effect.{line_fields}
use Rattle.page_line.specs.Laws.{Marks}
use Rattle.design_page.specs.Page.{design_count, sheet_page}

-- n bytes of a text from a place on
abbrev pub part : ℕ → List ℕ → ℕ → List ℕ
part n s at = take n (drop at s)

-- ---- what a line says

-- the word of the image for line i after line 01
abbrev pub word_in : List ℕ → ℕ → ℤ
word_in s i = word_at (sheet_image s) (4 * (8 + i))

-- line i of the page: kind, row, column and "given double" in the sheet's own digits, and the "kept double", which is exactly that of the
-- image's word
pub record LineSays (z : Sizes) (s : List ℕ) (i : ℕ) : Type 0 where
  pub mark : ℕ
  pub line : part 44 (sheet_page s) (44 * i)
      ≡ line_fields (part 2 s (23 * (i + 1))) (part 4 s (23 * (i + 1) + 2)) (part 16 s (23 * (i + 1) + 6))
      (hex_digits 16 (to_bits binary64 (double_value z.b z.w (word_in s i)))) mark
  pub given_back : hex_at 16 (sheet_page s) (44 * i + 8) ≡ hex_at 16 s (23 * (i + 1) + 6)
  pub kept_back : of_bits binary64 (hex_at 16 (sheet_page s) (44 * i + 25)) ≡ double_value z.b z.w (word_in s i)
  pub exact : HasQuotient (double_value z.b z.w (word_in s i)) (word_in s i) (2 ^ z.b)
  pub marked : Marks mark (of_bits binary64 (hex_at 16 s (23 * (i + 1) + 6))) (word_in s i) z.b

-- ---- the page as a sheet

-- line i of a page as a line of a sheet: kind, row and column, and the kept double for the value
abbrev pub kept_line : List ℕ → ℕ → List ℕ
kept_line page i = part 2 page (44 * i) ++ part 4 page (44 * i + 3) ++ part 16 page (44 * i + 25) ++ 10 ∷ []

-- line 01 of a sheet, which its page leaves out, and the lines of its page
unfoldable pub kept_sheet : List ℕ → List ℕ
kept_sheet s = take 23 s ++ joined (kept_line (sheet_page s)) (design_count s)

-- line i of a page with what it kept for given and kept, and K
abbrev pub kept_twice : List ℕ → ℕ → List ℕ
kept_twice page i =
    line_fields (part 2 page (44 * i)) (part 4 page (44 * i + 3)) (part 16 page (44 * i + 25)) (part 16 page (44 * i + 25)) 75

-- filing the page in the sheet's place, behind the sheet's own line 01, which is not on the page, loses nothing: the same number and image,
-- and nothing moves again
pub record LosesNothing (s : List ℕ) : Type 0 where
  pub number : (room : ℕ) → intake_number (kept_sheet s) room ≡ intake_number s room
  pub image : sheet_image (kept_sheet s) ≡ sheet_image s
  pub page : sheet_page (kept_sheet s) ≡ joined (kept_twice (sheet_page s)) (design_count s)
