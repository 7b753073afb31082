-- Document 01, "Place of each check": the checks of a sheet's tables, then the buffer's length. Definitions only.
use Rattle.std.specs.Prelude.{ℕ, List, length, ℤ}
use Rattle.word.specs.Word.{words_out, Words}
use Rattle.image.specs.Order.{or_else, buffer_number}
use Rattle.image.specs.Sizes.{Whole}
use Rattle.image.specs.Layout.{sizes_of}
use Rattle.interface.specs.Tables.{tables_number}
use Rattle.sheet.specs.Sheet.{sheet_number, sheet_image}

-- the checks of the tables, 7, 17 and 8 to 12, of an image with the sizes that it has
abbrev pub own_tables : List ℕ → ℕ
own_tables image = tables_number (sizes_of image) image

-- "tested through its lines and end, then 7 to 12", with 17 after 7
unfoldable pub design_number : List ℕ → ℕ
design_number sheet = or_else (sheet_number sheet) (own_tables (sheet_image sheet))

-- "then 15": the number of the call, for a buffer of `room` bytes
unfoldable pub intake_number : List ℕ → ℕ → ℕ
intake_number sheet room = or_else (design_number sheet) (buffer_number (length (sheet_image sheet)) room)

-- the bytes "written to the caller's buffer" with number 0
abbrev pub intake_image : List ℕ → List ℕ
intake_image sheet = sheet_image sheet

-- words that make an image
pub record ImageWords (words : List ℤ) : Type 0 where
  pub fit : Words words
  pub whole : Whole (sizes_of (words_out words)) (words_out words)
