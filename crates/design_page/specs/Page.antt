-- Document 02, request 2: the design page of a sheet, and the number of the call that writes it. Definitions only.
use Rattle.std.specs.Prelude.{ℕ, ◌*◌, List, [], Float, Result, Ok, Err}
use Rattle.word.specs.Buffer.{joined}
use Rattle.double.specs.Double.{double_value}
use Rattle.image.specs.Order.{or_else, buffer_number}
use Rattle.image.specs.declared.Sizes.{Sizes}
use Rattle.line.specs.Line.{line_at}
use Rattle.refusal.specs.declared.Refusal.{Refusal}
use Rattle.frame.specs.Frame.{due_at, head_of, total}
use Rattle.lines.specs.Lines.{line_double, line_word}
use Rattle.intake.specs.Intake.{design_number}
use Rattle.page_line.specs.declared.Effect.{Effect}
use Rattle.page_line.specs.Effect.{effect_of, line_text}

-- ---- the page

-- the double of the word of line i after line 01: document 01's "a word back to a double"
abbrev pub word_double : Sizes → List ℕ → ℕ → Float
word_double z s i = double_value z.b z.w (line_word z s i)

-- "what rounding did" to the design number of line i after line 01
abbrev pub line_effect : Sizes → List ℕ → ℕ → Effect
line_effect z s i = effect_of (line_double z s i) (word_double z s i)

-- its line on the page
unfoldable pub page_line : Sizes → List ℕ → ℕ → List ℕ
page_line z s i = line_text (due_at z i) (line_effect z s i)

-- "Lines go in sheet order, line 01 left out"
abbrev pub lines_page : Sizes → List ℕ → List ℕ
lines_page z s = joined (page_line z s) (total z)

-- the page of what line 01 gives; none without sizes
abbrev pub head_page : Result Sizes Refusal → List ℕ → List ℕ
head_page (Ok z) s = lines_page z s
head_page (Err why) s = []

-- the "design page" of a sheet
unfoldable pub sheet_page : List ℕ → List ℕ
sheet_page s = head_page (head_of (line_at s 0)) s

-- ---- the call

-- how many design numbers there are by what line 01 gives
abbrev pub head_count : Result Sizes Refusal → ℕ
head_count (Ok z) = total z
head_count (Err why) = 0

-- how many design numbers a sheet has by its line 01
unfoldable pub design_count : List ℕ → ℕ
design_count s = head_count (head_of (line_at s 0))

-- the sheet's number, then 15: "The page buffer must have the exact length", 44 bytes a line
unfoldable pub page_number : List ℕ → ℕ → ℕ
page_number sheet room = or_else (design_number sheet) (buffer_number (44 * design_count sheet) room)
