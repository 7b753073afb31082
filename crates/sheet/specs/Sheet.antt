-- Document 01, "The design sheet" and "Place of each check": the number of a sheet through its lines and end, and its image. Definitions only.
use Rattle.std.specs.Prelude.{ℕ, zero, suc, ◌+◌, ◌*◌, cond, List, [], ◌∷◌, ◌++◌, length, leb, eqb, ℤ, Result, Ok, Err}
use Rattle.word.specs.Word.{words_out}
use Rattle.gradient.specs.Index.{tab}
use Rattle.image.specs.Order.{check, first_fault, or_else}
use Rattle.image.specs.declared.Sizes.{Sizes}
use Rattle.line.specs.Line.{line_at}
use Rattle.refusal.specs.declared.Refusal.{Refusal}
use Rattle.frame.specs.Frame.{head_of, head_fault, total}
use Rattle.lines.specs.Lines.{line_fault, line_word, size_words}

-- "the first fault decides": the first of f 0, f 1, .. f (n - 1) that is not 0, else what comes after them
abbrev pub first : (ℕ → ℕ) → ℕ → ℕ → ℕ
first f zero after = after
first f (suc n) after = first f n (or_else (f n) after)

-- 4: "a byte after the last line due"; a line missing is the fault of that line
abbrev pub end_number : Sizes → List ℕ → ℕ
end_number z s = first_fault (check 4 (leb (length s) (23 * (total z + 1))) ∷ [])

-- "tested through its lines and end", line 01 having given the sizes
abbrev pub lines_number : Sizes → List ℕ → ℕ
lines_number z s = first (line_fault z s) (total z) (end_number z s)

-- "then H, Φ, lows, highs, β, state limits in sheet order", then target table and target limits: "the image follows in that order"
abbrev pub lines_words : Sizes → List ℕ → List ℤ
lines_words z s = size_words z ++ tab (line_word z s) (total z)

-- document 01's number of what line 01 gives: the sizes go with that of the other lines and the end, a refusal with its own
abbrev pub head_number : Result Sizes Refusal → List ℕ → ℕ
head_number (Ok z) s = lines_number z s
head_number (Err why) s = head_fault (Err why)

-- the words of each case; none without sizes
abbrev pub head_words : Result Sizes Refusal → List ℕ → List ℤ
head_words (Ok z) s = lines_words z s
head_words (Err why) s = []

-- the number of a sheet "through its lines and end": 1 to 5
unfoldable pub sheet_number : List ℕ → ℕ
sheet_number s = head_number (head_of (line_at s 0)) s

-- the words of a sheet that passes these; none of any other
unfoldable pub sheet_words : List ℕ → List ℤ
sheet_words s = cond (eqb (sheet_number s) 0) (head_words (head_of (line_at s 0)) s) []

-- "the accepted sheet's image"
unfoldable pub sheet_image : List ℕ → List ℕ
sheet_image s = words_out (sheet_words s)
