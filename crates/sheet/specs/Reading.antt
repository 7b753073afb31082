-- What the code holds while it reads a sheet, and what it answers then. Definitions only.
use Rattle.std.specs.Prelude.{ℕ, ◌+◌, ◌*◌, ◌≤◌, ◌≡◌, List, length, take, ℤ, Float, Result, Ok, Err}
use Rattle.refusal.specs.declared.Refusal.{Refusal}
use Rattle.image.specs.declared.Sizes.{Sizes}
use Rattle.line.specs.Line.{line_at}
use Rattle.frame.specs.Frame.{head_of}
use Rattle.lines.specs.Lines.{ReadTo}

-- "The reader goes through the text line by line and the first fault decides": line 01 gave the sizes, i lines after it had no fault, the
-- reader stands behind them, and the arrays are as far
pub record LinesRead (s : List ℕ) (z : Sizes) (i at : ℕ) (words : List ℤ) (lows : List Float) : Type 0 where
  pub sizes : head_of (line_at s 0) ≡ Ok z
  pub place : at ≡ 23 * (i + 1)
  pub lines : ReadTo z s i words lows

-- how many words an answer counts; none a refusal
abbrev pub count_of : Result ℕ Refusal → ℕ
count_of (Ok count) = count
count_of (Err why) = 0

-- a number, and where it is 0, the words in front of an array
pub record Answered (number-due : ℕ) (words-due : List ℤ) (number count : ℕ) (words : List ℤ) : Type 0 where
  pub number_is : number ≡ number-due
  pub words_are : number ≡ 0 → take count words ≡ words-due
  pub count_is : number ≡ 0 → count ≡ length words-due
  pub count_high : count ≤ 569
