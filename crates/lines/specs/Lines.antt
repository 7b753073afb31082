-- Document 01, "The design sheet": a line after line 01 by its place, its fault and its word; and what the code holds once some are read.
-- Definitions only.
use Rattle.std.specs.Prelude.{ℕ, ◌+◌, ◌*◌, ◌<◌, ◌≡◌, List, [], ◌∷◌, length, get_or, ℤ, pos, Float, Result}
use Rattle.std.specs.Float.{nan}
use Rattle.image.specs.declared.Sizes.{Sizes}
use Rattle.image.specs.Sizes.{command_count}
use Rattle.line.specs.Line.{line_at}
use Rattle.frame.specs.declared.Due.{Due}
use Rattle.refusal.specs.declared.Refusal.{Refusal}
use Rattle.frame.specs.Frame.{due_at, is_low, low_base, word_of, converted_word, value_of, value_number, value_double}

-- ---- a line by its place

-- what line i after line 01 gives: lines of "22 hexadecimal digits .., then byte 10" have 23 bytes
unfoldable pub line_value : Sizes → List ℕ → ℕ → Result Float Refusal
line_value z s i = value_of (due_at z i) (line_at s (23 * (i + 1)))

-- its "IEEE 754 double"
abbrev pub line_double : Sizes → List ℕ → ℕ → Float
line_double z s i = value_double (line_value z s i)

-- the "fault" of line i after line 01
unfoldable pub line_fault : Sizes → List ℕ → ℕ → ℕ
line_fault z s i = value_number z (due_at z i).kind (line_value z s i)

-- its word; a low and a high limit are rounded as a pair in the code, which is each by its kind
unfoldable pub line_word : Sizes → List ℕ → ℕ → ℤ
line_word z s i = converted_word (word_of z (due_at z i).kind (line_double z s i))

-- the command whose limit a line has, row the motor and column the step: "command k (from 0) belongs to motor k mod nu"
abbrev pub command_of : Sizes → Due → ℕ
command_of z d = d.column * z.nu + d.row

-- ---- what the code holds

-- "nu, N, nx, b, W, sweeps", then nr as "image word 6", and 0
abbrev pub size_words : Sizes → List ℤ
size_words z = pos z.nu ∷ pos z.steps ∷ pos z.nx ∷ pos z.b ∷ pos z.w ∷ pos z.sweeps ∷ pos z.nr ∷ pos 0 ∷ []

-- i lines are read: every word stands in the array but the lows whose high is still to come, and these are kept as doubles
pub record ReadTo (z : Sizes) (s : List ℕ) (i : ℕ) (words : List ℤ) (lows : List Float) : Type 0 where
  pub size : length words ≡ 569
  pub room : length lows ≡ 16
  pub passed : (k : ℕ) → k < i → line_fault z s k ≡ 0
  pub head : (k : ℕ) → k < 8 → get_or words k (pos 0) ≡ get_or (size_words z) k (pos 0)
  pub single : (k : ℕ) → k < i → (is_low z k → ⊥) → get_or words (8 + k) (pos 0) ≡ line_word z s k
  pub paired : (k : ℕ) → is_low z k → k + command_count z < i → get_or words (8 + k) (pos 0) ≡ line_word z s k
  pub kept : (j : ℕ) → j < command_count z → low_base z + j < i → get_or lows j nan ≡ line_double z s (low_base z + j)
