-- What the laws of a sheet state. Definitions only.
use Rattle.std.specs.Prelude.{ℕ, ◌+◌, ◌*◌, ◌/◌, ◌%◌, ◌<◌, ◌≡◌, Bool, true, ◌||◌, List, eqb, ℤ, Float, Result, Ok, Err}
use Rattle.std.specs.Float.{binary64}
use Rattle.std.specs.Float.Ieee.{of_bits}
use Rattle.word.specs.Word.{word_at}
use Rattle.hexadecimal.specs.Hex.{hex_at}
use Rattle.double.specs.Double.{scalable, rounded, rule_of, round_up, round_down}
use Rattle.double.specs.Nearest.{IsRoundedCount}
use Rattle.double.specs.declared.Rounding.{Rounding}
use Rattle.double.specs.declared.Rounding.TheVariants.{Down, Up, Nearest}
use Rattle.image.specs.declared.Sizes.{Sizes}
use Rattle.image.specs.Sizes.{body_count, command_count}
use Rattle.image.specs.Layout.{lower_at, upper_at}
use Rattle.line.specs.Line.{line_at}
use Rattle.refusal.specs.declared.Refusal.{Refusal}
use Rattle.frame.specs.Frame.{due_at, head_of, is_input_limit, is_table_entry, low_base, rounding_of, total}
use Rattle.sheet.specs.Sheet.{sheet_image}

-- ---- a line and its word

-- the double that line i after line 01 gives
abbrev pub double_at : List ℕ → ℕ → Float
double_at s i = of_bits binary64 (hex_at 16 s (23 * (i + 1) + 6))

-- line i after line 01 is the one due, its double can be scaled, and word 8 + i of the image is that double "scaled by 2^b .. and then rounded"
pub record Rounded (z : Sizes) (s : List ℕ) (i : ℕ) : Type 0 where
  pub kind : hex_at 2 s (23 * (i + 1)) ≡ (due_at z i).kind
  pub row : hex_at 2 s (23 * (i + 1) + 2) ≡ (due_at z i).row
  pub column : hex_at 2 s (23 * (i + 1) + 4) ≡ (due_at z i).column
  pub scales : scalable z.b (double_at s i) ≡ true
  pub word : word_at (sheet_image s) (4 * (8 + i)) ≡ rounded (rule_of (rounding_of (due_at z i).kind)) z.b (double_at s i)

-- where the line of word 8 + i is of some kinds, the word is the line's double, rounded
abbrev pub KindsRounded : (ℕ → Bool) → Rounding → Sizes → List ℕ → Type 0
KindsRounded kinds how z s =
    (i : ℕ) → i < body_count z → kinds (hex_at 2 s (23 * (i + 1))) ≡ true → IsRoundedCount how z.b (double_at s i) (word_at (sheet_image s) (4 * (8 + i)))

-- the tables, "02, 03 and 08 .. to the nearest whole count"
abbrev pub NearestTables : Sizes → List ℕ → Type 0
NearestTables = KindsRounded is_table_entry Nearest

-- "04 up, .. 06 up, 07 up", and 09 "treated as 07": low limits go inward, β up, limits of state and target outward, each by less
-- than a count
abbrev pub RaisedNumbers : Sizes → List ℕ → Type 0
RaisedNumbers = KindsRounded (λ (kind : ℕ). eqb kind 4 || eqb kind 6 || is_input_limit kind) Up

-- "05 down": high limits go inward
abbrev pub LoweredHighs : Sizes → List ℕ → Type 0
LoweredHighs = KindsRounded (λ (kind : ℕ). eqb kind 5) Down

-- ---- the limits of a command

-- line i after line 01 is of a kind, a motor and a step, its double can be scaled, and v is that double rounded by a rule
pub record LimitLine (z : Sizes) (s : List ℕ) (i kind motor step : ℕ) (rule : ℤ → ℕ → ℤ) (v : ℤ) : Type 0 where
  pub kind_is : hex_at 2 s (23 * (i + 1)) ≡ kind
  pub motor_is : hex_at 2 s (23 * (i + 1) + 2) ≡ motor
  pub step_is : hex_at 2 s (23 * (i + 1) + 4) ≡ step
  pub scales : scalable z.b (double_at s i) ≡ true
  pub word_is : v ≡ rounded rule z.b (double_at s i)

-- "each command has the limits of its own step": command k of the image has those that the sheet gives motor k mod nu at step k / nu
pub record OwnLimits (z : Sizes) (s : List ℕ) (k : ℕ) : Type 0 where
  pub low : LimitLine z s (low_base z + k) 4 (k % z.nu) (k / z.nu) round_up (lower_at z (sheet_image s) k)
  pub high : LimitLine z s (low_base z + command_count z + k) 5 (k % z.nu) (k / z.nu) round_down (upper_at z (sheet_image s) k)

-- ---- how far a sheet is read

-- the bytes of line 01; with its sizes, those of the last line due and one more
abbrev pub reach_of : Result Sizes Refusal → ℕ
reach_of (Ok z) = 23 * (total z + 1) + 1
reach_of (Err why) = 23

unfoldable pub reach : List ℕ → ℕ
reach s = reach_of (head_of (line_at s 0))

-- how much of drive.hex a program reads: one byte more than the largest sheet has, 562 lines of 23 bytes
abbrev pub drive_room : ℕ
drive_room = 23 * 562 + 1
