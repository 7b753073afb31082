-- Document 01, "The design sheet", with requests 1, 3 and 7: what line 01 gives, the lines due after it, and the word of a line's double.
-- Definitions only.
use Rattle.std.specs.Prelude.{ℕ, ◌+◌, ◌-◌, ◌*◌, ◌/◌, ◌%◌, ◌≤◌, ◌<◌, Bool, true, false, not, ◌&&◌, ◌||◌, cond, List, [], ◌∷◌, ltb, eqb, ℤ, pos, negsuc, Float, Option, Some, None, Result, Ok, Err}
use Rattle.std.specs.Float.{fin, binary64}
use Rattle.std.specs.Float.Ieee.{of_bits}
use Rattle.double.specs.Double.{accepted, convert, converted_number, is_negative, rounded, rule_of}
use Rattle.double.specs.declared.Rounding.{Rounding}
use Rattle.double.specs.declared.Rounding.TheVariants.{Down, Up, Nearest}
use Rattle.image.specs.Order.{check, first_fault}
use Rattle.image.specs.Sizes.{command_count, sound}
use Rattle.image.specs.declared.Sizes.{Sizes}
use Rattle.line.specs.Line.{line_number}
use Rattle.line.specs.declared.Frame.{Frame}
use Rattle.refusal.specs.Number.{number_of}
use Rattle.refusal.specs.declared.Refusal.{Refusal}
use Rattle.refusal.specs.declared.Refusal.TheVariants.{Misplaced, Size}
use Rattle.frame.specs.declared.Due.{Due}

-- ---- line 01

-- "row is nu, column N; value bytes are nx, b, W, .., sweeps in two bytes, 0, 0", and "the fourth value byte" is nr
abbrev pub frame_sizes : ℕ → ℕ → ℕ → Sizes
frame_sizes row column bits = record {
  nu = row;
  steps = column;
  nx = bits / 0x100_0000_0000_0000;
  b = bits / 0x1_0000_0000_0000 % 256;
  w = bits / 0x100_0000_0000 % 256;
  sweeps = bits / 65536 % 65536;
  nr = bits / 0x1_0000_0000 % 256;
}

-- "the other two 0 bytes" are 0
abbrev pub frame_zeros : ℕ → Bool
frame_zeros bits = eqb (bits % 65536) 0

-- what line 01 gives: its refusal is that of the line, or 2 ("for 01 only the kind", and now "only the other two 0 bytes"), or 3
unfoldable pub head_of : Result Frame Refusal → Result Sizes Refusal
head_of (Err why) = Err why
head_of (Ok f) =
    cond (eqb f.kind 1 && frame_zeros f.bits) (cond (sound (frame_sizes f.row f.column f.bits)) (Ok (frame_sizes f.row f.column f.bits)) (Err Size)) (Err Misplaced)

-- document 01's number of what line 01 gives: sizes go with 0, a refusal with its own
abbrev pub head_fault : Result Sizes Refusal → ℕ
head_fault h = number_of h

-- the number of line 01: that of the line, 2 for "only the kind", and "the other two 0 bytes", 3 for "a size outside the ranges"
abbrev pub line_one_number : Result Frame Refusal → ℕ
line_one_number (Err why) = line_number (Err why)
line_one_number (Ok f) =
    first_fault (check 2 (eqb f.kind 1) ∷ check 2 (frame_zeros f.bits) ∷ check 3 (sound (frame_sizes f.row f.column f.bits)) ∷ [])

-- ---- the lines due after it

-- a "table": the kind of its lines, how many rows and columns it has, and whether the columns go outermost
pub record Table : Type 0 where
  pub kind : ℕ
  pub rows : ℕ
  pub columns : ℕ
  pub column_major : Bool

-- the table of a kind, r "by" c, "rows outermost"
abbrev pub table : ℕ → ℕ → ℕ → Table
table k r c = record { kind = k; rows = r; columns = c; column_major = false }

-- the limits of a kind: row the motor, "the column as the step", "steps outermost and motors within"
abbrev pub limit_table : ℕ → ℕ → ℕ → Table
limit_table k nu steps = record { kind = k; rows = nu; columns = steps; column_major = true }

-- "02: cost table H, n by n. 03: state table Φ, n by nx. 04 low limit and 05 high limit, row the motor", "the column as the step, 0 to N − 1";
-- "all 04 still come first". "06 step factor β, row and column 0. 07 state limit, row the state, column 0." "After 07 come kind 08, a target
-- table of n by nr, .. and kind 09, target limits, treated as 07"
abbrev pub tables : Sizes → List Table
tables z =
    table 2 (command_count z) (command_count z)
    ∷ table 3 (command_count z) z.nx
    ∷ limit_table 4 z.nu z.steps
    ∷ limit_table 5 z.nu z.steps
    ∷ table 6 1 1
    ∷ table 7 z.nx 1
    ∷ table 8 (command_count z) z.nr
    ∷ table 9 z.nr 1
    ∷ []

-- how many lines some tables have
abbrev pub count_in : List Table → ℕ
count_in [] = 0
count_in (t ∷ ts) = t.rows * t.columns + count_in ts

-- "a kind, a row and a column"
abbrev pub due : ℕ → ℕ → ℕ → Due
due k r c = record { kind = k; row = r; column = c }

-- line i of a table, "all counted from 0"
abbrev pub line_of : Table → ℕ → Due
line_of t i = cond t.column_major (due t.kind (i % t.rows) (i / t.rows)) (due t.kind (i / t.columns) (i % t.columns))

-- line i of some tables, one after the other
abbrev pub due_in : List Table → ℕ → Due
due_in [] i = due 0 0 0
due_in (t ∷ ts) i = cond (ltb i (t.rows * t.columns)) (line_of t i) (due_in ts (i - t.rows * t.columns))

-- how many lines are due after line 01
unfoldable pub total : Sizes → ℕ
total z = count_in (tables z)

-- the kind, row and column "due here", at line i after line 01
unfoldable pub due_at : Sizes → ℕ → Due
due_at z i = due_in (tables z) i

-- the first line of a low limit among those after line 01
unfoldable pub low_base : Sizes → ℕ
low_base z = command_count z * command_count z + command_count z * z.nx

abbrev pub is_low : Sizes → ℕ → Type 0
is_low z k = (low_base z ≤ k) × (k < low_base z + command_count z)

-- the highs follow, as many
abbrev pub is_high : Sizes → ℕ → Type 0
is_high z k = (low_base z + command_count z ≤ k) × (k < low_base z + command_count z + command_count z)

-- ---- one such line

-- an entry of a table: of H, 02, of Φ, 03, or of the target table, 08
abbrev pub is_table_entry : ℕ → Bool
is_table_entry kind = eqb kind 2 || eqb kind 3 || eqb kind 8

-- "kinds 02, 03 and 08 are rounded to the nearest whole count", and the others as before: "04 up, 05 down, 06 up, 07 up", 09 "treated as 07"
abbrev pub rounding_of : ℕ → Rounding
rounding_of kind = cond (is_table_entry kind) Nearest (cond (eqb kind 5) Down Up)

-- a limit of the state, 07, or of the target, 09, "treated as 07"
abbrev pub is_input_limit : ℕ → Bool
is_input_limit kind = eqb kind 7 || eqb kind 9

-- not such a limit "below 0 once rounded"
abbrev pub not_below_zero : Option ℤ → Option ℤ
not_below_zero (Some (pos n)) = Some (pos n)
not_below_zero (Some (negsuc n)) = None
not_below_zero None = None

-- the double of a line of some kind "scaled by 2^b .. and then rounded"
unfoldable pub word_of : Sizes → ℕ → Float → Option ℤ
word_of z kind x =
    cond (is_input_limit kind) (not_below_zero (convert (rule_of (rounding_of kind)) z.b z.w x)) (convert (rule_of (rounding_of kind)) z.b z.w x)

-- its number: 5 for "NaN, infinity, rounded value outside the word, or a state limit below 0 once rounded"
abbrev pub word_number : Sizes → ℕ → Float → ℕ
word_number z kind x =
    let rule = rule_of (rounding_of kind) in
    first_fault (check 5 (accepted rule z.b z.w x) ∷ check 5 (not (is_input_limit kind && is_negative (rounded rule z.b x))) ∷ [])

-- the word of a conversion; 0 where there is none
abbrev pub converted_word : Option ℤ → ℤ
converted_word (Some v) = v
converted_word None = pos 0

-- "the kind, row and column due here"
abbrev pub is_due : Due → ℕ → ℕ → ℕ → Bool
is_due d kind row column = eqb kind d.kind && eqb row d.row && eqb column d.column

-- what a line gives where d is due: its refusal is that of the line, or 2; "from 02 on the value is an IEEE 754 double"
abbrev pub value_of : Due → Result Frame Refusal → Result Float Refusal
value_of d (Err why) = Err why
value_of d (Ok f) = cond (is_due d f.kind f.row f.column) (Ok (of_bits binary64 f.bits)) (Err Misplaced)

-- document 01's number of what a line gives: a double, not yet converted, goes with 0, a refusal with its own
abbrev pub value_fault : Result Float Refusal → ℕ
value_fault v = number_of v

-- and once converted: a double goes with the number of its conversion, 0 or 5
abbrev pub value_number : Sizes → ℕ → Result Float Refusal → ℕ
value_number z kind (Ok x) = converted_number (word_of z kind x)
value_number z kind (Err why) = value_fault (Err why)

-- the number of a line where d is due: that of the line, or 2 for "not the kind, row and column due here"
abbrev pub due_number : Due → Result Frame Refusal → ℕ
due_number d (Err why) = line_number (Err why)
due_number d (Ok f) = first_fault (check 2 (is_due d f.kind f.row f.column) ∷ [])

-- the double of each case; plus zero where there is none
abbrev pub value_double : Result Float Refusal → Float
value_double (Ok x) = x
value_double (Err why) = fin false 0 (pos 0)
