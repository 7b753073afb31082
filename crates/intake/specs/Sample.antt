-- Worked calls by computation: document 01's S, and S with other limits. Assumes nothing.
use Rattle.std.specs.Prelude.{◌≡◌, refl, List, [], ◌∷◌, ◌++◌, map, ℕ, set}
use Rattle.std.specs.Float.Ieee.{of_bits}
use Rattle.integer.specs.Round.{floor, ceil}
use Rattle.word.specs.Digits.{number_be, digits_be}
use Rattle.word.specs.Word.{nat_be, bytes_be, words_at, words_out}
use Rattle.hexadecimal.specs.Hex.{is_hex, digit_of, hexes, hex_at, digit_byte, hex_digits}
use Rattle.double.specs.Double.{scalable, rounded, accepted}
use Rattle.gradient.specs.Problem.{F}
use Rattle.gradient.specs.Bounds.{magnitude, width, weight, range_p, range_y, range_a, range_b}
use Rattle.image.specs.Sizes.{sound}
use Rattle.image.specs.Layout.{sizes_of, lower_at, upper_at, momentum_at, limit_at, entry_of, command_at, problem_at}
use Rattle.interface.specs.Tables.{symmetry_test, others_at, margin_at, total_at, least_margin, largest_total, momentum_range, momentum_ratio, range_test, row_test, tables_number}
use Rattle.line.specs.Line.{line_at}
use Rattle.frame.specs.Frame.{due_at, head_of, total, word_of}
use Rattle.lines.specs.Lines.{line_fault, line_value, line_word}
use Rattle.sheet.specs.Sample.{Sample, changed, lines, sample, text}
use Rattle.sheet.specs.Sheet.{sheet_image, sheet_number, sheet_words}
use Rattle.intake.specs.Intake.{design_number, intake_number}

-- ---- the number of the call, for a buffer of 56 bytes and of 55

-- both limits 0.03125: the low is 1 count, the high 0; 7 comes before 17
abbrev crossed : List ℕ
crossed = text (set (set lines 3 0x0400003FA0000000000000) 4 0x0500003FA0000000000000)

-- a low limit of 0.03125 alone, 1 count
abbrev raised : List ℕ
raised = changed 3 0x0400003FA0000000000000

-- state limits of 117 counts and of 118
abbrev fitting : List ℕ
fitting = changed 6 0x070000401D400000000000

abbrev crowded : List ℕ
crowded = changed 6 0x070000401D800000000000

abbrev calls : List Sample
calls = sample 0 (text lines) ∷ sample 7 crossed ∷ sample 17 raised ∷ sample 4 (crossed ++ (10 ∷ [])) ∷ sample 0 fitting ∷ sample 12 crowded ∷ []

abbrev short_calls : List Sample
short_calls = sample 15 (text lines) ∷ sample 7 crossed ∷ sample 17 raised ∷ sample 12 crowded ∷ []

call_numbers : map (λ (x : Sample). intake_number x.sheet 56) calls ≡ map (λ (x : Sample). x.number) calls
unfolding is_hex digit_of hexes hex_at digit_byte hex_digits number_be digits_be bytes_be words_out of_bits floor scalable rounded accepted sound line_at head_of total due_at word_of line_value line_fault line_word sheet_number sheet_words sheet_image design_number intake_number nat_be words_at sizes_of lower_at upper_at momentum_at limit_at entry_of command_at problem_at symmetry_test others_at margin_at total_at least_margin largest_total momentum_range momentum_ratio range_test row_test tables_number F ceil magnitude width range_p range_y weight range_a range_b
call_numbers = refl

short_numbers : map (λ (x : Sample). intake_number x.sheet 55) short_calls ≡ map (λ (x : Sample). x.number) short_calls
unfolding is_hex digit_of hexes hex_at digit_byte hex_digits number_be digits_be bytes_be words_out of_bits floor scalable rounded accepted sound line_at head_of total due_at word_of line_value line_fault line_word sheet_number sheet_words sheet_image design_number intake_number nat_be words_at sizes_of lower_at upper_at momentum_at limit_at entry_of command_at problem_at symmetry_test others_at margin_at total_at least_margin largest_total momentum_range momentum_ratio range_test row_test tables_number F ceil magnitude width range_p range_y weight range_a range_b
short_numbers = refl
