-- Worked sheets by computation: document 01's S, S with target values, and these with a line or a byte changed. Assumes nothing.
use Rattle.std.specs.Prelude.{◌≡◌, refl, List, [], ◌∷◌, ◌++◌, map, ℕ, ◌+◌, ◌*◌, ◌/◌, ◌%◌, cond, eqb, pos, negsuc, drop, set, take}
use Rattle.std.specs.Float.Ieee.{of_bits}
use Rattle.integer.specs.Round.{floor}
use Rattle.word.specs.Digits.{number_be, digits_be}
use Rattle.word.specs.Word.{bytes_be, words_out}
use Rattle.hexadecimal.specs.Hex.{is_hex, digit_of, hexes, hex_at, digit_byte, hex_digits}
use Rattle.double.specs.Double.{scalable, rounded, accepted}
use Rattle.gradient.specs.Index.{tab}
use Rattle.image.specs.Sizes.{sound}
use Rattle.line.specs.Line.{line_at}
use Rattle.frame.specs.Frame.{due_at, head_of, total, word_of}
use Rattle.lines.specs.Lines.{line_fault, line_value, line_word}
use Rattle.sheet.specs.Sheet.{sheet_image, sheet_number, sheet_words}

-- a frame as a number of 22 digits
abbrev pub frame : ℕ → ℕ → ℕ → ℕ → ℕ
frame kind row column bits = ((kind * 256 + row) * 256 + column) * 0x1_0000_0000_0000_0000 + bits

-- a text of frames, "22 hexadecimal digits .., then byte 10" each
abbrev pub text : List ℕ → List ℕ
text [] = []
text (n ∷ ns) = hex_digits 22 n ++ (10 ∷ text ns)

-- "this sheet, S"
abbrev pub lines : List ℕ
lines =
    0x0101010104080000030000
    ∷ 0x0200003FE0000000000000
    ∷ 0x0300003FF0000000000000
    ∷ 0x040000BFF4000000000000
    ∷ 0x0500003FF4000000000000
    ∷ 0x0600000000000000000000
    ∷ 0x0700003FE4000000000000
    ∷ []

-- S with line k changed
abbrev pub changed : ℕ → ℕ → List ℕ
changed k n = text (set lines k n)

-- its image, 56 bytes
image_S : sheet_image (text lines) ≡
    0 ∷ 0 ∷ 0 ∷ 1 ∷ 0 ∷ 0 ∷ 0 ∷ 1 ∷ 0 ∷ 0 ∷ 0 ∷ 1 ∷ 0 ∷ 0 ∷ 0 ∷ 4 ∷ 0 ∷ 0 ∷ 0 ∷ 8 ∷ 0 ∷ 0 ∷ 0 ∷ 3 ∷ 0 ∷ 0 ∷ 0 ∷ 0 ∷ 0 ∷ 0 ∷ 0 ∷ 0
    ∷ 0 ∷ 0 ∷ 0 ∷ 8 ∷ 0 ∷ 0 ∷ 0 ∷ 16 ∷ 255 ∷ 255 ∷ 255 ∷ 236 ∷ 0 ∷ 0 ∷ 0 ∷ 20 ∷ 0 ∷ 0 ∷ 0 ∷ 0 ∷ 0 ∷ 0 ∷ 0 ∷ 10 ∷ []
unfolding is_hex digit_of hexes hex_at digit_byte hex_digits number_be digits_be bytes_be words_out of_bits floor scalable rounded accepted sound line_at head_of total due_at word_of line_value line_fault line_word sheet_number sheet_words sheet_image
image_S = refl

-- S with one target value: "a target table" of −24.5 counts, a tie that goes to −24, and a target limit of 10.5, "treated as 07"
abbrev pub target_lines : List ℕ
target_lines = set lines 0 0x0101010104080100030000 ++ (0x080000BFF8800000000000 ∷ 0x0900003FE5000000000000 ∷ [])

abbrev pub target_changed : ℕ → ℕ → List ℕ
target_changed k n = text (set target_lines k n)

-- its image, 64 bytes
image_target : sheet_image (text target_lines) ≡
    0 ∷ 0 ∷ 0 ∷ 1 ∷ 0 ∷ 0 ∷ 0 ∷ 1 ∷ 0 ∷ 0 ∷ 0 ∷ 1 ∷ 0 ∷ 0 ∷ 0 ∷ 4 ∷ 0 ∷ 0 ∷ 0 ∷ 8 ∷ 0 ∷ 0 ∷ 0 ∷ 3 ∷ 0 ∷ 0 ∷ 0 ∷ 1 ∷ 0 ∷ 0 ∷ 0 ∷ 0
    ∷ 0 ∷ 0 ∷ 0 ∷ 8 ∷ 0 ∷ 0 ∷ 0 ∷ 16 ∷ 255 ∷ 255 ∷ 255 ∷ 236 ∷ 0 ∷ 0 ∷ 0 ∷ 20 ∷ 0 ∷ 0 ∷ 0 ∷ 0 ∷ 0 ∷ 0 ∷ 0 ∷ 10
    ∷ 255 ∷ 255 ∷ 255 ∷ 232 ∷ 0 ∷ 0 ∷ 0 ∷ 11 ∷ []
unfolding is_hex digit_of hexes hex_at digit_byte hex_digits number_be digits_be bytes_be words_out of_bits floor scalable rounded accepted sound line_at head_of total due_at word_of line_value line_fault line_word sheet_number sheet_words sheet_image
image_target = refl

-- S with two: the columns of the target table, and the rows of the target limits
abbrev pub two_targets : ℕ → List ℕ
two_targets last =
    text
    (set lines 0 0x0101010104080200030000 ++ (0x0800003FF0000000000000 ∷ 0x0800013FF0000000000000 ∷ 0x0900003FE4000000000000 ∷ last ∷ []))

-- one motor, two steps: "the column as the step", limits of 20 counts at step 0 and of 5 at step 1
abbrev pub step_lines : List ℕ
step_lines =
    0x0101020104080000030000
    ∷ 0x0200003FE0000000000000
    ∷ 0x0200010000000000000000
    ∷ 0x0201000000000000000000
    ∷ 0x0201013FE0000000000000
    ∷ 0x0300003FF0000000000000
    ∷ 0x0301003FF0000000000000
    ∷ 0x040000BFF4000000000000
    ∷ 0x040001BFD4000000000000
    ∷ 0x0500003FF4000000000000
    ∷ 0x0500013FD4000000000000
    ∷ 0x0600000000000000000000
    ∷ 0x0700003FE4000000000000
    ∷ []

-- "the former layout": one low and one high a motor, in column 0
abbrev pub former_lines : List ℕ
former_lines = take 8 step_lines ++ (0x0500003FF4000000000000 ∷ drop 11 step_lines)

-- the high of step 0 before the low of step 1
abbrev pub mixed_lines : List ℕ
mixed_lines = set (set step_lines 8 0x0500003FF4000000000000) 9 0x040001BFD4000000000000

-- two motors, two steps, and lines of limits; H is 0.5 on the diagonal
abbrev pub motor_lines : List ℕ → List ℕ
motor_lines limits =
    0x0102020104080000030000
    ∷ tab (λ (i : ℕ). frame 2 (i / 4) (i % 4) (cond (eqb (i / 4) (i % 4)) 0x3FE0000000000000 0)) 16
    ++ (tab (λ (i : ℕ). frame 3 i 0 0x3FF0000000000000) 4 ++ (limits ++ (0x0600000000000000000000 ∷ 0x0700003FE4000000000000 ∷ [])))

-- "steps outermost and motors within": lows of −20, −4, −2 and −8 counts, highs of 20, 2, 3 and 1
abbrev pub limit_lines : List ℕ
limit_lines =
    0x040000BFF4000000000000
    ∷ 0x040100BFD0000000000000
    ∷ 0x040001BFC0000000000000
    ∷ 0x040101BFE0000000000000
    ∷ 0x0500003FF4000000000000
    ∷ 0x0501003FC0000000000000
    ∷ 0x0500013FC8000000000000
    ∷ 0x0501013FB0000000000000
    ∷ []

-- the limits in its image, "n lows and n highs": command k has motor k mod nu
image_limits : take 32 (drop 112 (sheet_image (text (motor_lines limit_lines)))) ≡
    words_out (negsuc 19 ∷ negsuc 3 ∷ negsuc 1 ∷ negsuc 7 ∷ pos 20 ∷ pos 2 ∷ pos 3 ∷ pos 1 ∷ [])
unfolding is_hex digit_of hexes hex_at digit_byte hex_digits number_be digits_be bytes_be words_out of_bits floor scalable rounded accepted sound line_at head_of total due_at word_of line_value line_fault line_word sheet_number sheet_words sheet_image
image_limits = refl

-- ---- the number through lines and end, beside each sheet
pub record Sample : Type 0 where
  pub number : ℕ
  pub sheet : List ℕ

abbrev pub sample : ℕ → List ℕ → Sample
sample n s = record { number = n; sheet = s }

abbrev samples : List Sample
samples =
    sample 0 (text lines)
    -- "the empty sheet", a sheet that "ends between lines too early", "a cut line", "a byte after the last line due"
    ∷ sample 4 []
    ∷ sample 4 (take 69 (text lines))
    ∷ sample 1 (take 160 (text lines))
    ∷ sample 4 (text lines ++ (10 ∷ []))
    -- a lower-case digit
    ∷ sample 1 (set (text lines) 30 102)
    -- another kind, row or column than due; one of "the other two 0 bytes" of line 01 that is not 0, before a size
    ∷ sample 2 (changed 1 0x0300003FE0000000000000)
    ∷ sample 2 (changed 1 0x0201003FE0000000000000)
    ∷ sample 2 (changed 1 0x0200013FE0000000000000)
    ∷ sample 2 (changed 0 0x0101010104080000030100)
    ∷ sample 2 (changed 0 0x0101010104080000030001)
    ∷ sample 2 (changed 0 0x0101010104080500030100)
    -- nu 0, sweeps 0, 401 and 400
    ∷ sample 3 (changed 0 0x0100010104080000030000)
    ∷ sample 3 (changed 0 0x0101010104080000000000)
    ∷ sample 3 (changed 0 0x0101010104080001910000)
    ∷ sample 0 (changed 0 0x0101010104080001900000)
    -- "nr, 0 to 4 target values, else 3": 5, 255, and 4 and 1, with which the first 08 is missing
    ∷ sample 3 (changed 0 0x0101010104080500030000)
    ∷ sample 3 (changed 0 0x010101010408FF00030000)
    ∷ sample 4 (changed 0 0x0101010104080400030000)
    ∷ sample 4 (changed 0 0x0101010104080100030000)
    -- one target value, and two; with none a line 08 is one too many
    ∷ sample 0 (text target_lines)
    ∷ sample 0 (two_targets 0x0901003FE4000000000000)
    ∷ sample 2 (two_targets 0x0900013FE4000000000000)
    ∷ sample 4 (text (lines ++ (0x080000BFF8800000000000 ∷ [])))
    -- "after 07 come kind 08 .. and kind 09": 08 before 07, 09 before 08, no 09, a second 09
    ∷ sample 2 (target_changed 6 0x080000BFF8800000000000)
    ∷ sample 2 (target_changed 7 0x0900003FE5000000000000)
    ∷ sample 4 (take 184 (text target_lines))
    ∷ sample 4 (text (target_lines ++ (0x0900003FE5000000000000 ∷ [])))
    -- "target limits, treated as 07": −1 count and −0.5 counts; a target table outside the word
    ∷ sample 5 (target_changed 8 0x090000BFB0000000000000)
    ∷ sample 0 (target_changed 8 0x090000BFA0000000000000)
    ∷ sample 5 (target_changed 7 0x0800004020000000000000)
    -- "NaN, infinity, rounded value outside the word, or a state limit below 0 once rounded", which −0.5 counts is not
    ∷ sample 5 (changed 1 0x0200007FF8000000000000)
    ∷ sample 5 (changed 3 0x040000FFF0000000000000)
    ∷ sample 5 (changed 2 0x0300004020000000000000)
    ∷ sample 5 (changed 6 0x070000BFB0000000000000)
    ∷ sample 0 (changed 6 0x070000BFA0000000000000)
    -- tables "to the nearest .., and only then tested for 5": 127.25 counts are 127, and −127.5 with one bit less −127; 127.5 and −127.5 are ties that
    -- go to 128 and −128. 127.5 as a high limit are 127
    ∷ sample 0 (changed 1 0x020000401FD00000000000)
    ∷ sample 5 (changed 1 0x020000401FE00000000000)
    ∷ sample 0 (changed 2 0x030000C01FDFFFFFFFFFFF)
    ∷ sample 5 (changed 2 0x030000C01FE00000000000)
    ∷ sample 0 (target_changed 7 0x080000401FD00000000000)
    ∷ sample 5 (target_changed 7 0x080000401FE00000000000)
    ∷ sample 0 (changed 4 0x050000401FE00000000000)
    -- "minus zero is zero"
    ∷ sample 0 (changed 5 0x0600008000000000000000)
    -- "the first fault decides": 5 at the low's own line before 1 at the high's; 1 before that 5
    ∷ sample 5 (set (changed 3 0x040000FFF0000000000000) 99 102)
    ∷ sample 1 (set (changed 3 0x040000FFF0000000000000) 30 102)
    -- two steps, and two motors at two steps
    ∷ sample 0 (text step_lines)
    ∷ sample 0 (text (motor_lines limit_lines))
    -- "a sheet .. in the former layout is 2 when N is above 1"; a 05 before the last 04; the column left 0; a step too many
    ∷ sample 2 (text former_lines)
    ∷ sample 2 (text mixed_lines)
    ∷ sample 2 (text (set step_lines 8 0x040000BFD4000000000000))
    ∷ sample 2 (text (take 9 step_lines ++ (0x040002BFD4000000000000 ∷ drop 9 step_lines)))
    -- motors outermost: the low of motor 0 at step 1 before that of motor 1 at step 0
    ∷ sample 2 (text (motor_lines (set (set limit_lines 1 0x040001BFC0000000000000) 2 0x040100BFD0000000000000)))
    -- a low's fault at its own line, also at the last step
    ∷ sample 5 (set (text (set step_lines 8 0x040001FFF0000000000000)) 237 102)
    ∷ []

numbers : map (λ (x : Sample). sheet_number x.sheet) samples ≡ map (λ (x : Sample). x.number) samples
unfolding is_hex digit_of hexes hex_at digit_byte hex_digits number_be digits_be bytes_be words_out of_bits floor scalable rounded accepted sound line_at head_of total due_at word_of line_value line_fault line_word sheet_number sheet_words sheet_image
numbers = refl
