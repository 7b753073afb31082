-- Worked examples of document 01 and of request 8, by computation. Assumes nothing.
use Rattle.std.specs.Prelude.{◌≡◌, refl, [], ◌∷◌, ◌++◌}
use Rattle.word.specs.Ascii.{ascii}
use Rattle.word.specs.Buffer.{joined}
use Rattle.word.specs.Digits.{number_be, digits_be}
use Rattle.word.specs.Word.{nat_be}
use Rattle.hexadecimal.specs.Hex.{digit_byte, hex_digits}
use Rattle.text.specs.Text.{distance_digits, line_of, lines, refusal}

-- S: command −18, bound 3, D 2
sample : lines 1 (0xFF ∷ 0xFF ∷ 0xFF ∷ 0xEE ∷ 0 ∷ 0 ∷ 0 ∷ 3 ∷ 0 ∷ 0 ∷ 0 ∷ 0 ∷ 0 ∷ 0 ∷ 0 ∷ 2 ∷ []) 1 ≡ ascii "FFFFFFEE 00000003 00000002" ++ 10 ∷ []
unfolding joined lines line_of distance_digits nat_be number_be hex_digits digits_be digit_byte
sample = refl

-- the largest D in eight digits, and the next one in sixteen, on each of two lines
eight : lines 1 (0 ∷ 0 ∷ 0 ∷ 1 ∷ 0 ∷ 0 ∷ 0 ∷ 2 ∷ 0 ∷ 0 ∷ 0 ∷ 0 ∷ 0xFF ∷ 0xFF ∷ 0xFF ∷ 0xFF ∷ []) 1 ≡ ascii "00000001 00000002 FFFFFFFF" ++ 10 ∷ []
unfolding joined lines line_of distance_digits nat_be number_be hex_digits digits_be digit_byte
eight = refl

sixteen : lines 2 (0 ∷ 0 ∷ 0 ∷ 1 ∷ 0 ∷ 0 ∷ 0 ∷ 2 ∷ 0 ∷ 0 ∷ 0 ∷ 3 ∷ 0 ∷ 0 ∷ 0 ∷ 4 ∷ 0 ∷ 0 ∷ 0 ∷ 1 ∷ 0 ∷ 0 ∷ 0 ∷ 0 ∷ []) 2
    ≡ ascii "00000001 00000003 0000000100000000" ++ 10 ∷ ascii "00000002 00000004 0000000100000000" ++ 10 ∷ []
unfolding joined lines line_of distance_digits nat_be number_be hex_digits digits_be digit_byte
sixteen = refl

-- "refused 04" and "refused 13"
four : refusal 4 ≡ 114 ∷ 101 ∷ 102 ∷ 117 ∷ 115 ∷ 101 ∷ 100 ∷ 32 ∷ 48 ∷ 52 ∷ 10 ∷ []
unfolding refusal digits_be
four = refl

thirteen : refusal 13 ≡ 114 ∷ 101 ∷ 102 ∷ 117 ∷ 115 ∷ 101 ∷ 100 ∷ 32 ∷ 49 ∷ 51 ∷ 10 ∷ []
unfolding refusal digits_be
thirteen = refl
