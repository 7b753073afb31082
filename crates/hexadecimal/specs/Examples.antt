-- Worked examples of document 01, by computation. Assumes nothing.
use Rattle.std.specs.Prelude.{◌≡◌, refl, true, false, List, [], ◌∷◌, ℕ}
use Rattle.word.specs.Digits.{number_be, digits_be}
use Rattle.hexadecimal.specs.Hex.{is_hex, digit_of, hexes, hex_at, digit_byte, hex_digits}

-- "command −18" is the word FFFFFFEE
command_printed : hex_digits 8 0xFFFFFFEE ≡ 70 ∷ 70 ∷ 70 ∷ 70 ∷ 70 ∷ 70 ∷ 69 ∷ 69 ∷ []
unfolding hex_digits digits_be digit_byte
command_printed = refl

-- "state 0000000A" is 10
abbrev state : List ℕ
state = 48 ∷ 48 ∷ 48 ∷ 48 ∷ 48 ∷ 48 ∷ 48 ∷ 65 ∷ []

state_digits : hexes 8 state 0 ≡ true
unfolding hexes is_hex
state_digits = refl

state_number : hex_at 8 state 0 ≡ 10
unfolding hex_at number_be digit_of is_hex
state_number = refl

-- a digit is missing, or is a lower-case letter
cut : hexes 9 state 0 ≡ false
unfolding hexes is_hex
cut = refl

lower_case : is_hex 97 ≡ false
unfolding is_hex
lower_case = refl
