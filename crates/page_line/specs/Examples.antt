-- Worked lines, by computation: b is 4 and W 8. Assumes nothing.
use Rattle.std.specs.Prelude.{◌≡◌, refl, List, [], ◌∷◌, ◌++◌, ℕ, ℤ, pos, negsuc}
use Rattle.std.specs.Float.{binary64}
use Rattle.std.specs.Float.Ieee.{of_bits, eq, size, round, to_bits}
use Rattle.word.specs.Ascii.{ascii}
use Rattle.word.specs.Digits.{digits_be}
use Rattle.hexadecimal.specs.Hex.{digit_byte, hex_digits}
use Rattle.double.specs.Double.{double_value}
use Rattle.frame.specs.Frame.{due}
use Rattle.page_line.specs.Effect.{is_kept, effect_of, line_text}

-- the line of the double of a pattern whose word is v
abbrev line : ℕ → ℕ → ℤ → List ℕ
line kind bits v = line_text (due kind 0 0) (effect_of (of_bits binary64 bits) (double_value 4 8 v))

-- "a high limit of 0.03125"
moved : line 5 0x3FA0000000000000 (pos 0) ≡ ascii "05 0000 3FA0000000000000 0000000000000000 M" ++ 10 ∷ []
unfolding is_kept effect_of line_text hex_digits digits_be digit_byte of_bits eq round size to_bits
moved = refl

-- "Minus zero is K, and its kept double is plus zero"
minus_zero : line 6 0x8000000000000000 (pos 0) ≡ ascii "06 0000 8000000000000000 0000000000000000 K" ++ 10 ∷ []
unfolding is_kept effect_of line_text hex_digits digits_be digit_byte of_bits eq round size to_bits
minus_zero = refl

-- −1.25 is −20 counts, so it is kept
kept : line 4 0xBFF4000000000000 (negsuc 19) ≡ ascii "04 0000 BFF4000000000000 BFF4000000000000 K" ++ 10 ∷ []
unfolding is_kept effect_of line_text hex_digits digits_be digit_byte of_bits eq round size to_bits
kept = refl
