-- Hexadecimal digits in a list of bytes. Definitions only.
use Rattle.std.specs.Prelude.{ℕ, zero, suc, ◌+◌, ◌-◌, Bool, true, ◌&&◌, ◌||◌, cond, List, get_or, leb, ltb}
use Rattle.word.specs.Digits.{number_be, digits_be}

-- "0 to 9, A to F"
unfoldable pub is_hex : ℕ → Bool
is_hex c = (leb 48 c && leb c 57) || (leb 65 c && leb c 70)

-- the value of a digit; 0 for any other byte
unfoldable pub digit_of : ℕ → ℕ
digit_of c = cond (is_hex c) (cond (leb c 57) (c - 48) (c - 55)) 0

-- "such digits": the k bytes from `at` on are there and are digits
unfoldable pub hexes : ℕ → List ℕ → ℕ → Bool
hexes zero s at = true
hexes (suc k) s at = hexes k s at && is_hex (get_or s (at + k) 0)

-- the number of the k "hexadecimal digits" from `at` on
unfoldable pub hex_at : ℕ → List ℕ → ℕ → ℕ
hex_at k s at = number_be 16 (λ (i : ℕ). digit_of (get_or s (at + i) 0)) k

-- the byte of the digit d
unfoldable pub digit_byte : ℕ → ℕ
digit_byte d = cond (ltb d 10) (48 + d) (55 + d)

-- the last k "hexadecimal digits" of n
unfoldable pub hex_digits : ℕ → ℕ → List ℕ
hex_digits k n = digits_be 16 digit_byte k n
