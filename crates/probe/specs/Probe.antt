-- The conversions of `double` as calls on numbers and a byte buffer of `room` bytes. Definitions only.
use Rattle.std.specs.Prelude.{ℕ, cond, List, [], ◌∷◌, eqb, ℤ, Float}
use Rattle.std.specs.Float.{binary64}
use Rattle.std.specs.Float.Ieee.{of_bits, to_bits}
use Rattle.word.specs.Word.{words_out, pattern_bytes}
use Rattle.double.specs.Double as double
use Rattle.double.specs.declared.Rounding.{Rounding}
use Rattle.double.specs.declared.Rounding.TheVariants.{Down, Up, Nearest}
use Rattle.double.specs.declared.Limits.{Limits}

-- 15, "output buffer not the exact length", comes first here
abbrev pub in_buffer : ℕ → ℕ → ℕ → ℕ
in_buffer size room number = cond (eqb room size) number 15

-- "an IEEE 754 double"
abbrev pub double_of : ℕ → Float
double_of bits = of_bits binary64 bits

-- ---- a double to a word

-- 0 is "down", 1 is "up", any other number "nearest"
abbrev pub rounding_of : ℕ → Rounding
rounding_of how = cond (eqb how 0) Down (cond (eqb how 1) Up Nearest)

-- 0, 5 or 15
abbrev pub word_number : ℕ → ℕ → ℕ → ℕ → ℕ → ℕ
word_number bits b w how room = in_buffer 4 room (double.conversion_number (double.rule_of (rounding_of how)) b w (double_of bits))

-- the word's four bytes, "big-endian"
abbrev pub word_answer : ℕ → ℕ → ℕ → List ℕ
word_answer bits b how = words_out (double.rounded (double.rule_of (rounding_of how)) b (double_of bits) ∷ [])

-- ---- a motor's limits

abbrev pub limits_of : ℕ → ℕ → Limits
limits_of low high = record { low = double_of low; high = double_of high }

-- 0, 5 or 15
abbrev pub limits_number : ℕ → ℕ → ℕ → ℕ → ℕ → ℕ
limits_number low high b w room = in_buffer 8 room (double.limits_number b w (limits_of low high))

-- the low word, "up", and the high word, "down"
abbrev pub limits_answer : ℕ → ℕ → ℕ → List ℕ
limits_answer low high b = words_out (double.rounded double.round_up b (double_of low) ∷ double.rounded double.round_down b (double_of high) ∷ [])

-- ---- "a word back to a double"

-- 0, 3, 5 or 15
abbrev pub double_number : ℤ → ℕ → ℕ → ℕ → ℕ
double_number value b w room = in_buffer 8 room (double.double_number b w value)

-- the double's "8 value bytes", which a refusal has too
abbrev pub double_answer : ℤ → ℕ → ℕ → List ℕ
double_answer value b w = pattern_bytes (to_bits binary64 (double.double_value b w value))
