-- Design doubles and words, as "Words and sizes" and "The design sheet" of document 01 relate them, and request 7. They compute. Assumes nothing.
-- A finite double `fin s m e` of lib.Ieee is ±m × 2^e, and 2^e is the fraction up e / down e: so it is exactly ±(m × up e) / down e.
use Rattle.std.specs.Prelude.{◌≡◌, ℕ, ◌*◌, ◌^◌, Bool, true, false, cond, ◌&&◌, ℤ, pos, negsuc, ◌*ℤ◌, neg_ℤ, ◌==◌, nat_lt, unsigned_abs, Float, Option, Some, None, Result, Ok, Err}
use Rattle.std.specs.Float.{nan, inf, fin, binary64}
use Rattle.std.specs.Float.Ieee.{up, down, round}
use Rattle.std.specs.Float.Ieee.Nearest.{closest}
use Rattle.std.specs.Float.Ieee.Scale.{finite}
use Rattle.integer.specs.Round.{floor}
use Rattle.word.specs.Format.{is_format, in_word}
use Rattle.double.specs.declared.Rounding.{Rounding}
use Rattle.double.specs.declared.Rounding.TheVariants.{Down, Up, Nearest}
use Rattle.double.specs.declared.Limits.{Limits}
use Rattle.refusal.specs.declared.Refusal.{Refusal}
use Rattle.refusal.specs.declared.Refusal.TheVariants.{Size, Word}

-- ---- sign and magnitude

-- n, or −n where the sign s is set
abbrev pub signed : Bool → ℕ → ℤ
signed false n = pos n
signed true n = neg_ℤ (pos n)

-- whether z is below 0
abbrev pub is_negative : ℤ → Bool
is_negative (pos n) = false
is_negative (negsuc n) = true

-- ---- the roundings of a fraction z / d: a rule is ℤ → ℕ → ℤ

-- "rounded .. down"
abbrev pub round_down : ℤ → ℕ → ℤ
round_down z d = floor z d

-- "rounded .. up": minus the floor of the opposite
abbrev pub round_up : ℤ → ℕ → ℤ
round_up z d = neg_ℤ (floor (neg_ℤ z) d)

-- "rounded to the nearest whole count, a tie to the even one": the magnitude by the library's `closest`, which is that, and the sign kept
abbrev pub round_nearest : ℤ → ℕ → ℤ
round_nearest z d = signed (is_negative z) (closest (unsigned_abs z) d)

-- the rule that a kind of rounding names
abbrev pub rule_of : Rounding → ℤ → ℕ → ℤ
rule_of Down = round_down
rule_of Up = round_up
rule_of Nearest = round_nearest

-- ---- a double to a word

-- "scaled by 2^b", which is refused for "NaN, infinity" and where "it overflows", the product being 2^1024 or more in magnitude
unfoldable pub scalable : ℕ → Float → Bool
scalable b nan = false
scalable b (inf s) = false
scalable b (fin s m e) = nat_lt (m * up e * 2 ^ b) (2 ^ 1024 * down e)

-- the scaled double "and then rounded" by a rule; 0 where there is no number to round
unfoldable pub rounded : (ℤ → ℕ → ℤ) → ℕ → Float → ℤ
rounded rule b nan = pos 0
rounded rule b (inf s) = pos 0
rounded rule b (fin s m e) = rule (signed s (m * up e * 2 ^ b)) (down e)

-- neither "NaN, infinity, rounded value outside the word" nor an overflow; sizes out of range, which line 01 refuses with 3 before, have no word either
unfoldable pub accepted : (ℤ → ℕ → ℤ) → ℕ → ℕ → Float → Bool
unfolding scalable rounded
accepted rule b w x = is_format b w && scalable b x && in_word w (rounded rule b x)

-- the number of a conversion: 0, or 5
abbrev pub conversion_number : (ℤ → ℕ → ℤ) → ℕ → ℕ → Float → ℕ
conversion_number rule b w x = cond (accepted rule b w x) 0 5

-- the answer of a conversion, with the word
abbrev pub convert : (ℤ → ℕ → ℤ) → ℕ → ℕ → Float → Option ℤ
convert rule b w x = cond (accepted rule b w x) (Some (rounded rule b x)) None

-- document 01's number for each answer of a conversion: a word goes with 0, none with 5
abbrev pub converted_number : Option ℤ → ℕ
converted_number (Some z) = 0
converted_number None = 5

-- ---- a motor's limits

-- neither limit is refused: "04 up, 05 down"
abbrev pub accepted_limits : ℕ → ℕ → Limits → Bool
accepted_limits b w l = accepted round_up b w l.low && accepted round_down b w l.high

-- the number of the two conversions: 0, or 5
abbrev pub limits_number : ℕ → ℕ → Limits → ℕ
limits_number b w l = cond (accepted_limits b w l) 0 5

-- the answer of the two conversions, with the words
abbrev pub convert_limits : ℕ → ℕ → Limits → Option (ℤ × ℤ)
convert_limits b w l = cond (accepted_limits b w l) (Some (rounded round_up b l.low, rounded round_down b l.high)) None

-- document 01's number for each answer of the two conversions: the low and the high word go with 0, none with 5
abbrev pub limit_words_number : Option (ℤ × ℤ) → ℕ
limit_words_number (Some words) = 0
limit_words_number None = 5

-- ---- a word to a double

-- the number of "a word back to a double": "3 for b or W out of range, b above W − 2 included, then 5 for a value outside the word"
abbrev pub double_number : ℕ → ℕ → ℤ → ℕ
double_number b w z = cond (is_format b w) (cond (in_word w z) 0 5) 3

-- "the word divided by 2^b", as the double nearest to it, which `HasQuotient` says is exact; "plus zero with either number"
abbrev pub double_value : ℕ → ℕ → ℤ → Float
double_value b w z = cond (double_number b w z == 0) (round binary64 (is_negative z) (unsigned_abs z) (2 ^ b)) (fin false 0 (pos 0))

-- the answer of "a word back to a double": the double with 0, and a refusal with 3 or 5
abbrev pub double_answer : ℕ → ℕ → ℤ → Result Float Refusal
double_answer b w z = cond (is_format b w) (cond (in_word w z) (Ok (double_value b w z)) (Err Word)) (Err Size)

-- the double that goes with an answer: "plus zero with either number" of a refusal
abbrev pub answered_value : Result Float Refusal → Float
answered_value (Ok x) = x
answered_value (Err why) = fin false 0 (pos 0)

-- "divided .., exact": the double is finite, and ±m × 2^e = z / d
abbrev pub HasQuotient : Float → ℤ → ℕ → Type 0
HasQuotient nan z d = ⊥
HasQuotient (inf s) z d = ⊥
HasQuotient (fin s m e) z d = signed s (m * up e) *ℤ pos d ≡ z *ℤ pos (down e)

-- ---- what the code's parts answer

-- 2^b as a double
abbrev pub power : ℕ → Float
power b = fin false 1 (pos b)

-- a double that is scaled already, rounded by a rule, as the answer of a conversion
abbrev pub rounded_word : (ℤ → ℕ → ℤ) → ℕ → Float → Option ℤ
rounded_word rule w y = cond (finite y && in_word w (rounded rule 0 y)) (Some (rounded rule 0 y)) None
