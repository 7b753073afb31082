-- Document 01, "The label program", with request 8: the lines that are printed. Definitions only.
use Rattle.std.specs.Prelude.{ℕ, ◌+◌, ◌*◌, ◌^◌, cond, List, [], ◌∷◌, ◌++◌, eqb, ltb, Result, Ok, Err}
use Rattle.refusal.specs.Number.{number}
use Rattle.refusal.specs.declared.Refusal.{Refusal}
use Rattle.word.specs.Buffer.{joined}
use Rattle.word.specs.Digits.{digits_be}
use Rattle.word.specs.Word.{nat_at, pattern_at}
use Rattle.hexadecimal.specs.Hex.{hex_digits}

-- "eight more digits", and "sixteen digits if eight don't suffice"
unfoldable pub distance_digits : ℕ → ℕ
distance_digits D = cond (ltb D (2 ^ 32)) 8 16

-- "command, space, bound, 8 digits each", D "after a space", in as many digits; "byte 10 ends each line"
unfoldable pub line_of : ℕ → ℕ → ℕ → ℕ → List ℕ
line_of command bound digits D = hex_digits 8 command ++ 32 ∷ [] ++ hex_digits 8 bound ++ 32 ∷ [] ++ hex_digits digits D ++ 10 ∷ []

abbrev pub line : ℕ → ℕ → ℕ → List ℕ
line command bound D = line_of command bound (distance_digits D) D

-- "one line a command", for the first k of the n commands of an answer, whose bounds follow them, with the answer's one D "on each line"
unfoldable pub lines : ℕ → List ℕ → ℕ → List ℕ
lines n answer k = joined (λ (i : ℕ). line (nat_at answer (4 * i)) (nat_at answer (4 * (n + i))) (pattern_at answer (8 * n))) k

-- 'the line "refused " and two decimal digits'
unfoldable pub refusal : ℕ → List ℕ
refusal number = 114 ∷ 101 ∷ 102 ∷ 117 ∷ 115 ∷ 101 ∷ 100 ∷ 32 ∷ digits_be 10 (λ (d : ℕ). 48 + d) 2 number ++ 10 ∷ []

-- "if refused, it prints only the line" of the number
abbrev pub printed : ℕ → List ℕ → List ℕ
printed number text = cond (eqb number 0) text (refusal number)

-- what is printed of a text or of why there is none
abbrev pub written : Result (List ℕ) Refusal → List ℕ
written (Ok text) = text
written (Err why) = refusal (number why)

-- room for the longest label: 16 lines of 35 bytes
abbrev pub text_room : ℕ
text_room = 560
