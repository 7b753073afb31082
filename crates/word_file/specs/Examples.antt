-- Worked examples of document 01, by computation. Assumes nothing.
use Rattle.std.specs.Prelude.{◌≡◌, refl, true, false, List, [], ◌∷◌, ℕ}
use Rattle.word.specs.Buffer.{joined}
use Rattle.word.specs.Digits.{number_be, digits_be}
use Rattle.word.specs.Word.{bytes_be}
use Rattle.hexadecimal.specs.Hex.{is_hex, digit_of, hexes, hex_at}
use Rattle.word_file.specs.WordFile.{is_word_file, file_words}

-- "state 0000000A", and byte 10
abbrev state : List ℕ
state = 48 ∷ 48 ∷ 48 ∷ 48 ∷ 48 ∷ 48 ∷ 48 ∷ 65 ∷ 10 ∷ []

one : is_word_file 1 state ≡ true
unfolding is_word_file hexes is_hex
one = refl

one_words : file_words 1 state ≡ 0 ∷ 0 ∷ 0 ∷ 10 ∷ []
unfolding joined file_words bytes_be digits_be hex_at number_be digit_of is_hex
one_words = refl

-- of another count, and without its byte 10
two : is_word_file 2 state ≡ false
unfolding is_word_file
two = refl

cut : is_word_file 1 (48 ∷ 48 ∷ 48 ∷ 48 ∷ 48 ∷ 48 ∷ 48 ∷ 65 ∷ []) ≡ false
unfolding is_word_file
cut = refl
