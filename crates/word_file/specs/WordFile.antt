-- Document 01, "The label program": what state.hex says, and so a file "formed as state.hex" (document 02, request 1). Definitions only.
use Rattle.std.specs.Prelude.{ℕ, ◌+◌, ◌*◌, Bool, ◌&&◌, List, eqb, length, get_or}
use Rattle.word.specs.Buffer.{joined}
use Rattle.word.specs.Word.{bytes_of}
use Rattle.hexadecimal.specs.Hex.{hexes, hex_at}

-- a file of count words, for state.hex "nx words of 8 digits with nothing between, then one byte 10"
unfoldable pub is_word_file : ℕ → List ℕ → Bool
is_word_file count file = eqb (length file) (8 * count + 1) && (eqb (get_or file (8 * count) 0) 10 && hexes (8 * count) file 0)

-- its words, "big-endian" as a solve takes them
unfoldable pub file_words : ℕ → List ℕ → List ℕ
file_words count file = joined (λ (i : ℕ). bytes_of (hex_at 8 file (8 * i))) count

-- how much of state.hex and target.hex the label program reads: one byte more than the largest good file has, 12 and 4 words and byte 10
abbrev pub state_room : ℕ
state_room = 8 * 12 + 2

abbrev pub target_room : ℕ
target_room = 8 * 4 + 2
