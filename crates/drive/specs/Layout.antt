-- Requests 9 to 11: where a drive's parts stand in its bytes, and what they hold, of every byte string. Each place is derived from the one
-- before. Bytes of a room that its part does not fill, and those of a head that is not made, are zeros from make on; a new image writes zeros
-- there too, but for shares, and no other call writes them. Assumes nothing.
use Rattle.std.specs.Prelude.{ℕ, ◌+◌, ◌*◌, min, List, take, drop}
use Rattle.word.specs.Word.{nat_at}
use Rattle.image.specs.Sizes.{command_count}
use Rattle.image.specs.Layout.{sizes_of}
use Rattle.interface.specs.Calls.{answer_length}
use Rattle.device.specs.Device.{most_heads}

-- ---- rooms: of a word, of the largest image, start and answer, which have 16 commands, 12 state and 4 target values
abbrev pub word_room : ℕ
word_room = 4

abbrev pub image_room : ℕ
image_room = 2276

abbrev pub start_room : ℕ
start_room = 4 * 16

abbrev pub answer_room : ℕ
answer_room = 8 * 16 + 8

-- ---- within a head: whether an answer waits, the start, the answer
abbrev pub start_offset : ℕ
start_offset = word_room

abbrev pub answer_offset : ℕ
answer_offset = start_offset + start_room

abbrev pub head_room : ℕ
head_room = answer_offset + answer_room

-- ---- places: the image's length, the image, then head after head; behind these their number, the common sweeps, and share after share
abbrev pub length_place : ℕ
length_place = 0

abbrev pub image_place : ℕ
image_place = length_place + word_room

abbrev pub heads_place : ℕ
heads_place = image_place + image_room

abbrev pub head_place : ℕ → ℕ
head_place k = heads_place + head_room * k

abbrev pub waiting_place : ℕ → ℕ
waiting_place k = head_place k

abbrev pub start_place : ℕ → ℕ
start_place k = head_place k + start_offset

abbrev pub answer_place : ℕ → ℕ
answer_place k = head_place k + answer_offset

abbrev pub count_place : ℕ
count_place = head_place most_heads

abbrev pub common_place : ℕ
common_place = count_place + word_room

abbrev pub own_place : ℕ → ℕ
own_place k = common_place + word_room + word_room * k

abbrev pub drive_length : ℕ
drive_length = own_place most_heads

-- ---- parts
-- "one image", as long as its length says, and no longer than its room
abbrev pub held_length : List ℕ → ℕ
held_length d = min (nat_at d length_place) image_room

unfoldable pub held_image : List ℕ → List ℕ
held_image d = take (held_length d) (drop image_place d)

-- how many commands the held image has
abbrev pub held_command_count : List ℕ → ℕ
held_command_count d = command_count (sizes_of (held_image d))

-- of head k "its own start", 4n bytes
unfoldable pub held_start : List ℕ → ℕ → List ℕ
held_start d k = take (4 * held_command_count d) (drop (start_place k) d)

-- "and waiting answer": a word that is 0 where none waits, and the answer's bytes
unfoldable pub held_waiting : List ℕ → ℕ → ℕ
held_waiting d k = nat_at d (waiting_place k)

unfoldable pub held_answer : List ℕ → ℕ → List ℕ
held_answer d k = take (answer_length (sizes_of (held_image d))) (drop (answer_place k) d)

-- "up to four heads, counted when the drive is made": the word, and of how many there are bytes
unfoldable pub held_count : List ℕ → ℕ
held_count d = nat_at d count_place

abbrev pub held_heads : List ℕ → ℕ
held_heads d = min (held_count d) most_heads

-- what head k "has left of its own share", and what is left of the "common part"
unfoldable pub held_own : List ℕ → ℕ → ℕ
held_own d k = nat_at d (own_place k)

unfoldable pub held_common : List ℕ → ℕ
held_common d = nat_at d common_place

-- what an ask costs: "the image's sweeps"
abbrev pub held_sweeps : List ℕ → ℕ
held_sweeps d = (sizes_of (held_image d)).sweeps
