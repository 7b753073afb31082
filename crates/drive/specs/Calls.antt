-- Requests 9 to 11: the calls on the bytes of a drive, for every byte string: the number of each, and what it writes where that is 0. A
-- refused call leaves every byte as it was. Assumes nothing.
use Rattle.std.specs.Prelude.{ℕ, zero, suc, ◌+◌, ◌-◌, ◌/◌, ◌%◌, Bool, not, List, [], ◌∷◌, eqb, leb, length, replicate}
use Rattle.word.specs.Buffer.{put_at}
use Rattle.word.specs.Word.{bytes_of}
use Rattle.gradient.specs.Index.{all_to}
use Rattle.image.specs.Order.{check, first_fault, or_else, buffer_number}
use Rattle.image.specs.Checks.{head_number}
use Rattle.interface.specs.Tables.{image_number}
use Rattle.interface.specs.Calls.{solve_number, solve_answer}
use Rattle.device.specs.Device.{most_heads}
use Rattle.device.specs.Call.{count_number, index_number}
use Rattle.drive.specs.Layout.{length_place, image_place, waiting_place, start_place, answer_place, count_place, common_place, own_place, drive_length, held_image, held_start, held_waiting, held_answer, held_count, held_heads, held_own, held_common, held_sweeps}
use Rattle.drive.specs.Move.{next_start, first_length, first_commands}

-- ---- of a make and a new image
-- "an image tested as by a solve up to 12", then 15 for the drive's length
unfoldable pub imaged_number : List ℕ → ℕ → ℕ
imaged_number image room = or_else (image_number image) (buffer_number drive_length room)

-- an image and its length, and of each head "a start, first zeros", and no waiting answer: zeros up to the heads' number but for these
unfoldable pub imaged : List ℕ → List ℕ → List ℕ
imaged d image = put_at (put_at (put_at d length_place (replicate count_place 0)) length_place (bytes_of (length image))) image_place image

-- ---- make: 3 for "a head count outside 1 to 4" before all else
unfoldable pub make_number : List ℕ → ℕ → ℕ → ℕ
make_number image n room = or_else (count_number n) (imaged_number image room)

-- "before the first period all of these are 0": zeros behind the heads' number
unfoldable pub blank_drive : List ℕ
blank_drive = replicate drive_length 0

unfoldable pub make_drive : List ℕ → ℕ → List ℕ
make_drive image n = put_at (imaged blank_drive image) count_place (bytes_of n)

-- ---- new image: behind imaged_number "19 a new image, itself acceptable, while either head has a waiting answer", which "now goes for every
-- head made". It "replaces the tables for both and sets both starts to zero", and leaves the heads' number and the sweeps: imaged
abbrev pub idle_at : List ℕ → ℕ → Bool
idle_at d k = eqb (held_waiting d k) 0

unfoldable pub new_number : List ℕ → List ℕ → ℕ
new_number d image = or_else (imaged_number image (length d)) (first_fault (check 19 (all_to (idle_at d) (held_heads d)) ∷ []))

-- ---- of a head's calls
-- 3 "before all else" for a head that no drive has, 15 for the drive's length, then 3 for "a head number not below" the drive's own count
unfoldable pub place_number : List ℕ → ℕ → ℕ
place_number d k = or_else (index_number most_heads k) (or_else (buffer_number drive_length (length d)) (index_number (held_count d) k))

-- what is left of the common part and of the own share of head k, written
unfoldable pub put_shares : List ℕ → ℕ → ℕ → ℕ → List ℕ
put_shares d k own common = put_at (put_at d common_place (bytes_of common)) (own_place k) (bytes_of own)

-- ---- ask: behind these all that a solve tests, for it "solves from the held start", then "20 an ask whose own and common sweeps together
-- fall short"
unfoldable pub ask_number : List ℕ → ℕ → List ℕ → List ℕ → ℕ → ℕ
ask_number d k state target room =
    or_else (place_number d k)
    (or_else (solve_number (held_image d) state target (held_start d k) room) (first_fault (check 20 (leb (held_sweeps d) (held_own d k + held_common d)) ∷ [])))

-- "writes the solve's answer"
unfoldable pub ask_answer : List ℕ → ℕ → List ℕ → List ℕ → List ℕ
ask_answer d k state target = solve_answer (held_image d) state target (held_start d k)

-- it costs the image's sweeps, "from its own share first and then from the common part"
unfoldable pub charged : List ℕ → ℕ → List ℕ
charged d k = put_shares d k (held_own d k - held_sweeps d) (held_common d - (held_sweeps d - held_own d k))

-- the solve's answer "replaces the waiting one"
unfoldable pub put_answer : List ℕ → ℕ → List ℕ → List ℕ
put_answer d k answer = put_at (put_at d (answer_place k) answer) (waiting_place k) (bytes_of 1)

unfoldable pub ask_drive : List ℕ → ℕ → List ℕ → List ℕ → List ℕ
ask_drive d k state target = put_answer (charged d k) k (ask_answer d k state target)

-- ---- commit
-- behind the checks of the head the held image's length and sizes, by which its parts are found: no drive that the calls alone write fails
-- them
unfoldable pub parts_number : List ℕ → ℕ → ℕ
parts_number d k = or_else (place_number d k) (head_number (held_image d))

-- 15 for the commands' length, then "18 a commit without a waiting answer, as its only check after those on the buffers"
unfoldable pub commit_number : List ℕ → ℕ → ℕ → ℕ
commit_number d k room = or_else (parts_number d k) (first_fault (check 15 (eqb room (first_length (held_image d))) ∷ check 18 (not (idle_at d k)) ∷ []))

-- "issues the waiting answer's first nu commands"
unfoldable pub commit_answer : List ℕ → ℕ → List ℕ
commit_answer d k = first_commands (held_image d) (held_answer d k)

-- "the next start; the waiting answer is then used up"
unfoldable pub commit_drive : List ℕ → ℕ → List ℕ
commit_drive d k = put_at (put_at d (start_place k) (next_start (held_image d) (held_answer d k))) (waiting_place k) (bytes_of 0)

-- ---- period: 15 for the drive's length, then 3 for a number of heads that no made drive has
unfoldable pub period_number : List ℕ → ℕ
period_number d = or_else (buffer_number drive_length (length d)) (count_number (held_count d))

-- the own shares of the first n heads
abbrev pub put_owns : List ℕ → ℕ → ℕ → List ℕ
put_owns d own zero = d
put_owns d own (suc n) = put_at (put_owns d own n) (own_place n) (bytes_of own)

-- "each of the heads owns S divided by their number, rounded down; the remainder is common"
unfoldable pub period_drive : List ℕ → ℕ → List ℕ
period_drive d total = put_owns (put_at d common_place (bytes_of (total % held_count d))) (total / held_count d) (held_count d)

-- ---- done: no more than the checks of the head, place_number; it "moves its unused share to the common part". The sum is written as a word, by
-- its last 32 bits, which lose nothing of a drive that the calls alone write
unfoldable pub done_drive : List ℕ → ℕ → List ℕ
done_drive d k = put_shares d k 0 (held_common d + held_own d k)
