-- What document 02 says of what was before, as statements: the definitions of today against those of today but for that request. Definitions
-- only.
use Rattle.std.specs.Prelude.{ℕ, ◌+◌, ◌*◌, ◌/◌, ◌%◌, ◌<◌, ◌≡◌, false, cond, List, ◌++◌, leb, Float, length, take, drop, Result, Ok, Err}
use Rattle.refusal.specs.declared.Refusal.{Refusal}
use Rattle.word.specs.Word.{pattern_at, pattern_bytes}
use Rattle.hexadecimal.specs.Hex.{hex_at}
use Rattle.image.specs.declared.Sizes.{Sizes}
use Rattle.image.specs.Order.{or_else}
use Rattle.image.specs.Sizes.{command_count}
use Rattle.image.specs.Layout.{sizes_of}
use Rattle.interface.specs.Calls.{cold_number, cold_answer, solve_number, distance_after, solve_answer}
use Rattle.line.specs.declared.Frame.{Frame}
use Rattle.frame.specs.Frame.{due, due_at, is_table_entry, word_of}
use Rattle.intake.specs.Intake.{intake_number, intake_image}
use Rattle.design_page.specs.Page.{page_number, sheet_page}
use Rattle.word_file.specs.WordFile.{file_words}
use Rattle.text.specs.Text.{distance_digits, refusal}
use Rattle.label_text.specs.Label.{files_number, label_text}
use Rattle.page_text.specs.Text.{page_text}
use Rattle.former.specs.Version.{Version, before_targets, before_horizon, before_nearest, before_distance}
use Rattle.former.specs.Former as former

-- ---- the same as by a version
-- a sheet's number and image, its page's number and text, for a buffer of `room` bytes; what the two programs print
pub record SameSheet (v : Version) (sheet state target : List ℕ) (room : ℕ) : Type 0 where
  pub number : intake_number sheet room ≡ former.intake_number v sheet room
  pub image : intake_image sheet ≡ former.intake_image v sheet
  pub page_number_lem : page_number sheet room ≡ former.page_number v sheet room
  pub page : sheet_page sheet ≡ former.sheet_page v sheet
  pub printed_page : page_text sheet ≡ former.page_text v sheet
  pub label : label_text sheet state target ≡ former.label_text v sheet state target

-- the number and the answer of a cold start and of a solve
pub record SameCalls (v : Version) (image state target start : List ℕ) (room : ℕ) : Type 0 where
  pub cold_number_lem : cold_number image room ≡ former.cold_number v image room
  pub cold_answer_lem : cold_answer image ≡ former.cold_answer v image
  pub number : solve_number image state target start room ≡ former.solve_number v image state target start room
  pub answer : solve_answer image state target start ≡ former.solve_answer v image state target start

-- ---- request 1: "With nr 0 every old sheet gives its old answer"
-- "the fourth value byte of line 01"; 0 where that is no frame
abbrev pub fourth_byte : Result Frame Refusal → ℕ
fourth_byte (Ok f) = f.bits / 0x1_0000_0000 % 256
fourth_byte (Err why) = 0

-- what a sheet with another byte there was: 2, of "the three 0 bytes"
pub record WasTwo (sheet state target : List ℕ) (room : ℕ) : Type 0 where
  pub number : former.intake_number before_targets sheet room ≡ 2
  pub page_number_lem : former.page_number before_targets sheet room ≡ 2
  pub printed_page : former.page_text before_targets sheet ≡ refusal 2
  pub label : former.label_text before_targets sheet state target ≡ refusal 2

-- what an image with another word 6 was: 3, "word 6 or 7 not 0", and 6 with "fewer than 32 bytes (before 3)"
pub record WasThree (image state target start : List ℕ) (room : ℕ) : Type 0 where
  pub cold_number_lem : former.cold_number before_targets image room ≡ cond (leb 32 (length image)) 3 6
  pub number : former.solve_number before_targets image state target start room ≡ cond (leb 32 (length image)) 3 6

-- there was no target: what is given for one, to a solve or as target.hex, has no say (s is an image, for the label a sheet)
pub record NoTarget (s state target other start : List ℕ) (room : ℕ) : Type 0 where
  pub number : former.solve_number before_targets s state target start room ≡ former.solve_number before_targets s state other start room
  pub answer : former.solve_answer before_targets s state target start ≡ former.solve_answer before_targets s state other start
  pub label : former.label_text before_targets s state target ≡ former.label_text before_targets s state other

-- ---- request 3: "A sheet until now accepted in the former layout is 2 when N is above 1, and reads as before when N is 1"
-- N as line 01 has it: "row is nu, column N"
abbrev pub steps_byte : List ℕ → ℕ
steps_byte sheet = hex_at 2 sheet 4

-- every call on the sheet is 2, and so is what the two programs print
pub record NowTwo (sheet state target : List ℕ) (room : ℕ) : Type 0 where
  pub number : intake_number sheet room ≡ 2
  pub page_number_lem : page_number sheet room ≡ 2
  pub printed_page : page_text sheet ≡ refusal 2
  pub label : label_text sheet state target ≡ refusal 2

-- every call on the image is 6: its length is not the one that its sizes give
pub record NowSix (image state target start : List ℕ) (room : ℕ) : Type 0 where
  pub cold_number_lem : cold_number image room ≡ 6
  pub number : solve_number image state target start room ≡ 6

-- the first line that differs: the former first 05 stands where the low of motor 0 at step 1 is due
pub record FirstDifference (z : Sizes) (i : ℕ) : Type 0 where
  pub before : (k : ℕ) → k < i → due_at z k ≡ former.due_at before_horizon z k
  pub was_due : former.due_at before_horizon z i ≡ due 5 0 0
  pub is_due_lem : due_at z i ≡ due 4 0 1

-- ---- request 7: "Limits, β, state and target limits round as before"
-- by every kind but those of the tables a number has the word that it had, or none as before
abbrev pub OthersKept : Sizes → ℕ → Float → Type 0
OthersKept z kind x = is_table_entry kind ≡ false → word_of z kind x ≡ former.word_of before_nearest z kind x

-- ---- request 8: "The answer buffer grows by one unsigned 64-bit word", "eight more digits after a space on each line"
-- a cold start is what it was; a solve has the number that it had, in a buffer of eight bytes more, and D follows the answer that it was
pub record Grown (image state target start : List ℕ) (room : ℕ) : Type 0 where
  pub cold_number_lem : cold_number image room ≡ former.cold_number before_distance image room
  pub cold_answer_lem : cold_answer image ≡ former.cold_answer before_distance image
  pub number : solve_number image state target start (room + 8) ≡ former.solve_number before_distance image state target start room
  pub answer : solve_answer image state target start ≡ former.solve_answer before_distance image state target start ++ pattern_bytes (distance_after image state target start (sizes_of image).sweeps)

-- the number of a label, and the solve's answer that it prints
abbrev pub label_number : List ℕ → List ℕ → List ℕ → ℕ
label_number sheet state target = or_else (intake_number sheet (length (intake_image sheet))) (files_number (intake_image sheet) state target)

abbrev pub label_answer : List ℕ → List ℕ → List ℕ → List ℕ
label_answer sheet state target =
    let image = intake_image sheet in
    solve_answer image (file_words (sizes_of image).nx state) (file_words (sizes_of image).nr target) (cold_answer image)

-- how long each of its lines is: 17 characters, a space, D, byte 10
abbrev pub label_line : List ℕ → List ℕ → List ℕ → ℕ
label_line sheet state target = 19 + distance_digits (pattern_at (label_answer sheet state target) (8 * command_count (sizes_of (intake_image sheet))))

-- all but the label of a sheet is as it was; a refusal too; and each line of a label begins with the 17 characters that the line had
pub record Lengthened (sheet state target : List ℕ) (room : ℕ) : Type 0 where
  pub number : intake_number sheet room ≡ former.intake_number before_distance sheet room
  pub image : intake_image sheet ≡ former.intake_image before_distance sheet
  pub page_number_lem : page_number sheet room ≡ former.page_number before_distance sheet room
  pub page : sheet_page sheet ≡ former.sheet_page before_distance sheet
  pub printed_page : page_text sheet ≡ former.page_text before_distance sheet
  pub refused : (label_number sheet state target ≡ 0 → ⊥) → label_text sheet state target ≡ former.label_text before_distance sheet state target
  pub begins : label_number sheet state target ≡ 0 → (i : ℕ) → i < command_count (sizes_of (intake_image sheet))
      → take 17 (drop (label_line sheet state target * i) (label_text sheet state target)) ≡ take 17 (drop (18 * i) (former.label_text before_distance sheet state target))
