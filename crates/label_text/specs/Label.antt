-- Document 01, "The label program", and document 02, request 1: what it prints for the bytes of drive.hex, state.hex and target.hex. Definitions only.
use Rattle.std.specs.Prelude.{ℕ, List, length, Result, Ok, Err}
use Rattle.refusal.specs.declared.Refusal.{Refusal}
use Rattle.image.specs.declared.Sizes.{Sizes}
use Rattle.image.specs.Order.{or_else}
use Rattle.image.specs.Sizes.{command_count}
use Rattle.image.specs.Layout.{sizes_of}
use Rattle.interface.specs.Calls.{cold_answer, answer_length, solve_number, solve_answer}
use Rattle.line.specs.Line.{line_at}
use Rattle.frame.specs.Frame.{head_of}
use Rattle.intake.specs.Intake.{intake_image, intake_number}
use Rattle.word_file.specs.WordFile.{file_words}
use Rattle.text.specs.Text.{lines, printed}
use Rattle.label_files.specs.Files.{form_number}

-- ---- how many target values

-- the nr of line 01; 0 where it gives no sizes
abbrev pub head_targets : Result Sizes Refusal → ℕ
head_targets (Ok z) = z.nr
head_targets (Err why) = 0

unfoldable pub target_count : List ℕ → ℕ
target_count drive = head_targets (head_of (line_at drive 0))

-- ---- what is printed

-- the number once an image stands: that of the files, then that of a solve, which "takes the cold start"
unfoldable pub files_number : List ℕ → List ℕ → List ℕ → ℕ
files_number image state target =
    let z = sizes_of image in
    or_else (form_number z image state target) (solve_number image (file_words z.nx state) (file_words z.nr target) (cold_answer image) (answer_length z))

-- the lines of that solve's answer, or the refusal
unfoldable pub image_text : List ℕ → List ℕ → List ℕ → List ℕ
image_text image state target =
    let z = sizes_of image in
    printed (files_number image state target) (lines (command_count z) (solve_answer image (file_words z.nx state) (file_words z.nr target) (cold_answer image)) (command_count z))

-- "It reads drive.hex (a sheet) and state.hex", and target.hex: the intake's number, for a buffer of the image's own length, comes first
unfoldable pub label_text : List ℕ → List ℕ → List ℕ → List ℕ
label_text drive state target = printed (intake_number drive (length (intake_image drive))) (image_text (intake_image drive) state target)
