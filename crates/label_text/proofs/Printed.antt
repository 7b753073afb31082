-- What is printed at each way out of the code. Assumes nothing.
use mathlib.Core.Path.{◌≡◌, sym}
use mathlib.Core.List.{List}
use Prim.Native.Nat.{ℕ, ◌*◌}
use native.Mathlib.Omega.{arith}
use lib.ListN.{length}
use borrow.Author.Tests.{eq-eqb, ne_eqb}
use Rattle.std.specs.Prelude.{Result}
use Rattle.std.specs.Result.{IsErrAnd}
use Rattle.std.proofs.lemmas.Result.{err_from_is_err_and}
use Rattle.refusal.specs.declared.Refusal.{Refusal}
use Rattle.refusal.specs.Number.{number}
use Rattle.refusal.proofs.Numbers.{above_zero}
use Rattle.image.specs.declared.Sizes.{Sizes}
use Rattle.image.specs.Sizes.{command_count}
use Rattle.image.specs.Layout.{sizes_of}
use Rattle.interface.specs.Tables.{image_number}
use Rattle.interface.specs.Calls.{cold_number, cold_answer, answer_length, solve_number, solve_answer}
use Rattle.intake.specs.Intake.{intake_image, intake_number}
use Rattle.word_file.specs.WordFile.{file_words}
use Rattle.text.specs.Text.{lines, refusal, written}
use Rattle.label_files.specs.Files.{form_number}
use Rattle.label_text.specs.Label.{files_number, image_text, label_text}

-- ---- a refusal
-- has a number
pub never : (why : Refusal) → number why ≡ 0 → ⊥
never why e = omega (arith, above_zero why)

-- that is handed on is what is printed
pub handed : (why : Refusal) (r : Result (List ℕ) Refusal) {text : List ℕ} → IsErrAnd r (λ (x : Refusal). x ≡ why) → refusal (number why) ≡ text → written r ≡ text
handed why r h e = let p = err_from_is_err_and r h in rw (p.1, p.2) e

-- an accepted image refuses no buffer of its cold start's length
pub cold_passes : (image : List ℕ) (room : ℕ) → image_number image ≡ 0 → room ≡ 4 * command_count (sizes_of image) → cold_number image room ≡ 0
unfolding cold_number
cold_passes image room e h = rw (e, eq-eqb room (4 * command_count (sizes_of image)) h)

-- ---- an image stands
module _ (image state target : List ℕ) where
  -- the number of the files
  pub unformed : (k : ℕ) → form_number (sizes_of image) image state target ≡ k → (k ≡ 0 → ⊥) → image_text image state target ≡ refusal k
  unfolding image_text files_number
  unformed k e h = rw (e, ne_eqb k 0 h, ne_eqb k 0 h)

  pub files_refused : (why : Refusal) → number why ≡ form_number (sizes_of image) image state target → refusal (number why) ≡ image_text image state target
  files_refused why e = sym (unformed (number why) (sym e) (never why))

  -- the number of the solve
  abbrev pub own_number : Sizes → ℕ
  own_number z = solve_number image (file_words z.nx state) (file_words z.nr target) (cold_answer image) (answer_length z)

  abbrev pub own_lines : Sizes → List ℕ
  own_lines z = lines (command_count z) (solve_answer image (file_words z.nx state) (file_words z.nr target) (cold_answer image)) (command_count z)

  module _ (form : 0 ≡ form_number (sizes_of image) image state target) where
    pub solve_refused : (n : ℕ) → n ≡ own_number (sizes_of image) → (n ≡ 0 → ⊥) → refusal n ≡ image_text image state target
    unfolding image_text files_number
    solve_refused n e h = rw (← form, ← e, ne_eqb n 0 h)

    pub answered : 0 ≡ own_number (sizes_of image) → own_lines (sizes_of image) ≡ image_text image state target
    unfolding image_text files_number
    answered e = rw (← form, ← e)

-- ---- the sheet's number
module _ (drive state target : List ℕ) where
  pub sheet_refused : (n : ℕ) → n ≡ intake_number drive (length (intake_image drive)) → (n ≡ 0 → ⊥) → refusal n ≡ label_text drive state target
  unfolding label_text
  sheet_refused n e h = rw (← e, ne_eqb n 0 h)

  pub sheet_accepted : 0 ≡ intake_number drive (length (intake_image drive)) → image_text (intake_image drive) state target ≡ label_text drive state target
  unfolding label_text
  sheet_accepted e = rw (← e)
