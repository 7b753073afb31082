-- With nr 0 in line 01 target.hex decides nothing, so it need not be read. Assumes nothing.
use mathlib.Core.Path.{◌≡◌, refl, sym, ap, ◌∙◌}
use mathlib.Core.Bool.{Bool, true, false, cond}
use mathlib.Core.List.{List, []}
use Prim.Native.Nat.{ℕ}
use lib.Dec.{eqb}
use lib.ListN.{length}
use borrow.Author.Tests.{eqb-true}
use Rattle.image.specs.Layout.{sizes_of}
use Rattle.image.specs.declared.Sizes.{Sizes}
use Rattle.sheet.specs.Sheet.{sheet_number}
use Rattle.sheet.proofs.Answer.{passing}
use Rattle.sheet.proofs.Image.{image_sizes}
use Rattle.intake.specs.Intake.{intake_image, intake_number}
use Rattle.intake.proofs.Laws.{accepted_sheet}
use Rattle.word.specs.Buffer.{joined}
use Rattle.word_file.specs.WordFile.{file_words}
use Rattle.text.specs.Text.{refusal}
use Rattle.label_files.specs.Files.{form_number, target_form}
use Rattle.label_text.specs.Label.{files_number, head_targets, image_text, label_text, target_count}

-- nr of an image is that of line 01
image_count : (drive : List ℕ) → sheet_number drive ≡ 0 → (sizes_of (intake_image drive)).nr ≡ target_count drive
unfolding target_count
image_count drive e =
    let p = passing drive e in
    ap (λ (z : Sizes). z.nr) (image_sizes drive p) ∙ sym (ap head_targets p.head)

pub untargeted : (image state target other : List ℕ) → (sizes_of image).nr ≡ 0 → image_text image state target ≡ image_text image state other
unfolding image_text files_number form_number target_form joined file_words
untargeted image state target other e = rw e

pub unread : (drive state target : List ℕ) → target_count drive ≡ 0 → label_text drive state target ≡ label_text drive state []
unfolding label_text
unread drive state target h = by (eqb (intake_number drive (length (intake_image drive))) 0) refl
  where
    by : (b : Bool) → eqb (intake_number drive (length (intake_image drive))) 0 ≡ b
        → cond b (image_text (intake_image drive) state target) (refusal (intake_number drive (length (intake_image drive))))
        ≡ cond b (image_text (intake_image drive) state []) (refusal (intake_number drive (length (intake_image drive))))
    by true e =
        let zero = eqb-true (intake_number drive (length (intake_image drive))) 0 e in
        untargeted (intake_image drive) state target [] (image_count drive (accepted_sheet drive (length (intake_image drive)) zero) ∙ h)
    by false e = refl
