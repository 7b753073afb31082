-- How many bytes of the three files decide the label: those that are read. Assumes nothing.
use mathlib.Core.Path.{◌≡◌, refl, sym, ap, ◌∙◌}
use mathlib.Core.Bool.{Bool, true, false, cond}
use mathlib.Core.List.{List}
use Prim.Native.Nat.{ℕ, ◌≤◌}
use native.Mathlib.Nat.{le_refl}
use native.Mathlib.Omega.{arith}
use lib.Dec.{eqb, leb}
use lib.ListN.{length, take}
use lib.Seq.{take_all}
use borrow.Author.Tests.{eqb-true, eqb-false, leb-true, leb-false}
use Rattle.image.specs.Layout.{sizes_of}
use Rattle.interface.proofs.Accept.{accepted}
use Rattle.sheet.specs.Laws.{drive_room}
use Rattle.sheet.proofs.Reach.{enough_image}
use Rattle.intake.specs.Intake.{intake_image, intake_number}
use Rattle.intake.proofs.Laws.{accepted_image, enough_number}
use Rattle.word_file.specs.WordFile.{is_word_file, state_room, target_room}
use Rattle.word_file.proofs.WordFile.{long_state, long_target}
use Rattle.text.specs.Text.{refusal}
use Rattle.label_files.specs.Files.{target_form}
use Rattle.label_files.proofs.Form.{by_tests, in_order, malformed, some_due, state_form, state_limits, unformed_no}
use Rattle.label_text.specs.Label.{image_text, label_text}
use Rattle.label_text.proofs.Printed.{unformed}
use Rattle.label_text.proofs.Target.{untargeted}

-- ---- state.hex
enough_state : (image state target : List ℕ) → (sizes_of image).nx ≤ 12 → image_text image (take state_room state) target ≡ image_text image state target
enough_state image state target l = by (leb (length state) state_room) refl
  where
    thirteen : (state : List ℕ) → is_word_file (sizes_of image).nx state ≡ false → image_text image state target ≡ refusal 13
    thirteen state e = unformed image state target 13 (malformed (sizes_of image) image state target e) (λ (q : 13 ≡ 0). omega arith)

    by : (b : Bool) → leb (length state) state_room ≡ b → image_text image (take state_room state) target ≡ image_text image state target
    by true e = ap (λ (file : List ℕ). image_text image file target) (take_all state_room state (leb-true (length state) state_room e))
    by false e =
        let p = long_state (sizes_of image).nx state l (leb-false (length state) state_room e) in
        thirteen (take state_room state) p.0 ∙ sym (thirteen state p.1)

-- ---- target.hex
enough_target : (image state target : List ℕ) → (sizes_of image).nr ≤ 4 → image_text image state (take target_room target) ≡ image_text image state target
enough_target image state target l = by (leb (length target) target_room) refl (eqb (sizes_of image).nr 0) refl
  where
    form : Bool
    form = state_form (sizes_of image) image state target

    limits : Bool
    limits = state_limits (sizes_of image) image state target

    same : (file : List ℕ) → target_form (sizes_of image).nr file ≡ false → image_text image state file ≡ refusal (in_order form limits false)
    same file e = unformed image state file (in_order form limits false) (by_tests (sizes_of image) image state file ∙ rw e) (unformed_no form limits)

    by : (b : Bool) → leb (length target) target_room ≡ b → (n : Bool) → eqb (sizes_of image).nr 0 ≡ n → image_text image state (take target_room target) ≡ image_text image state target
    by true e n q = ap (image_text image state) (take_all target_room target (leb-true (length target) target_room e))
    by false e true q = untargeted image state (take target_room target) target (eqb-true (sizes_of image).nr 0 q)
    by false e false q =
        let p = long_target (sizes_of image).nr target l (leb-false (length target) target_room e) in
        let n = eqb-false (sizes_of image).nr 0 q in
        same (take target_room target) (some_due (sizes_of image).nr (take target_room target) n ∙ p.0) ∙ sym (same target (some_due (sizes_of image).nr target n ∙ p.1))

-- ---- drive.hex, and the three
pub enough : (drive state target : List ℕ) → label_text (take drive_room drive) (take state_room state) (take target_room target) ≡ label_text drive state target
unfolding label_text
enough drive state target =
    let image = intake_image drive in
    let number = intake_number drive (length image) in
    rw (enough_image drive drive_room (le_refl drive_room), enough_number drive drive_room (le_refl drive_room) (length image)) (by (eqb number 0) refl)
  where
    by : (b : Bool) → eqb (intake_number drive (length (intake_image drive))) 0 ≡ b
        → cond b (image_text (intake_image drive) (take state_room state) (take target_room target)) (refusal (intake_number drive (length (intake_image drive))))
        ≡ cond b (image_text (intake_image drive) state target) (refusal (intake_number drive (length (intake_image drive))))
    by true e =
        let image = intake_image drive in
        let sizes = (accepted image (accepted_image drive (length image) (eqb-true (intake_number drive (length image)) 0 e))).whole.sizes in
        enough_state image state (take target_room target) sizes.nx_high ∙ enough_target image state target sizes.nr_high
    by false e = refl
