-- What document 02 says of what was before: what stayed the same with requests 1, 3 and 7, and what another byte or word in the place of nr
-- was. What became of the sheets with N above 1 is in MoreSteps. Assumes nothing.
use mathlib.Core.Path.{◌≡◌, refl}
use mathlib.Core.Bool.{Bool, true, false, cond, and-false, true≢false}
use mathlib.Core.List.{List, []}
use Prim.Native.Nat.{ℕ, ◌/◌, ◌%◌}
use lib.Dec.{eqb, leb}
use lib.Ieee.{Float}
use lib.ListN.{length}
use borrow.Author.Tests.{ne_eqb}
use Rattle.std.specs.Prelude.{Result, Ok, Err}
use Rattle.refusal.specs.declared.Refusal.{Refusal}
use Rattle.refusal.specs.declared.Refusal.TheVariants.{Misplaced}
use Rattle.word.specs.Word.{nat_at}
use Rattle.image.specs.declared.Sizes.{Sizes}
use Rattle.image.specs.Order.{or_else}
use Rattle.image.specs.Sizes.{sound}
use Rattle.image.specs.Layout.{sizes_of}
use Rattle.line.specs.Line.{line_at}
use Rattle.line.specs.declared.Frame.{Frame}
use Rattle.frame.specs.Frame.{word_of}
use Rattle.former.specs.Version.{today, before_targets, before_horizon}
use Rattle.former.specs.Former as former
use Rattle.former.specs.Laws.{SameSheet, SameCalls, fourth_byte, WasTwo, WasThree, NoTarget, steps_byte, OthersKept}
use Rattle.former.proofs.Calls.{same_calls}
use Rattle.former.proofs.Sheets.{same_sheet}

-- ---- the definitions over a version, with all four requests, are those of today
pub restated : (sheet state target : List ℕ) (room : ℕ) → SameSheet today sheet state target room
restated sheet = same_sheet today sheet (record { no_targets = λ e. absurd (true≢false e); one_step = λ e. absurd (true≢false e); nearest = refl }) refl

pub restated_calls : (image state target start : List ℕ) (room : ℕ) → SameCalls today image state target start room
restated_calls image state target start room =
    same_calls today image state target start room (record { no_targets = λ e. absurd (true≢false e); one_step = λ e. absurd (true≢false e); nearest = refl }) refl (λ e. absurd (true≢false e))

pub restated_word : (z : Sizes) (kind : ℕ) (x : Float) → word_of z kind x ≡ former.word_of today z kind x
unfolding word_of former.word_of
restated_word z kind x = refl

-- ---- request 1: the sheets with 0 as fourth value byte, the refused ones among them, and the images with 0 as word 6
pub zero_byte : (sheet state target : List ℕ) (room : ℕ) → fourth_byte (line_at sheet 0) ≡ 0 → SameSheet before_targets sheet state target room
zero_byte sheet state target room e = same_sheet before_targets sheet (record { no_targets = λ _. e; one_step = λ q. absurd (true≢false q); nearest = refl }) refl state target room

pub zero_word : (image state start : List ℕ) (room : ℕ) → nat_at image 24 ≡ 0 → SameCalls before_targets image state [] start room
unfolding sizes_of
zero_word image state start room e =
    same_calls before_targets image state [] start room (record { no_targets = λ _. e; one_step = λ q. absurd (true≢false q); nearest = refl }) refl (λ _. refl)

-- what is given for a target has no say
pub no_target : (s state target other start : List ℕ) (room : ℕ) → NoTarget s state target other start room
unfolding former.solve_number former.solvable_number former.call_number former.solve_answer former.commands_after former.distance_after former.inputs_of former.label_text former.image_text former.files_number former.form_number
no_target s state target other start room = record { number = refl; answer = refl; label = refl }

-- with another byte a sheet was 2, with another word an image was 3, or 6 where it is too short
pub another_byte : (sheet state target : List ℕ) (room : ℕ) → (fourth_byte (line_at sheet 0) ≡ 0 → ⊥) → WasTwo sheet state target room
unfolding former.intake_number former.design_number former.page_number former.page_text former.label_text
another_byte sheet state target room h = let e = two in record { number = rw e; page_number_lem = rw e; printed_page = rw e; label = rw e }
  where
    two : former.sheet_number before_targets sheet ≡ 2
    two = unfold former.sheet_number in rw (other (line_at sheet 0) h)
      where
        other : (l : Result Frame Refusal) → (fourth_byte l ≡ 0 → ⊥) → former.head_of before_targets l ≡ Err Misplaced
        other (Err why) k = absurd (k refl)
        other (Ok f) k = unfold former.head_of in rw (ne_eqb (f.bits / 0x1_0000_0000 % 256) 0 k, and-false (eqb f.kind 1))

pub another_word : (image state target start : List ℕ) (room : ℕ) → (nat_at image 24 ≡ 0 → ⊥) → WasThree image state target start room
unfolding former.cold_number former.solve_number former.solvable_number former.image_number former.head_number
another_word image state target start room h = record { cold_number_lem = rw (head, first, first); number = rw (head, first, first, first) }
  where
    head : former.head_number before_targets image ≡ cond (leb 32 (length image)) 3 6
    head = rw (ne_eqb (nat_at image 24) 0 h) (by (sound (sizes_of image)))
      where
        by : (b : Bool) → ◌≡◌ {A = ℕ} (cond (leb 32 (length image)) (cond b 3 3) 6) (cond (leb 32 (length image)) 3 6)
        by true = refl
        by false = refl

    first : (r : ℕ) → or_else (cond (leb 32 (length image)) 3 6) r ≡ cond (leb 32 (length image)) 3 6
    first r = by (leb 32 (length image))
      where
        by : (a : Bool) → or_else (cond a 3 6) r ≡ cond a 3 6
        by true = refl
        by false = refl

-- ---- request 3: the sheets and the images with N 1
pub one_step : (sheet state target : List ℕ) (room : ℕ) → steps_byte sheet ≡ 1 → SameSheet before_horizon sheet state target room
one_step sheet state target room e = same_sheet before_horizon sheet (record { no_targets = λ q. absurd (true≢false q); one_step = λ _. e; nearest = refl }) refl state target room

pub one_step_calls : (image state target start : List ℕ) (room : ℕ) → (sizes_of image).steps ≡ 1 → SameCalls before_horizon image state target start room
one_step_calls image state target start room e =
    same_calls before_horizon image state target start room (record { no_targets = λ q. absurd (true≢false q); one_step = λ _. e; nearest = refl }) refl (λ q. absurd (true≢false q))

-- ---- request 7
pub others_kept : (z : Sizes) (kind : ℕ) (x : Float) → OthersKept z kind x
unfolding word_of former.word_of
others_kept z kind x t = rw t
