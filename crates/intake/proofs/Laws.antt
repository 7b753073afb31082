-- The laws of the call: what an accepted sheet passed, how many bytes decide, and a buffer of the image's own length. Assumes nothing.
use mathlib.Core.Path.{◌≡◌, sym, ap, ◌∙◌, refl}
use mathlib.Core.Bool.{true, Bool, false}
use mathlib.Core.List.{List}
use Prim.Native.Nat.{ℕ, ◌*◌, ◌≤◌}
use lib.IntN.{ℤ}
use lib.ListN.{length, take}
use borrow.Author.Tests.{eqb-true, eqb-false}
use lib.Dec.{eqb}
use Rattle.image.specs.Order.{buffer_number}
use Rattle.image.proofs.Ordering.{none}
use Rattle.interface.specs.Tables.{image_number}
use Rattle.sheet.specs.Laws.{drive_room, reach}
use Rattle.sheet.specs.Reading.{Answered}
use Rattle.sheet.specs.Sheet.{sheet_image, sheet_number, sheet_words}
use Rattle.sheet.proofs.Answer.{image_length, passing}
use Rattle.sheet.proofs.Image.{image_body, image_head}
use Rattle.sheet.proofs.Reach.{enough_image, enough_lines, same_image, same_number}
use Rattle.intake.specs.Intake.{design_number, intake_image, intake_number}
use Rattle.intake.proofs.Call.{accepted_design, refused_call, refused_lines}

-- ---- an accepted sheet
pub accepted_call_design : (s : List ℕ) (room : ℕ) → intake_number s room ≡ 0 → design_number s ≡ 0
unfolding intake_number
accepted_call_design s room e = (none (design_number s) (buffer_number (length (sheet_image s)) room) e).0

pub accepted_sheet : (s : List ℕ) (room : ℕ) → intake_number s room ≡ 0 → sheet_number s ≡ 0
accepted_sheet s room e = (accepted_design s (accepted_call_design s room e)).0

-- an accepted sheet's image is accepted
pub accepted_image : (s : List ℕ) (room : ℕ) → intake_number s room ≡ 0 → image_number (intake_image s) ≡ 0
unfolding image_number
accepted_image s room e =
    let a = accepted_design s (accepted_call_design s room e) in
    let p = passing s a.0 in
    rw (image_head s p, image_body s p) a.1

-- ---- what the number goes by
pub design_cong : (s t : List ℕ) → sheet_number s ≡ sheet_number t → sheet_image s ≡ sheet_image t → design_number s ≡ design_number t
unfolding design_number
design_cong s t n i = rw (n, i)

pub intake_cong : (s t : List ℕ) → sheet_number s ≡ sheet_number t → sheet_image s ≡ sheet_image t → (room : ℕ) → intake_number s room ≡ intake_number t room
unfolding intake_number
intake_cong s t n i room = rw (design_cong s t n i, i)

-- ---- how far a sheet is read
pub same_intake : (s t : List ℕ) → take (reach s) s ≡ take (reach s) t → (room : ℕ) → intake_number s room ≡ intake_number t room
same_intake s t e = intake_cong s t (same_number s t e) (same_image s t e)

pub enough_number : (s : List ℕ) (m : ℕ) → drive_room ≤ m → (room : ℕ) → intake_number (take m s) room ≡ intake_number s room
enough_number s m h = intake_cong (take m s) s (enough_lines s m h) (enough_image s m h)

-- ---- a buffer of the image's length, read before: 15 cannot occur
module _ (s : List ℕ) (n c : ℕ) (ws : List ℤ) (a : Answered (sheet_number s) (sheet_words s) n c ws) where
  pub own_length : intake_number s (4 * c) ≡ intake_number s (length (intake_image s))
  own_length = by (eqb n 0) refl
    where
      same : (n ≡ 0 → ⊥) → (room : ℕ) → n ≡ intake_number s room
      same h room = refused_call s n c ws (refused_lines s n c ws a h) room h

      by : (b : Bool) → eqb n 0 ≡ b → intake_number s (4 * c) ≡ intake_number s (length (intake_image s))
      by true e = ap (intake_number s) (sym (image_length s n c ws a (eqb-true n 0 e)))
      by false e = let h = eqb-false n 0 e in sym (same h (4 * c)) ∙ same h (length (intake_image s))
