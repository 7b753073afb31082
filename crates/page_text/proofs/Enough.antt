-- How many bytes of drive.hex decide the page: those that are read. Assumes nothing.
use mathlib.Core.Path.{◌≡◌}
use mathlib.Core.List.{List}
use Prim.Native.Nat.{ℕ, ◌*◌}
use native.Mathlib.Nat.{le_refl}
use lib.ListN.{take}
use Rattle.sheet.specs.Laws.{drive_room}
use Rattle.design_page.specs.Page.{design_count}
use Rattle.design_page.proofs.Reach.{enough_count, enough_number, enough_page}
use Rattle.page_text.specs.Text.{page_text}

pub enough : (drive : List ℕ) → page_text (take drive_room drive) ≡ page_text drive
unfolding page_text
enough drive =
    rw (enough_count drive drive_room (le_refl drive_room), enough_number drive drive_room (le_refl drive_room) (44 * design_count drive), enough_page drive drive_room (le_refl drive_room))
