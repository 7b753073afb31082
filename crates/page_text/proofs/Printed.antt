-- What is printed at each way out of the code. Assumes nothing.
use mathlib.Core.Path.{◌≡◌}
use mathlib.Core.List.{List}
use Prim.Native.Nat.{ℕ, ◌*◌}
use borrow.Author.Tests.{ne_eqb}
use Rattle.text.specs.Text.{refusal}
use Rattle.design_page.specs.Page.{design_count, page_number, sheet_page}
use Rattle.page_text.specs.Text.{page_text}

module _ (drive : List ℕ) where
  pub refused : (n : ℕ) → n ≡ page_number drive (44 * design_count drive) → (n ≡ 0 → ⊥) → refusal n ≡ page_text drive
  unfolding page_text
  refused n e h = rw (← e, ne_eqb n 0 h)

  pub accepted : 0 ≡ page_number drive (44 * design_count drive) → sheet_page drive ≡ page_text drive
  unfolding page_text
  accepted e = rw (← e)
