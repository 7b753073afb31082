-- How far a sheet is read for its page: no further than for its image. Assumes nothing.
use mathlib.Core.Path.{◌≡◌, refl, ap, ◌∙◌}
use mathlib.Core.List.{List}
use Prim.Native.Nat.{ℕ, ◌+◌, ◌*◌, ◌≤◌, ◌<◌}
use native.Mathlib.Nat.{le_trans}
use native.Mathlib.Omega.{arith}
use lib.ListN.{take}
use Rattle.word.proofs.Joined.{joined_cong}
use Rattle.image.specs.declared.Sizes.{Sizes}
use Rattle.line.specs.Line.{line_at}
use Rattle.std.specs.Prelude.{Result, Ok, Err}
use Rattle.refusal.specs.declared.Refusal.{Refusal}
use Rattle.frame.specs.Frame.{head_of, total}
use Rattle.lines.specs.Lines.{line_word}
use Rattle.sheet.specs.Laws.{drive_room, reach, reach_of}
use Rattle.sheet.proofs.Reach.{enough_image, enough_lines, reach_most, same_head, value_take}
use Rattle.intake.proofs.Laws.{design_cong}
use Rattle.design_page.specs.Page.{design_count, head_count, head_page, page_line, page_number, sheet_page}

page_line_take : (z : Sizes) (s : List ℕ) (m : ℕ) → 23 * (total z + 1) < m → (i : ℕ) → i < total z → page_line z (take m s) i ≡ page_line z s i
unfolding page_line line_word
page_line_take z s m h i l = rw (value_take z s m h i l)

by_head : (s : List ℕ) (m : ℕ) (x : Result Sizes Refusal) → reach_of x ≤ m → head_page x (take m s) ≡ head_page x s
by_head s m (Ok z) h = joined_cong (page_line z (take m s)) (page_line z s) (total z) (page_line_take z s m (omega arith))
by_head s m (Err why) h = refl

-- ---- so many bytes decide any page
module _ (s : List ℕ) (m : ℕ) (h : drive_room ≤ m) where
  near : reach s ≤ m
  near = le_trans (reach_most s) h

  pub enough_count : design_count (take m s) ≡ design_count s
  unfolding design_count
  enough_count = ap head_count (same_head s m near)

  pub enough_page : sheet_page (take m s) ≡ sheet_page s
  unfolding sheet_page reach
  enough_page = ap (λ (x : Result Sizes Refusal). head_page x (take m s)) (same_head s m near) ∙ by_head s m (head_of (line_at s 0)) near

  pub enough_number : (room : ℕ) → page_number (take m s) room ≡ page_number s room
  unfolding page_number
  enough_number room = rw (design_cong (take m s) s (enough_lines s m h) (enough_image s m h), enough_count)
