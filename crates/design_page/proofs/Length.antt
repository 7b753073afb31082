-- The length of a page, at most 561 lines of 44 bytes. Assumes nothing.
use mathlib.Core.Path.{◌≡◌, refl}
use mathlib.Core.List.{List}
use Prim.Native.Nat.{ℕ, ◌*◌, ◌≤◌}
use native.Mathlib.Omega.{arith}
use lib.ListN.{length}
use Rattle.word.proofs.Joined.{length_joined}
use Rattle.image.specs.declared.Sizes.{Sizes}
use Rattle.line.specs.Line.{line_at}
use Rattle.std.specs.Prelude.{Result, Ok, Err}
use Rattle.refusal.specs.declared.Refusal.{Refusal}
use Rattle.frame.specs.Frame.{due_at, head_of, total}
use Rattle.frame.proofs.Sized.{head_sound}
use Rattle.frame.proofs.Laws.{total_high}
use Rattle.page_line.proofs.Written.{length_line}
use Rattle.design_page.specs.Page.{design_count, head_count, head_page, line_effect, page_line, sheet_page}

pub length_page_line : (z : Sizes) (s : List ℕ) (i : ℕ) → length (page_line z s i) ≡ 44
unfolding page_line
length_page_line z s i = length_line (due_at z i) (line_effect z s i)

-- the length that the buffer must have is the page's own
pub length_page : (s : List ℕ) → length (sheet_page s) ≡ 44 * design_count s
unfolding sheet_page design_count
length_page s = by (head_of (line_at s 0))
  where
    by : (h : Result Sizes Refusal) → length (head_page h s) ≡ 44 * head_count h
    by (Ok z) = length_joined (page_line z s) 44 (total z) (λ i l. length_page_line z s i)
    by (Err why) = refl

pub count_high : (s : List ℕ) → design_count s ≤ 561
unfolding design_count
count_high s = by (head_of (line_at s 0)) refl
  where
    by : (h : Result Sizes Refusal) → head_of (line_at s 0) ≡ h → head_count h ≤ 561
    by (Ok z) e = total_high z (head_sound (line_at s 0) z e)
    by (Err why) e = omega arith
