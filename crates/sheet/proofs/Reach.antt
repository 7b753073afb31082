-- How far a sheet is read: nothing past the bytes of the last line due and one more is looked at. Assumes nothing.
use mathlib.Core.Path.{◌≡◌, refl, sym, ap, ◌∙◌}
use mathlib.Core.List.{List, ◌++◌}
use Prim.Native.Nat.{ℕ, zero, suc, ◌+◌, ◌*◌, ◌≤◌, ◌<◌}
use native.Mathlib.Nat.{le_trans}
use native.Mathlib.Omega.{arith}
use lib.IntN.{ℤ}
use lib.ListN.{take}
use Rattle.word.specs.Word.{words_out}
use Rattle.gradient.proofs.Index.{tab_cong}
use Rattle.image.specs.Order.{or_else}
use Rattle.image.specs.declared.Sizes.{Sizes}
use Rattle.line.specs.Line.{line_at}
use Rattle.line.proofs.Laws.{line_take, end_take}
use Rattle.std.specs.Prelude.{Float, Result, Ok, Err}
use Rattle.refusal.specs.declared.Refusal.{Refusal}
use Rattle.frame.specs.Frame.{converted_word, due_at, head_of, total, value_double, value_number, value_of, word_of}
use Rattle.frame.proofs.Sized.{head_sound}
use Rattle.frame.proofs.Laws.{total_high}
use Rattle.lines.specs.Lines.{line_fault, line_value, line_word, size_words}
use Rattle.sheet.specs.Laws.{drive_room, reach, reach_of}
use Rattle.sheet.specs.Sheet.{end_number, first, head_number, head_words, lines_number, lines_words, sheet_image, sheet_number, sheet_words}

pub first_cong : (f g : ℕ → ℕ) (n e d : ℕ) → ((k : ℕ) → k < n → f k ≡ g k) → e ≡ d → first f n e ≡ first g n d
first_cong f g zero e d h q = q
first_cong f g (suc n) e d h q =
    first_cong f g n (or_else (f n) e) (or_else (g n) d) (λ k l. h k (omega arith)) (rw (h n (omega arith), q))

-- ---- the lines
module _ (z : Sizes) (s : List ℕ) (m : ℕ) (h : 23 * (total z + 1) < m) where
  pub value_take : (i : ℕ) → i < total z → line_value z (take m s) i ≡ line_value z s i
  unfolding line_value
  value_take i l = ap (value_of (due_at z i)) (line_take s m (23 * (i + 1)) (omega arith))

  number_take : lines_number z (take m s) ≡ lines_number z s
  unfolding line_fault
  number_take =
      first_cong (line_fault z (take m s)) (line_fault z s) (total z) (end_number z (take m s)) (end_number z s)
      (λ i l. ap (value_number z (due_at z i).kind) (value_take i l)) (rw (end_take s m (23 * (total z + 1)) h))

  words_take : lines_words z (take m s) ≡ lines_words z s
  unfolding line_word
  words_take =
      ap (λ (l : List ℤ). size_words z ++ l)
      (tab_cong (line_word z (take m s)) (line_word z s) (total z) (λ i l. ap (λ (v : Result Float Refusal). converted_word (word_of z (due_at z i).kind (value_double v))) (value_take i l)))

-- ---- the sheet
head_take : (s : List ℕ) (m : ℕ) → 23 ≤ m → head_of (line_at (take m s) 0) ≡ head_of (line_at s 0)
head_take s m h = ap head_of (line_take s m 0 h)

by_head : (s : List ℕ) (m : ℕ) (h : Result Sizes Refusal) → reach_of h ≤ m → (head_number h (take m s) ≡ head_number h s) × (head_words h (take m s) ≡ head_words h s)
by_head s m (Ok z) l = (number_take z s m (omega arith), words_take z s m (omega arith))
by_head s m (Err why) l = (refl, refl)

reach_least : (h : Result Sizes Refusal) → 23 ≤ reach_of h
reach_least (Ok z) = omega arith
reach_least (Err why) = omega arith

module _ (s : List ℕ) (m : ℕ) (h : reach s ≤ m) where
  pub same_head : head_of (line_at (take m s) 0) ≡ head_of (line_at s 0)
  unfolding reach
  same_head = head_take s m (le_trans (reach_least (head_of (line_at s 0))) h)

  pub take_number : sheet_number (take m s) ≡ sheet_number s
  unfolding sheet_number reach
  take_number = ap (λ (x : Result Sizes Refusal). head_number x (take m s)) same_head ∙ (by_head s m (head_of (line_at s 0)) h).0

  take_words : sheet_words (take m s) ≡ sheet_words s
  unfolding sheet_words reach
  take_words = rw (take_number, same_head, (by_head s m (head_of (line_at s 0)) h).1)

  pub take_image : sheet_image (take m s) ≡ sheet_image s
  unfolding sheet_image
  take_image = ap words_out take_words

-- two texts that agree on the bytes of the last line due and one more
module _ (s t : List ℕ) (e : take (reach s) s ≡ take (reach s) t) where
  same_reach : reach t ≡ reach s
  unfolding reach
  same_reach =
      let l = reach_least (head_of (line_at s 0)) in
      ap reach_of (sym (head_take t (reach s) l) ∙ ap (λ (x : List ℕ). head_of (line_at x 0)) (sym e) ∙ head_take s (reach s) l)

  pub same_number : sheet_number s ≡ sheet_number t
  same_number = sym (take_number s (reach s) (omega arith)) ∙ ap sheet_number e ∙ take_number t (reach s) (omega (arith, same_reach))

  pub same_image : sheet_image s ≡ sheet_image t
  same_image = sym (take_image s (reach s) (omega arith)) ∙ ap sheet_image e ∙ take_image t (reach s) (omega (arith, same_reach))

-- ---- the largest sheet
pub reach_most : (s : List ℕ) → reach s ≤ drive_room
unfolding reach
reach_most s = by (head_of (line_at s 0)) refl
  where
    by : (h : Result Sizes Refusal) → head_of (line_at s 0) ≡ h → reach_of h ≤ drive_room
    by (Ok z) e = omega (arith, total_high z (head_sound (line_at s 0) z e))
    by (Err why) e = omega arith

-- so that many bytes decide any sheet
module _ (s : List ℕ) (m : ℕ) (h : drive_room ≤ m) where
  pub enough_lines : sheet_number (take m s) ≡ sheet_number s
  enough_lines = take_number s m (le_trans (reach_most s) h)

  pub enough_image : sheet_image (take m s) ≡ sheet_image s
  enough_image = take_image s m (le_trans (reach_most s) h)
