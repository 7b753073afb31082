-- The call: what a design that was read gives at each way out. Assumes nothing.
use mathlib.Core.Path.{◌≡◌, sym, ap, ◌∙◌, subst}
use mathlib.Core.List.{List}
use Prim.Native.Nat.{ℕ, ◌+◌, ◌-◌, ◌*◌, ◌<◌}
use native.Mathlib.Omega.{arith}
use lib.IntN.{ℤ}
use lib.ListN.{length, take}
use Rattle.image.specs.declared.Sizes.{Sizes}
use Rattle.image.specs.Order.{buffer_number}
use Rattle.image.proofs.Ordering.{buffer_fits, buffer_refused}
use Rattle.line.specs.Line.{line_at}
use Rattle.std.specs.Prelude.{Result, Ok, Err}
use Rattle.refusal.specs.declared.Refusal.{Refusal}
use Rattle.frame.specs.Frame.{head_of, total}
use Rattle.lines.specs.Lines.{line_fault}
use Rattle.sheet.specs.Reading.{Answered}
use Rattle.sheet.specs.Sheet.{lines_words, sheet_number, sheet_words}
use Rattle.sheet.proofs.Answer.{Passing, passing}
use Rattle.sheet.proofs.Entries.{passes}
use Rattle.sheet.proofs.Whole.{long}
use Rattle.intake.specs.Intake.{design_number}
use Rattle.intake.proofs.Call.{read_lines, refused_design, then_buffer}
use Rattle.design_page.specs.Page.{design_count, head_count, head_page, lines_page, page_number, sheet_page}

-- ---- what line 01 gives
module _ (s : List ℕ) (z : Sizes) (h : head_of (line_at s 0) ≡ Ok z) where
  pub count_sized : design_count s ≡ total z
  unfolding design_count
  count_sized = ap head_count h

  pub page_sized : sheet_page s ≡ lines_page z s
  unfolding sheet_page
  page_sized = ap (λ (x : Result Sizes Refusal). head_page x s) h

  pub sizes_one : (y : Sizes) → head_of (line_at s 0) ≡ Ok y → y ≡ z
  sizes_one y q = cc

-- ---- a design that was read
module _ (s : List ℕ) (n c : ℕ) (ws : List ℤ) (a : Answered (design_number s) (sheet_words s) n c ws) where
  pub refused_page : (room : ℕ) → (n ≡ 0 → ⊥) → n ≡ page_number s room
  unfolding page_number
  refused_page room h = refused_design s n c ws a (buffer_number (44 * design_count s) room) h

  module _ (e : n ≡ 0) where
    pub lines_read : Answered (sheet_number s) (sheet_words s) n c ws
    lines_read = read_lines s n c ws a e

    sheet_passes : sheet_number s ≡ 0
    sheet_passes = sym lines_read.number_is ∙ e

    abbrev p : Passing s
    p = passing s sheet_passes

    pub count_is : c ≡ 8 + design_count s
    count_is = omega (arith, a.count_is e ∙ ap length p.words, long p.sizes s, count_sized s p.sizes p.head)

    pub refused_room : (room : ℕ) → (room ≡ 44 * (c - 8) → ⊥) → 15 ≡ page_number s room
    unfolding page_number
    refused_room room h = then_buffer s n c ws a e (buffer_number (44 * design_count s) room) 15 (buffer_refused (44 * design_count s) room (λ (q : room ≡ 44 * design_count s). h (omega (arith, count_is))))

    pub accepted_page : (room : ℕ) → room ≡ 44 * (c - 8) → 0 ≡ page_number s room
    unfolding page_number
    accepted_page room h = then_buffer s n c ws a e (buffer_number (44 * design_count s) room) 0 (buffer_fits (44 * design_count s) room (omega (arith, count_is)))

    pub some_sizes : (why : Refusal) → head_of (line_at s 0) ≡ Err why → ⊥
    some_sizes why h = let q : ◌≡◌ {A = Result Sizes Refusal} (Ok p.sizes) (Err why) = sym p.head ∙ h in let x : ◌≡◌ {A = ℕ} 0 1 = cc in omega arith

    module _ (z : Sizes) (h : head_of (line_at s 0) ≡ Ok z) where
      pub words_read : take c ws ≡ lines_words z s
      words_read = a.words_are e ∙ p.words ∙ ap (λ (y : Sizes). lines_words y s) (sizes_one s z h p.sizes p.head)

      pub lines_pass : (i : ℕ) → i < total z → line_fault z s i ≡ 0
      lines_pass =
          subst (λ (y : Sizes). (i : ℕ) → i < total y → line_fault y s i ≡ 0) (sizes_one s z h p.sizes p.head) (passes s sheet_passes).0
