-- With N above 1 every sheet that passes lines and end by the definitions but for request 3 is 2, and every image that passes 6, 3 and 6 by
-- them is 6. Assumes nothing.
use mathlib.Core.Path.{◌≡◌, refl, ap, ◌∙◌}
use mathlib.Core.Bool.{Bool, true, false, cond, ◌&&◌, true≢false}
use mathlib.Core.List.{List}
use Prim.Native.Nat.{ℕ, ◌+◌, ◌*◌, ◌<◌}
use native.Mathlib.Omega.{arith}
use lib.Dec.{eqb, leb}
use lib.ListN.{length}
use lib.Ieee.{binary64, of_bits}
use borrow.Author.Tests.{eqb-true, ne_eqb}
use Rattle.std.specs.Prelude.{Result, Ok, Err}
use Rattle.refusal.specs.Number.{number}
use Rattle.refusal.specs.declared.Refusal.{Refusal}
use Rattle.refusal.specs.declared.Refusal.TheVariants.{Misplaced}
use Rattle.refusal.proofs.Numbers.{above_zero}
use Rattle.word.specs.Word.{nat_at}
use Rattle.image.specs.declared.Sizes.{Sizes}
use Rattle.image.specs.Sizes.{body_count, sound, Sound}
use Rattle.image.specs.Layout.{sizes_of}
use Rattle.image.specs.Checks.{head_number}
use Rattle.image.proofs.Ordering.{passed}
use Rattle.image.proofs.Sized.{sound_facts}
use Rattle.interface.specs.Tables.{image_number}
use Rattle.interface.specs.Calls.{cold_number, solvable_number, solve_number}
use Rattle.line.specs.Line.{line_at}
use Rattle.line.specs.declared.Frame.{Frame}
use Rattle.frame.specs.Frame.{due, head_of, low_base, total, value_number, value_of, word_of}
use Rattle.frame.proofs.Laws.{total_is}
use Rattle.frame.proofs.Sized.{head_sizes, head_sound}
use Rattle.lines.specs.Lines.{line_fault, line_value}
use Rattle.sheet.specs.Sheet.{end_number, lines_number, sheet_number}
use Rattle.sheet.proofs.Entries.{first_zero}
use Rattle.sheet.proofs.Whole.{first_fault_lem}
use Rattle.intake.specs.Intake.{design_number, intake_number}
use Rattle.design_page.specs.Page.{page_number}
use Rattle.label_text.specs.Label.{label_text}
use Rattle.page_text.specs.Text.{page_text}
use Rattle.former.specs.Version.{before_horizon}
use Rattle.former.specs.Former as former
use Rattle.former.specs.Laws.{steps_byte, NowSix, NowTwo}
use Rattle.former.proofs.Due.{first_difference, two_commands}
use Rattle.former.proofs.Sheets.{head_same}

-- a refusal has a number
never : (why : Refusal) → number why ≡ 0 → ⊥
never why e = omega (arith, above_zero why)

-- ---- a line
-- a line without a fault where a 05 was due has another kind than the 04 that is
wrong_kind : (z : Sizes) (l : Result Frame Refusal) → value_number z 5 (value_of (due 5 0 0) l) ≡ 0 → value_number z 4 (value_of (due 4 0 1) l) ≡ 2
wrong_kind z (Err why) h = absurd (never why h)
wrong_kind z (Ok f) h = by (eqb f.kind 5) refl h
  where
    by : (b : Bool) → eqb f.kind 5 ≡ b → value_number z 5 (cond (b && eqb f.row 0 && eqb f.column 0) (Ok (of_bits binary64 f.bits)) (Err Misplaced)) ≡ 0
        → value_number z 4 (value_of (due 4 0 1) (Ok f)) ≡ 2
    by true q n = rw (ne_eqb f.kind 4 (λ (w : f.kind ≡ 4). omega (arith, eqb-true f.kind 5 q)))
    by false q n = let x : ⊥ = omega arith in absurd x

-- ---- the lines after line 01
module _ (z : Sizes) (o : Sound z) (more : 1 < z.steps) (s : List ℕ) where
  abbrev at : ℕ
  at = low_base z + z.nu

  at_inside : at < former.total before_horizon z
  unfolding former.total low_base
  at_inside = omega (arith, o.nu_low)

  at_due : at < total z
  at_due = unfold low_base in omega (arith, total_is z, two_commands z more)

  fault_before : (i : ℕ) → i < at → line_fault z s i ≡ former.line_fault before_horizon z s i
  unfolding line_fault former.line_fault line_value former.line_value word_of former.word_of
  fault_before i h = rw ((first_difference z o more).before i h)

  fault_at : former.line_fault before_horizon z s at ≡ 0 → line_fault z s at ≡ 2
  unfolding line_fault former.line_fault line_value former.line_value word_of former.word_of
  fault_at h = let p = first_difference z o more in rw p.is_due_lem (wrong_kind z (line_at s (23 * (at + 1))) (rw p.was_due at h))

  lines_two : former.lines_number before_horizon z s ≡ 0 → lines_number z s ≡ 2
  lines_two h =
      let p = (first_zero (former.line_fault before_horizon z s) (former.total before_horizon z) (former.end_number before_horizon z s) h).0 in
      let f = fault_at (p at at_inside) in
      first_fault_lem (line_fault z s) (total z) (end_number z s) at at_due (λ k l. fault_before k l ∙ p k (omega (arith, at_inside)))
      (λ (w : line_fault z s at ≡ 0). omega arith) ∙ f

-- ---- the sheet
module _ (s : List ℕ) (passes : former.sheet_number before_horizon s ≡ 0) (more : 1 < steps_byte s) where
  same : head_of (line_at s 0) ≡ former.head_of before_horizon (line_at s 0)
  same = head_same before_horizon (line_at s 0) (λ e. absurd (true≢false e))

  sheet_two : sheet_number s ≡ 2
  unfolding sheet_number former.sheet_number
  sheet_two = by (head_of (line_at s 0)) refl
    where
      by : (h : Result Sizes Refusal) → head_of (line_at s 0) ≡ h → sheet_number s ≡ 2
      by (Ok z) q =
          let steps : z.steps ≡ steps_byte s = ap (λ (x : Sizes). x.steps) (head_sizes s 0 z q).1 in
          rw q (lines_two z (head_sound (line_at s 0) z q) (omega arith) s (rw (← same, q) at passes))
      by (Err why) q = absurd (never why (rw (← same, q) at passes))

-- ---- the laws
-- the sheets that pass lines and end by them, so all that they accept
pub more_steps : (sheet state target : List ℕ) (room : ℕ) → former.sheet_number before_horizon sheet ≡ 0 → 1 < steps_byte sheet → NowTwo sheet state target room
unfolding intake_number design_number page_number page_text label_text
more_steps sheet state target room h more = record {
  number = rw (sheet_two sheet h more);
  page_number_lem = rw (sheet_two sheet h more);
  printed_page = rw (sheet_two sheet h more);
  label = rw (sheet_two sheet h more);
}

-- the images that pass 6, 3 and 6 by them, so all that they accept
pub more_steps_calls : (image state target start : List ℕ) (room : ℕ) → former.head_number before_horizon image ≡ 0 → 1 < (sizes_of image).steps → NowSix image state target start room
unfolding former.head_number image_number head_number cold_number solve_number solvable_number
more_steps_calls image state target start room h more =
    let z = sizes_of image in
    let p₁ = passed (leb 32 (length image)) 6 _ (omega arith) h in
    let p₂ = passed (sound z) 3 _ (omega arith) p₁.1 in
    let p₃ = passed (eqb (nat_at image 28) 0) 3 _ (omega arith) p₂.1 in
    let p₄ = passed (eqb (length image) (4 * (8 + former.body_count before_horizon z))) 6 _ (omega arith) p₃.1 in
    let o = sound_facts z p₂.0 in
    let other : eqb (length image) (4 * (8 + body_count z)) ≡ false
    = ne_eqb (length image) (4 * (8 + body_count z)) (λ (e : length image ≡ 4 * (8 + body_count z)). omega (arith, eqb-true (length image) (4 * (8 + former.body_count before_horizon z)) p₄.0, two_commands z more, o.nu_low)) in
    record { cold_number_lem = rw (p₁.0, p₂.0, p₃.0, other); number = rw (p₁.0, p₂.0, p₃.0, other) }
