-- Each line of an accepted sheet is the one due, and its word is the rounding of its double. Assumes nothing.
use mathlib.Core.Path.{◌≡◌, refl, sym, ap, ◌∙◌, subst}
use mathlib.Core.Bool.{true, ◌&&◌}
use mathlib.Core.List.{List}
use mathlib.Core.Logic.{⊎_elim}
use Prim.Native.Nat.{ℕ, zero, suc, ◌+◌, ◌-◌, ◌*◌, ◌≤◌, ◌<◌}
use native.Mathlib.Nat.{eq-or-lt_of_le, le_of_suc-le-suc, not-suc-le-zero}
use native.Mathlib.Omega.{arith}
use lib.Dec.{eqb, leb, lit<}
use lib.Ieee.{Float, binary64, of_bits}
use lib.ListN.{length}
use borrow.Author.Tests.{eqb-true, leb-true}
use Rattle.word.specs.Word.{word_at}
use Rattle.hexadecimal.specs.Hex.{hex_at}
use Rattle.double.specs.Double.{scalable, rounded, rule_of}
use Rattle.image.specs.Order.{or_else}
use Rattle.image.specs.Sizes.{body_count, Sound}
use Rattle.image.specs.Layout.{sizes_of}
use Rattle.image.specs.declared.Sizes.{Sizes}
use Rattle.image.proofs.Ordering.{both, none, passed}
use Rattle.line.specs.Line.{is_frame, line_at, frame_at}
use Rattle.std.specs.Prelude.{Result, Ok, Err}
use Rattle.refusal.specs.declared.Refusal.{Refusal}
use Rattle.refusal.proofs.Numbers.{above_zero}
use Rattle.line.specs.declared.Frame.{Frame}
use Rattle.line.proofs.Laws.{framed, frame_end}
use Rattle.frame.specs.Frame.{due_at, is_due, rounding_of, total, value_double, value_number, value_of}
use Rattle.frame.proofs.Sized.{differ, head_sound}
use Rattle.frame.proofs.Laws.{total_is}
use Rattle.frame.proofs.Word.{due_double, word_rounded, word_scalable}
use Rattle.lines.specs.Lines.{line_double, line_fault, line_value, line_word}
use Rattle.lines.proofs.Step.{passed_word}
use Rattle.sheet.specs.Laws.{Rounded}
use Rattle.sheet.specs.Sheet.{end_number, first, sheet_image, sheet_number}
use Rattle.sheet.proofs.Answer.{Passing, passing}
use Rattle.sheet.proofs.Image.{image_sizes, image_word}

-- no fault among the first n, and none after them
pub first_zero : (f : ℕ → ℕ) (n e : ℕ) → first f n e ≡ 0 → ((k : ℕ) → k < n → f k ≡ 0) × (e ≡ 0)
first_zero f zero e h = (λ k l. absurd (not-suc-le-zero l), h)
first_zero f (suc n) e h =
    let p = first_zero f n (or_else (f n) e) h in
    let q = none (f n) e p.1 in
    (λ k l. ⊎_elim (λ (s : k ≡ n). subst (λ (m : ℕ). f m ≡ 0) (sym s) q.0) (λ (m : k < n). p.0 k m) (eq-or-lt_of_le (le_of_suc-le-suc l)), q.1)

-- ---- a line without a fault
module _ (z : Sizes) (s : List ℕ) (i : ℕ) (f : line_fault z s i ≡ 0) where
  abbrev at : ℕ
  at = 23 * (i + 1)

  value_double_lem : line_value z s i ≡ Ok (line_double z s i)
  unfolding line_fault
  value_double_lem = by (line_value z s i) refl f
    where
      by : (g : Result Float Refusal) → line_value z s i ≡ g → value_number z (due_at z i).kind g ≡ 0 → g ≡ Ok (value_double g)
      by (Ok x) e h = refl
      by (Err why) e h = let w : ⊥ = omega (arith, above_zero why, h) in absurd w

  pub line_frame : (is_frame s at ≡ true) × (value_of (due_at z i) (Ok (frame_at s at)) ≡ Ok (line_double z s i))
  unfolding line_value
  line_frame = framed (λ (l : Result Frame Refusal). value_of (due_at z i) l ≡ Ok (line_double z s i)) s at (λ e. differ (cc)) (λ e. differ (cc)) value_double_lem

  pub line_due : (is_due (due_at z i) (hex_at 2 s at) (hex_at 2 s (at + 2)) (hex_at 2 s (at + 4)) ≡ true) × (line_double z s i ≡ of_bits binary64 (hex_at 16 s (at + 6)))
  line_due = due_double (is_due (due_at z i) (hex_at 2 s at) (hex_at 2 s (at + 2)) (hex_at 2 s (at + 4))) (of_bits binary64 (hex_at 16 s (at + 6))) (line_double z s i) line_frame.1

  kind_and_row : eqb (hex_at 2 s at) (due_at z i).kind && eqb (hex_at 2 s (at + 2)) (due_at z i).row ≡ true
  kind_and_row =
      (both (eqb (hex_at 2 s at) (due_at z i).kind && eqb (hex_at 2 s (at + 2)) (due_at z i).row) (eqb (hex_at 2 s (at + 4)) (due_at z i).column) line_due.0).0

  pub kind_due : hex_at 2 s at ≡ (due_at z i).kind
  kind_due = eqb-true _ _ (both (eqb (hex_at 2 s at) (due_at z i).kind) (eqb (hex_at 2 s (at + 2)) (due_at z i).row) kind_and_row).0

  pub row_due : hex_at 2 s (at + 2) ≡ (due_at z i).row
  row_due = eqb-true _ _ (both (eqb (hex_at 2 s at) (due_at z i).kind) (eqb (hex_at 2 s (at + 2)) (due_at z i).row) kind_and_row).1

  pub column_due : hex_at 2 s (at + 4) ≡ (due_at z i).column
  column_due =
      eqb-true _ _
      (both (eqb (hex_at 2 s at) (due_at z i).kind && eqb (hex_at 2 s (at + 2)) (due_at z i).row) (eqb (hex_at 2 s (at + 4)) (due_at z i).column) line_due.0).1

  line_rounded : line_word z s i ≡ rounded (rule_of (rounding_of (due_at z i).kind)) z.b (line_double z s i)
  unfolding line_fault line_word
  line_rounded = word_rounded z (due_at z i).kind (line_double z s i) _ (passed_word z s i (line_value z s i) refl f)

  line_scales : scalable z.b (line_double z s i) ≡ true
  unfolding line_fault line_word
  line_scales = word_scalable z (due_at z i).kind (line_double z s i) _ (passed_word z s i (line_value z s i) refl f)

  pub line_facts : word_at (sheet_image s) (4 * (8 + i)) ≡ line_word z s i → Rounded z s i
  line_facts w = record {
    kind = kind_due;
    row = row_due;
    column = column_due;
    scales = ap (scalable z.b) (sym line_due.1) ∙ line_scales;
    word = w ∙ line_rounded ∙ ap (rounded (rule_of (rounding_of (due_at z i).kind)) z.b) line_due.1;
  }

-- ---- the sheet
module _ (s : List ℕ) (e : sheet_number s ≡ 0) where
  abbrev p : Passing s
  p = passing s e

  pub passes : ((k : ℕ) → k < total p.sizes → line_fault p.sizes s k ≡ 0) × (end_number p.sizes s ≡ 0)
  passes = first_zero (line_fault p.sizes s) (total p.sizes) (end_number p.sizes s) p.number

  -- the words are the roundings of the sheet's doubles, entry by entry, in sheet order
  pub words_rounded : (i : ℕ) → i < body_count (sizes_of (sheet_image s)) → Rounded (sizes_of (sheet_image s)) s i
  words_rounded i =
      rw (image_sizes s p)
      (λ (h : i < body_count p.sizes). line_facts p.sizes s i (passes.0 i (omega (arith, total_is p.sizes))) (image_word s p i h))

  -- no line is missing, and no byte follows the last
  pub sheet_length : length s ≡ 23 * (1 + body_count (sizes_of (sheet_image s)))
  sheet_length =
      let z = p.sizes in
      let o : Sound z = head_sound (line_at s 0) z p.head in
      let k : 1 ≤ total z = omega (arith, total_is z) in
      let q = passed (leb (length s) (23 * (total z + 1))) 4 0 (lit< tt) passes.1 in
      rw (image_sizes s p)
      (omega (arith, total_is z, leb-true (length s) (23 * (total z + 1)) q.0, frame_end s (23 * (total z - 1 + 1)) (line_frame z s (total z - 1) (passes.0 (total z - 1) (omega arith))).0))
