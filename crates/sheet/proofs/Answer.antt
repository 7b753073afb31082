-- The whole sheet: what it answers, and what its words then say. Assumes nothing.
use mathlib.Core.Path.{◌≡◌, refl, sym, ap, ◌∙◌}
use mathlib.Core.List.{List, ◌++◌}
use Prim.Native.Nat.{ℕ, ◌+◌, ◌*◌, ◌≤◌, ◌<◌}
use lib.IntN.{ℤ}
use native.Mathlib.Omega.{arith}
use lib.ListN.{length, take, length-take}
use borrow.Author.Tests.{eq-eqb, le-leb}
use Rattle.word.specs.Word.{Words, words_out}
use Rattle.word.proofs.Words.{length_words}
use Rattle.gradient.proofs.Index.{tab_cong}
use Rattle.image.specs.declared.Sizes.{Sizes}
use Rattle.line.specs.Line.{line_at}
use Rattle.std.specs.Prelude.{Result, Ok, Err}
use Rattle.refusal.specs.declared.Refusal.{Refusal}
use Rattle.refusal.specs.Number.{number}
use Rattle.refusal.proofs.Numbers.{above_zero}
use Rattle.frame.specs.Frame.{head_of, total}
use Rattle.frame.proofs.Sized.{head_sound}
use Rattle.lines.specs.Lines.{line_fault, line_word, size_words}
use Rattle.sheet.specs.Reading.{Answered}
use Rattle.sheet.specs.Sheet.{end_number, head_number, lines_number, lines_words, sheet_image, sheet_number, sheet_words}
use Rattle.sheet.proofs.Fits.{lines_fit}
use Rattle.sheet.proofs.Whole.{first_none}

-- ---- line 01 gives sizes
module _ (z : Sizes) (s : List ℕ) (h : head_of (line_at s 0) ≡ Ok z) where
  sized_words : sheet_number s ≡ 0 → sheet_words s ≡ lines_words z s
  unfolding sheet_words
  sized_words e = rw (eq-eqb (sheet_number s) 0 e, h)

  -- no line has a fault, and no byte follows the last
  pub sized_passes : ((i : ℕ) → i < total z → line_fault z s i ≡ 0) → length s ≤ 23 * (total z + 1) → sheet_number s ≡ 0
  unfolding sheet_number
  sized_passes f l = rw h (first_none (line_fault z s) (total z) (end_number z s) f ∙ rw (le-leb (length s) (23 * (total z + 1)) l))

-- two sheets that pass with the same sizes and the same word of each line
pub image_cong : (z : Sizes) (s t : List ℕ) → head_of (line_at s 0) ≡ Ok z → head_of (line_at t 0) ≡ Ok z → sheet_number s ≡ 0 → sheet_number t ≡ 0
    → ((i : ℕ) → i < total z → line_word z s i ≡ line_word z t i) → sheet_image s ≡ sheet_image t
unfolding sheet_image
image_cong z s t h k p q e =
    ap words_out
    (sized_words z s h p ∙ ap (λ (ws : List ℤ). size_words z ++ ws) (tab_cong (line_word z s) (line_word z t) (total z) e) ∙ sym (sized_words z t k q))

-- ---- a sheet that passes
pub record Passing (s : List ℕ) : Type 0 where
  pub sizes : Sizes
  pub head : head_of (line_at s 0) ≡ Ok sizes
  pub number : lines_number sizes s ≡ 0
  pub words : sheet_words s ≡ lines_words sizes s

pub passing : (s : List ℕ) → sheet_number s ≡ 0 → Passing s
unfolding sheet_number
passing s e = by (head_of (line_at s 0)) refl
  where
    number_by : (h : Result Sizes Refusal) → head_of (line_at s 0) ≡ h → head_number h s ≡ 0
    number_by h q = ap (λ (x : Result Sizes Refusal). head_number x s) (sym q) ∙ e

    by : (h : Result Sizes Refusal) → head_of (line_at s 0) ≡ h → Passing s
    by (Ok z) h = record {
      sizes = z;
      head = h;
      number = number_by (Ok z) h;
      words = sized_words z s h e;
    }
    by (Err why) h = let w : ⊥ = omega (arith, above_zero why, number_by (Err why) h) in absurd w

-- ---- the answer
module _ (s : List ℕ) (n c : ℕ) (ws : List ℤ) where
  pub answered_unsized : {why : Refusal} → head_of (line_at s 0) ≡ Err why → n ≡ number why → c ≤ 569 → Answered (sheet_number s) (sheet_words s) n c ws
  answered_unsized {why} h e l = record {
    number_is = unfold sheet_number in rw h e;
    words_are = λ w. let x : ⊥ = omega (arith, above_zero why, e, w) in absurd x;
    count_is = λ w. let x : ⊥ = omega (arith, above_zero why, e, w) in absurd x;
    count_high = l;
  }

  module _ (z : Sizes) (h : head_of (line_at s 0) ≡ Ok z) (t : Answered (lines_number z s) (lines_words z s) n c ws) where
    number_of : n ≡ sheet_number s
    unfolding sheet_number
    number_of = rw h t.number_is

    words_of : n ≡ 0 → sheet_words s ≡ lines_words z s
    words_of e = sized_words z s h (sym number_of ∙ e)

    pub answered_sized : Answered (sheet_number s) (sheet_words s) n c ws
    answered_sized = record {
      number_is = number_of;
      words_are = λ e. t.words_are e ∙ sym (words_of e);
      count_is = λ e. t.count_is e ∙ ap length (sym (words_of e));
      count_high = t.count_high;
    }

-- ---- the words of a sheet without a fault
module _ (s : List ℕ) (n c : ℕ) (ws : List ℤ) (a : Answered (sheet_number s) (sheet_words s) n c ws) (e : n ≡ 0) where
  pub read_passing : Passing s
  read_passing = passing s (sym a.number_is ∙ e)

  pub read_long : length (take c ws) ≡ c
  read_long = ap length (a.words_are e) ∙ sym (a.count_is e)

  pub room_for : c ≤ length ws
  room_for = omega (arith, read_long, length-take c ws)

  pub read_image : words_out (take c ws) ≡ sheet_image s
  unfolding sheet_image
  read_image = ap words_out (a.words_are e)

  pub image_length : length (sheet_image s) ≡ 4 * c
  image_length = ap length (sym read_image) ∙ length_words (take c ws) ∙ ap (λ (k : ℕ). 4 * k) read_long

  pub read_fit : Words (take c ws)
  read_fit = rw (a.words_are e, read_passing.words) (lines_fit read_passing.sizes s (head_sound (line_at s 0) read_passing.sizes read_passing.head))
