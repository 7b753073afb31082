-- The first fault, and all the words. Assumes nothing.
use mathlib.Core.Path.{◌≡◌, refl, sym, ap, ◌∙◌, subst}
use mathlib.Core.Bool.{Bool, true, false}
use mathlib.Core.List.{List, ◌++◌}
use mathlib.Core.Logic.{⊎_elim}
use Prim.Native.Nat.{ℕ, zero, suc, ◌+◌, ◌-◌, ◌*◌, ◌≤◌, ◌<◌}
use lib.IntN.{ℤ, pos}
use lib.Ieee.{Float}
use native.Mathlib.Nat.{eq-or-lt_of_le, le_of_suc-le-suc, not-suc-le-zero}
use native.Mathlib.Omega.{arith}
use lib.Dec.{ltb}
use lib.ListN.{length, get_or, take, drop, length-append, length-drop, get_or-append}
use lib.Seq.{ext_get_or, get_or-take, length-take-le, get_or-append-add}
use borrow.Author.Tests.{eq-eqb, ne_eqb, le-leb, lt-leb, ltb-true, ltb-false}
use Rattle.gradient.specs.Index.{tab}
use Rattle.gradient.proofs.Index.{tab_length, tab_at}
use Rattle.image.specs.Sizes.{Sound, command_count}
use Rattle.image.specs.declared.Sizes.{Sizes}
use Rattle.image.specs.Order.{or_else}
use Rattle.frame.specs.Frame.{is_low, low_base, total}
use Rattle.frame.proofs.Laws.{total_high, total_is}
use Rattle.lines.specs.Lines.{line_fault, line_word, size_words, ReadTo}
use Rattle.sheet.specs.Reading.{Answered}
use Rattle.sheet.specs.Sheet.{end_number, first, lines_number, lines_words}

-- ---- the first fault
module _ (f : ℕ → ℕ) where
  pub first_none : (n e : ℕ) → ((k : ℕ) → k < n → f k ≡ 0) → first f n e ≡ e
  first_none zero e h = refl
  first_none (suc n) e h = rw (eq-eqb (f n) 0 (h n (omega arith))) (first_none n e (λ k l. h k (omega arith)))

  pub first_fault_lem : (n e i : ℕ) → i < n → ((k : ℕ) → k < i → f k ≡ 0) → (f i ≡ 0 → ⊥) → first f n e ≡ f i
  first_fault_lem zero e i l h q = absurd (not-suc-le-zero l)
  first_fault_lem (suc n) e i l h q =
      ⊎_elim
      (λ (s : i ≡ n). subst (λ (m : ℕ). first f m (or_else (f m) e) ≡ f i) s (first_none i (or_else (f i) e) h ∙ rw (ne_eqb (f i) 0 q)))
      (λ (m : i < n). first_fault_lem n (or_else (f n) e) i m h q)
      (eq-or-lt_of_le (le_of_suc-le-suc l))

-- ---- the words
pub long : (z : Sizes) (s : List ℕ) → length (lines_words z s) ≡ 8 + total z
long z s = omega (arith, length-append (size_words z) (tab (line_word z s) (total z)), tab_length (line_word z s) (total z))

-- the word of line i stands behind the sizes
pub line_at_lem : (z : Sizes) (s : List ℕ) (i : ℕ) → i < total z → get_or (lines_words z s) (8 + i) (pos 0) ≡ line_word z s i
line_at_lem z s i l = get_or-append-add (size_words z) (tab (line_word z s) (total z)) i (pos 0) ∙ tab_at (line_word z s) (total z) i (pos 0) l

-- the sizes in front of an array
pub read_start : (z : Sizes) (s : List ℕ) (vs ws : List ℤ) (ls : List Float) → length vs ≡ 569 → ws ≡ size_words z ++ drop 8 vs → length ls ≡ 16 → ReadTo z s 0 ws ls
read_start z s vs ws ls l e h = record {
  size = ap length e ∙ omega (arith, length-append (size_words z) (drop 8 vs), length-drop 8 vs, l);
  room = h;
  passed = λ k m. absurd (not-suc-le-zero m);
  head = λ k m. rw e (get_or-append (size_words z) (drop 8 vs) (pos 0) k m);
  single = λ k l n. absurd (not-suc-le-zero l);
  paired = λ k l m. absurd (not-suc-le-zero m);
  kept = λ j l m. absurd (not-suc-le-zero m);
}

module _ (z : Sizes) (s : List ℕ) (ws : List ℤ) (ls : List Float) (o : Sound z) (r : ReadTo z s (total z) ws ls) where
  each : (k : ℕ) → k < total z → get_or ws (8 + k) (pos 0) ≡ line_word z s k
  each k l = by (ltb k (low_base z)) refl
    where
      inside : low_base z + command_count z + command_count z < total z
      inside = unfold low_base in omega (arith, total_is z)

      by_high : (b : Bool) → ltb k (low_base z + command_count z) ≡ b → low_base z ≤ k → get_or ws (8 + k) (pos 0) ≡ line_word z s k
      by_high true e h = r.paired k (h, ltb-true k (low_base z + command_count z) e) (omega (arith, ltb-true k (low_base z + command_count z) e, inside))
      by_high false e h = r.single k l (λ (m : is_low z k). omega (arith, ltb-false k (low_base z + command_count z) e, m.1))

      by : (b : Bool) → ltb k (low_base z) ≡ b → get_or ws (8 + k) (pos 0) ≡ line_word z s k
      by true e = r.single k l (λ (m : is_low z k). omega (arith, ltb-true k (low_base z) e, m.0))
      by false e = by_high (ltb k (low_base z + command_count z)) refl (ltb-false k (low_base z) e)

  room : length (take (8 + total z) ws) ≡ 8 + total z
  room = length-take-le (8 + total z) ws (omega (arith, r.size, total_high z o))

  pub all_words : take (8 + total z) ws ≡ lines_words z s
  all_words = ext_get_or (pos 0) (take (8 + total z) ws) (lines_words z s) (room ∙ sym (long z s))
      (λ k l. get_or-take (8 + total z) ws k (pos 0) (omega (arith, room)) ∙ at k (ltb k 8) refl (omega (arith, room)))
    where
      at : (k : ℕ) (b : Bool) → ltb k 8 ≡ b → k < 8 + total z → get_or ws k (pos 0) ≡ get_or (lines_words z s) k (pos 0)
      at k true e l = r.head k (ltb-true k 8 e) ∙ sym (get_or-append (size_words z) (tab (line_word z s) (total z)) (pos 0) k (ltb-true k 8 e))
      at k false e l =
          let h = ltb-false k 8 e in
          let j : 8 + (k - 8) ≡ k = omega arith in
          subst (λ (m : ℕ). get_or ws m (pos 0) ≡ get_or (lines_words z s) m (pos 0)) j
          (each (k - 8) (omega arith) ∙ sym (line_at_lem z s (k - 8) (omega arith)))

-- ---- the ways out of the loop
abbrev pub Taken : Sizes → List ℕ → ℕ → ℕ → List ℤ → Type 0
Taken z s number count words = Answered (lines_number z s) (lines_words z s) number count words

module _ (z : Sizes) (s : List ℕ) (ws : List ℤ) where
  pub taken_fault : (i n : ℕ) → i < total z → ((k : ℕ) → k < i → line_fault z s k ≡ 0) → n ≡ line_fault z s i → (n ≡ 0 → ⊥) → Taken z s n 0 ws
  taken_fault i n l h e q = record {
    number_is = e ∙ sym (first_fault_lem (line_fault z s) (total z) (end_number z s) i l h (λ (w : line_fault z s i ≡ 0). q (e ∙ w)));
    words_are = λ w. absurd (q w);
    count_is = λ w. absurd (q w);
    count_high = omega arith;
  }

  pub taken_long : ((k : ℕ) → k < total z → line_fault z s k ≡ 0) → 23 * (total z + 1) < length s → Taken z s 4 0 ws
  taken_long h l = record {
    number_is = sym (first_none (line_fault z s) (total z) (end_number z s) h ∙ rw (lt-leb (length s) (23 * (total z + 1)) l));
    words_are = λ w. let n : ⊥ = omega arith in absurd n;
    count_is = λ w. let n : ⊥ = omega arith in absurd n;
    count_high = omega arith;
  }

  pub taken_all : (ls : List Float) → Sound z → ReadTo z s (total z) ws ls → length s ≤ 23 * (total z + 1) → Taken z s 0 (8 + total z) ws
  taken_all ls o r l = record {
    number_is = sym (first_none (line_fault z s) (total z) (end_number z s) r.passed ∙ rw (le-leb (length s) (23 * (total z + 1)) l));
    words_are = λ w. all_words z s ws ls o r;
    count_is = λ w. sym (long z s);
    count_high = omega (arith, total_high z o);
  }
