-- The words of a sheet are words of its format. Assumes nothing.
use mathlib.Core.Path.{◌≡◌, refl, subst}
use mathlib.Core.Bool.{Bool, true, false}
use mathlib.Core.List.{List, [], ◌∷◌, ◌++◌}
use Prim.Native.Nat.{ℕ, zero, suc, ◌+◌, ◌-◌, ◌≤◌}
use native.Mathlib.Nat.{le_of_suc-le-suc, not-suc-le-zero}
use native.Mathlib.Omega.{arith}
use lib.IntN.{ℤ, pos}
use lib.Dec.{ltb}
use lib.ListN.{length, get_or, length-append, get_or-append}
use lib.Seq.{get_or-append-add}
use lib.Signed.{le_z}
use borrow.Author.Tests.{ltb-true, ltb-false}
use mir.Syntax.{w32}
use mir.Val.{SFits}
use Rattle.integer.proofs.Machine.{sfits_abs}
use Rattle.word.specs.Word.{Words}
use Rattle.word.specs.Format.{in_word}
use Rattle.word.proofs.Format.{top_high, in_word_abs}
use Rattle.gradient.specs.Index.{tab}
use Rattle.gradient.proofs.Index.{tab_length, tab_at}
use Rattle.image.specs.Sizes.{Sound}
use Rattle.image.specs.declared.Sizes.{Sizes}
use Rattle.frame.specs.Frame.{due_at, is_input_limit, total}
use Rattle.frame.proofs.Word.{limit_in, word_in}
use Rattle.lines.specs.Lines.{line_double, line_word, size_words}
use Rattle.sheet.specs.Sheet.{lines_words}

-- ---- one word
module _ (z : Sizes) (s : List ℕ) (k : ℕ) where
  pub line_word_in : in_word z.w (line_word z s k) ≡ true
  unfolding line_word
  line_word_in = word_in z (due_at z k).kind (line_double z s k)

  pub input_limit : is_input_limit (due_at z k).kind ≡ true → le_z (pos 0) (line_word z s k) ≡ true
  unfolding line_word
  input_limit e = limit_in z (due_at z k).kind (line_double z s k) e

in_fits : (w : ℕ) (v : ℤ) → w ≤ 32 → in_word w v ≡ true → SFits w32 v
in_fits w v l h = sfits_abs v (in_word_abs w v h) (top_high w l)

-- ---- all of them
low : (n : ℕ) → n ≤ 1000 → SFits w32 (pos n)
low n h = sfits_abs (pos n) h (omega arith)

data Fit : List ℤ → Type 0 where
  end : Fit []
  more : {x : ℤ} {xs : List ℤ} → SFits w32 x → Fit xs → Fit (x ∷ xs)

fit_words : (l : List ℤ) → Fit l → Words l
fit_words l end i h = absurd (not-suc-le-zero h)
fit_words l (more f r) zero h = f
fit_words l (more {xs = xs} f r) (suc i) h = fit_words xs r i (le_of_suc-le-suc h)

append_fits : (a b : List ℤ) → Words a → Words b → Words (a ++ b)
append_fits a b p q i h = by (ltb i (length a)) refl
  where
    by : (t : Bool) → ltb i (length a) ≡ t → SFits w32 (get_or (a ++ b) i (pos 0))
    by true e = rw (get_or-append a b (pos 0) i (ltb-true i (length a) e)) (p i (ltb-true i (length a) e))
    by false e =
        let l = ltb-false i (length a) e in
        let j : length a + (i - length a) ≡ i = omega arith in
        subst (λ (m : ℕ). SFits w32 (get_or (a ++ b) m (pos 0))) j (rw (get_or-append-add a b (i - length a) (pos 0)) (q (i - length a) (omega (arith, length-append a b))))

pub lines_fit : (z : Sizes) (s : List ℕ) → Sound z → Words (lines_words z s)
lines_fit z s o =
    append_fits (size_words z) (tab (line_word z s) (total z))
    (fit_words (size_words z) (more (low z.nu (omega arith)) (more (low z.steps (omega arith)) (more (low z.nx (omega arith)) (more (low z.b (omega arith))
    (more (low z.w (omega arith)) (more (low z.sweeps (omega arith)) (more (low z.nr (omega arith)) (more (low 0 (omega arith)) end)))))))))
    (λ i h. rw (tab_at (line_word z s) (total z) i (pos 0) (omega (arith, tab_length (line_word z s) (total z)))) (in_fits z.w (line_word z s i) o.w_high (line_word_in z s i)))
