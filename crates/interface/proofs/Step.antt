-- The gradient step by the image's own words: M z is 2^b z less H z. Assumes nothing.
use mathlib.Core.Path.{◌≡◌, refl, sym, ap, ◌∙◌}
use mathlib.Core.Bool.{cond}
use mathlib.Core.List.{List}
use mathlib.Core.Logic.{⊎_elim}
use Prim.Native.Nat.{ℕ, zero, suc, ◌+◌, ◌^◌, ◌≤◌, ◌<◌}
use native.Mathlib.Nat.{eq-or-lt_of_le}
use native.Mathlib.Omega.{arith}
use lib.Dec.{eqb}
use lib.IntN.{ℤ, pos, ◌-ℤ◌, ◌*ℤ◌}
use lib.ListN.{length, get_or}
use borrow.Author.Tests.{eq-eqb, ne_eqb}
use Rattle.integer.specs.Parts.{int, nat, ◌⊕◌, ◌⊖◌, ◌⊗◌, ◌⊙◌}
use Rattle.integer.proofs.Parts.{eq! }
use Rattle.word.proofs.Words.{get_d_words_front, length_words_at}
use Rattle.gradient.specs.Index.{sum_z, product_at}
use Rattle.gradient.specs.Vector.{total}
use Rattle.gradient.specs.Scheme.{products}
use Rattle.gradient.specs.Exact.{exact_linear}
use Rattle.gradient.proofs.Index.{sum_z_cong, products_sum, tab_at}
use Rattle.optimum.specs.Optimum.{gradient_step}
use Rattle.image.specs.declared.Sizes.{Sizes}
use Rattle.image.specs.Sizes.{command_count}
use Rattle.image.specs.Layout.{cost_row, cost_at, entry_of, entry_at, command_at}
use Rattle.interface.specs.Optimum.{costs_of, StepByCost}
use Rattle.interface.proofs.Accept.{row_length}

-- the sum of a row that is f at i and 0 elsewhere, less h, times x
module _ (f : ℕ) (i : ℕ) (h x : ℕ → ℤ) where
  abbrev entry : ℕ → ℤ
  entry j = (cond (eqb i j) (pos f) (pos 0) -ℤ h j) *ℤ x j

  abbrev cost : ℕ → ℤ
  cost j = h j *ℤ x j

  off : (j : ℕ) → (i ≡ j → ⊥) → entry j ≡ pos 0 -ℤ cost j
  off j n = rw (ne_eqb i j n) (eq! ((nat 0 ⊖ int (h j)) ⊗ int (x j)) (nat 0 ⊖ int (h j) ⊗ int (x j)) (omega arith))

  on : entry i ≡ pos f *ℤ x i -ℤ cost i
  on = rw (eq-eqb i i refl) (eq! ((nat f ⊖ int (h i)) ⊗ int (x i)) (f ⊙ int (x i) ⊖ int (h i) ⊗ int (x i)) (omega arith))

  -- where i is not among the terms
  away : (a n : ℕ) → i < a → sum_z entry a n ≡ pos 0 -ℤ sum_z cost a n
  away a zero l = refl
  away a (suc n) l =
      rw (off a (λ e. omega arith), away (suc a) n (omega arith))
      (eq! ((nat 0 ⊖ int (cost a)) ⊕ (nat 0 ⊖ int (sum_z cost (suc a) n))) (nat 0 ⊖ (int (cost a) ⊕ int (sum_z cost (suc a) n))) (omega arith))

  -- and where it is
  among : (a n : ℕ) → a ≤ i → i < a + n → sum_z entry a n ≡ pos f *ℤ x i -ℤ sum_z cost a n
  among a zero l k = absurd (omega arith)
  among a (suc n) l k =
      ⊎_elim
      (λ e. rw (e, on, away (suc i) n (omega arith))
      (eq! ((f ⊙ int (x i) ⊖ int (cost i)) ⊕ (nat 0 ⊖ int (sum_z cost (suc i) n))) (f ⊙ int (x i) ⊖ (int (cost i) ⊕ int (sum_z cost (suc i) n))) (omega arith)))
      (λ m. rw (off a (λ e. omega arith), among (suc a) n m (omega arith))
      (eq! ((nat 0 ⊖ int (cost a)) ⊕ (f ⊙ int (x i) ⊖ int (sum_z cost (suc a) n))) (f ⊙ int (x i) ⊖ (int (cost a) ⊕ int (sum_z cost (suc a) n))) (omega arith)))
      (eq-or-lt_of_le l)

-- M z, by H
module _ (z : Sizes) (s : List ℕ) (xs : List ℤ) (long : length xs ≡ command_count z) (i : ℕ) (h : i < command_count z) where
  abbrev n : ℕ
  n = command_count z

  entries : sum_z (product_at (command_at z s i).row xs) 0 n ≡ sum_z (λ (j : ℕ). entry_at z s i j *ℤ get_or xs j (pos 0)) 0 n
  unfolding product_at command_at
  entries = sum_z_cong _ _ 0 n (λ j o l. rw (tab_at (entry_at z s i) n j (pos 0) (omega arith)))

  costs : sum_z (product_at (costs_of z s i) xs) 0 n ≡ sum_z (λ (j : ℕ). cost_at z s i j *ℤ get_or xs j (pos 0)) 0 n
  unfolding product_at
  costs = sum_z_cong _ _ 0 n (λ j o l. rw (get_d_words_front (cost_row z s i) n j (omega arith)))

  row_by_cost : total (products (command_at z s i).row xs) ≡ pos (2 ^ z.b) *ℤ get_or xs i (pos 0) -ℤ total (products (costs_of z s i) xs)
  unfolding entry_of
  row_by_cost =
      products_sum (command_at z s i).row xs n (row_length z s i) long
      ∙ entries
      ∙ among (2 ^ z.b) i (cost_at z s i) (λ (j : ℕ). get_or xs j (pos 0)) 0 n (omega arith) (omega arith)
      ∙ ap (λ (t : ℤ). pos (2 ^ z.b) *ℤ get_or xs i (pos 0) -ℤ t) (sym costs ∙ sym (products_sum (costs_of z s i) xs n (length_words_at (cost_row z s i) 0 n) long))

  pub step_by_cost : (inputs : List ℤ) (N : ℕ) → StepByCost z s inputs N xs i
  unfolding gradient_step
  step_by_cost inputs N = ap (λ (t : ℤ). t -ℤ pos N *ℤ exact_linear inputs (command_at z s i)) row_by_cost
