-- Sums are exact: a row's sum does not go by the order in which its terms are added. Assumes nothing.
use mathlib.Core.Path.{◌≡◌, refl, sym, ap, ◌∙◌}
use mathlib.Core.Bool.{Bool, true, false, cond}
use Prim.Native.Nat.{ℕ, zero, suc, ◌+◌, ◌-◌, ◌/◌, ◌≤◌}
use native.Mathlib.Omega.{arith}
use lib.Dec.{leb}
use borrow.Author.Tests.{leb-true, leb-false}
use lib.IntN.{ℤ}
use Rattle.gradient.specs.Index.{sum_z}
use Rattle.gradient.proofs.Index.{sum_z_split, sum_z_one}
use Rattle.dot.specs.Tree.{Tree, empty, term, both, terms, tree_sum, halves_within, halves, SameSums, SumsByHalves, EachWithin64}

pub tree_sum_lem : (t : Tree) (f : ℕ → ℤ) (a : ℕ) → tree_sum t f a ≡ sum_z f a (terms t)
tree_sum_lem empty f a = refl
tree_sum_lem term f a = sym (sum_z_one f a)
tree_sum_lem (both l r) f a = (cc (tree_sum_lem l f a, tree_sum_lem r f (a + terms l))) ∙ sym (sum_z_split f a (terms l) (terms r))

pub same_sums : SameSums
same_sums t u f a e = tree_sum_lem t f a ∙ ap (sum_z f a) e ∙ sym (tree_sum_lem u f a)

pub each_within_64 : EachWithin64
each_within_64 empty f a n h l = h a 0 l
each_within_64 term f a n h l = rw (sum_z_one f a) at (h a 1 l)
each_within_64 (both s t) f a n h l =
    (each_within_64 s f a n h (omega arith), each_within_64 t f (a + terms s) n h (omega arith), rw (tree_sum_lem (both s t) f a) (h a (terms s + terms t) l))

halves_terms : (depth n : ℕ) → 1 ≤ n → n ≤ depth → terms (halves_within depth n) ≡ n
halves_terms zero n p q = absurd (omega arith)
halves_terms (suc depth) n p q = by (leb n 1) refl (λ m l h. halves_terms depth m l h)
  where
    by : (b : Bool) → leb n 1 ≡ b → ((m : ℕ) → 1 ≤ m → m ≤ depth → terms (halves_within depth m) ≡ m) → terms (cond b term (both (halves_within depth (n - n / 2)) (halves_within depth (n / 2)))) ≡ n
    by true e ih = omega (arith, leb-true n 1 e)
    by false e ih =
        let two : 2 ≤ n = omega (arith, leb-false n 1 e) in
        rw (ih (n - n / 2) (omega arith) (omega arith), ih (n / 2) (omega arith) (omega arith)) (omega arith)

-- document 01's tree of five terms: three and two, and of the three two and one
halves_of_five : halves 5 ≡ both (both (both term term) term) (both term term)
halves_of_five = refl

pub sums_by_halves : SumsByHalves
sums_by_halves f a zero = refl
sums_by_halves f a (suc n) = tree_sum_lem (halves (suc n)) f a ∙ ap (sum_z f a) (halves_terms (suc n) (suc n) (omega arith) (omega arith))
