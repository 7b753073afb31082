-- A test of each number below n, as a chain over a range answers it. Assumes nothing.
use denote.Param.Members.{Mut}
use Rattle.std.specs.Prelude.{ℕ, zero, suc, ◌+◌, ◌≡◌, Bool, true, false, ◌&&◌, List, Option, MatchOption, refl}
use Rattle.std.specs.declared.ops.Range.{Range}
use Rattle.std.specs.Fn.{Called}
use Rattle.std.specs.Iterator.{YieldsThen}
use Rattle.std.specs.List.{range_with_len, list_all, FoldsTo}
use Rattle.std.proofs.Common.{arith, rules, ◌∙◌}
use Rattle.std.proofs.iter.Yields.{nat_range_steps}
use Rattle.std.proofs.lemmas.Iterator.{YieldsList-from_range}
use Rattle.std.proofs.lemmas.Iterator.Search.{all_from_yields_List}
use Rattle.gradient.specs.Index.{all_to}

-- one more item at the end
list_all_more : (t : ℕ → Bool) (a n k : ℕ) → a + n ≡ k → list_all t (range_with_len a (suc n)) ≡ list_all t (range_with_len a n) && t k
list_all_more t a zero k h = Prim.grind (rules, h)
list_all_more t a (suc n) k h = let e = list_all_more t (a + 1) n k (omega (arith, h)) in Prim.grind (rules, e)

-- all of them
pub list_all_range : (t : ℕ → Bool) (n : ℕ) → list_all t (range_with_len 0 n) ≡ all_to t n
list_all_range t zero = refl
list_all_range t (suc n) = let e = list_all_more t 0 n n (omega arith) in let f = list_all_range t n in Prim.grind (rules, e, f)

-- what `(0..n).all(|i| ..)` answers, where each call of the closure answers the test of its index
module _ {F : Type 0} {g : Mut F (ℕ × Unit {0}) Bool} {n m : ℕ} {u : Range ℕ} {f : F} {r : Bool} (test : ℕ → Bool) where
  pub all_of_range : n ≡ m
      → ((xs : List ℕ) × (o : Option ℕ) × (j : F) × YieldsThen nat_range_steps (record { start = 0; end = n }) xs o u × FoldsTo (λ p x q. Called g p (x, tt) true q) f xs j
      × MatchOption o (r ≡ true) (λ x. (r ≡ false) × ((h : F) × Called g j (x, tt) false h)))
      → ((x : ℕ) (b : Bool) (q : F) → Called g f (x, tt) b q → (q ≡ f) × (b ≡ test x)) → r ≡ all_to test m
  all_of_range e ran each = all_from_yields_List test u f r ran (YieldsList-from_range 0 n m refl (omega arith)) each ∙ list_all_range test m
