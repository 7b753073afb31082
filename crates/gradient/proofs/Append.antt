-- Two lists one after the other, as the inputs are the state and then the target: what a sum or a test over both is. Assumes nothing.
use mathlib.Core.Path.{◌≡◌, refl, sym, ap, ◌∙◌}
use mathlib.Core.Bool.{Bool, ◌&&◌, and_assoc}
use mathlib.Core.List.{List, [], ◌∷◌, ◌++◌}
use Prim.Native.Nat.{ℕ, ◌+◌, ◌*◌}
use native.Mathlib.Omega.{arith}
use lib.IntN.{ℤ, nat_abs}
use lib.ListN.{length}
use Rattle.gradient.specs.Vector.{zip_with, sum, All1, nil1, cons1}
use Rattle.gradient.specs.Bounds.{weight}
use Rattle.gradient.specs.Demand.{every2}

-- ---- place by place
pub all1_append : {A : Type 0} {P : A → Type 0} {l m : List A} → All1 P l → All1 P m → All1 P (l ++ m)
all1_append nil1 k = k
all1_append (cons1 h t) k = cons1 h (all1_append t k)

module _ {A B : Type 0} where
  pub zip_append : {C : Type 0} (f : A → B → C) (xs us : List A) (ys vs : List B) → length xs ≡ length ys
      → zip_with f (xs ++ us) (ys ++ vs) ≡ zip_with f xs ys ++ zip_with f us vs
  zip_append f [] us [] vs e = refl
  zip_append f [] us (y ∷ ys) vs e = let z : ⊥ = omega arith in absurd z
  zip_append f (x ∷ xs) us [] vs e = let z : ⊥ = omega arith in absurd z
  zip_append {C = C} f (x ∷ xs) us (y ∷ ys) vs e = ap (λ (l : List C). f x y ∷ l) (zip_append f xs us ys vs (omega arith))

  pub every2_append : (f : A → B → Bool) (xs us : List A) (ys vs : List B) → length xs ≡ length ys
      → every2 f (xs ++ us) (ys ++ vs) ≡ every2 f xs ys && every2 f us vs
  unfolding every2
  every2_append f [] us [] vs e = refl
  every2_append f [] us (y ∷ ys) vs e = let z : ⊥ = omega arith in absurd z
  every2_append f (x ∷ xs) us [] vs e = let z : ⊥ = omega arith in absurd z
  every2_append f (x ∷ xs) us (y ∷ ys) vs e =
      ap (λ (b : Bool). f x y && b) (every2_append f xs us ys vs (omega arith)) ∙ sym (and_assoc (f x y) (every2 f xs ys) (every2 f us vs))

-- ---- sums
sum_append : (l m : List ℕ) → sum (l ++ m) ≡ sum l + sum m
sum_append [] m = omega arith
sum_append (a ∷ l) m = omega (arith, sum_append l m)

pub weight_append : (xs us : List ℤ) (ys vs : List ℕ) → length xs ≡ length ys → weight (xs ++ us) (ys ++ vs) ≡ weight xs ys + weight us vs
unfolding weight
weight_append xs us ys vs e =
    ap sum (zip_append _ xs us ys vs e) ∙ sum_append (zip_with (λ (a : ℤ) (b : ℕ). nat_abs a * b) xs ys) (zip_with (λ (a : ℤ) (b : ℕ). nat_abs a * b) us vs)
