-- An array that a loop fills from the front, for any fact of each element, and the loop's count and bound apart. Assumes nothing.
use mathlib.Core.Path.{◌≡◌, refl, ◌∙◌}
use mathlib.Core.Bool.{Bool, true}
use mathlib.Core.List.{List}
use Prim.Native.Nat.{ℕ, ◌+◌, ◌≤◌, ◌<◌}
use native.Mathlib.Nat.{not-suc-le-zero}
use native.Mathlib.Omega.{arith}
use lib.ListN.{length, set, length-set, get_or}
use lib.Seq.{get_or-set_other}
use Rattle.integer.proofs.Fill.{store_more}
use Rattle.array.specs.Arrays.{Filled}
use Rattle.array.proofs.Filling.{stored_same}

-- of the n elements that are to hold P, the first i do
pub record Filling {A : Type 0} (d : A) (P : ℕ → A → Type 0) (n i : ℕ) (l : List A) : Type 0 where
  pub below : i ≤ n
  pub sized : length l ≡ 16
  pub each : (k : ℕ) → k < i → P k (get_or l k d)

module _ {A : Type 0} (d : A) (P : ℕ → A → Type 0) where
  pub none : (n : ℕ) (l : List A) → length l ≡ 16 → Filling d P n 0 l
  none n l e = record { below = omega arith; sized = e; each = λ k h. absurd (not-suc-le-zero h) }

  pub more : {n i : ℕ} {l : List A} (v : A) → n ≤ 16 → i < n → Filling d P n i l → P i v → Filling d P n (i + 1) (set l i v)
  more {n} {i} {l} v few h s e = record { below = omega arith; sized = length-set l i v ∙ s.sized; each = store_more P l i v d (omega (arith, s.sized)) s.each e }

  pub all : {n i : ℕ} {l : List A} → n ≤ i → Filling d P n i l → (k : ℕ) → k < n → P k (get_or l k d)
  all {n} {i} h s k l = s.each k (omega (arith, s.below))

pub full : {A : Type 0} (d : A) (f : ℕ → A) {n i : ℕ} {l : List A} → n ≤ i → Filling d (λ (k : ℕ) (x : A). x ≡ f k) n i l → Filled d n f l
full d f h s = record { sized = s.sized; each = all d (λ (k : ℕ) x. x ≡ f k) h s }

-- an array that a loop fills in place of what it held: from i on it is as it was
pub record Replacing {A : Type 0} (d : A) (P : ℕ → A → Type 0) (n i : ℕ) (old l : List A) : Type 0 where
  pub filling : Filling d P n i l
  pub rest : (k : ℕ) → i ≤ k → get_or l k d ≡ get_or old k d

module _ {A : Type 0} (d : A) (P : ℕ → A → Type 0) where
  pub replaced_none : (n : ℕ) (l : List A) → length l ≡ 16 → Replacing d P n 0 l l
  replaced_none n l e = record { filling = none d P n l e; rest = λ k h. refl }

  pub replaced_more : {n i : ℕ} {old l : List A} (v : A) → n ≤ 16 → i < n → Replacing d P n i old l → P i v → Replacing d P n (i + 1) old (set l i v)
  replaced_more {n} {i} {old} {l} v few h s e = record {
    filling = more d P v few h s.filling e;
    rest = λ k b. get_or-set_other l i k v d (λ q. omega arith) ∙ s.rest k (omega arith);
  }

-- two arrays that a loop fills in place of what they held, and a flag: where it is true, both are as they were
pub record Storing {A : Type 0} (d : A) (f g : ℕ → A) (n i : ℕ) (x₀ y₀ x y : List A) (same : Bool) : Type 0 where
  pub first : Replacing d (λ (k : ℕ) (v : A). v ≡ f k) n i x₀ x
  pub second : Replacing d (λ (k : ℕ) (v : A). v ≡ g k) n i y₀ y
  pub kept : same ≡ true → (x ≡ x₀) × (y ≡ y₀)

module _ {A : Type 0} (d : A) (f g : ℕ → A) where
  pub storing_none : (n : ℕ) (x y : List A) (same : Bool) → length x ≡ 16 → length y ≡ 16 → Storing d f g n 0 x y x y same
  storing_none n x y same e e' = record { first = replaced_none d _ n x e; second = replaced_none d _ n y e'; kept = λ p. (refl, refl) }

  -- one more of each, the flag going through two tests
  pub storing_more : {n i : ℕ} {x₀ y₀ x y : List A} {same then same' : Bool} (v w : A) → n ≤ 16 → i < n → Storing d f g n i x₀ y₀ x y same → v ≡ f i → w ≡ g i
      → (then ≡ true → (same ≡ true) × (v ≡ get_or x i d)) → (same' ≡ true → (then ≡ true) × (w ≡ get_or y i d)) → Storing d f g n (i + 1) x₀ y₀ (set x i v) (set y i w) same'
  storing_more {i = i} v w few h s p q a b = record {
    first = replaced_more d _ v few h s.first p;
    second = replaced_more d _ w few h s.second q;
    kept = λ e. let new_y = b e in
        let new-x = a new_y.0 in
        let old = s.kept new-x.0 in
        (stored_same d i old.0 new-x.1, stored_same d i old.1 new_y.1);
  }
