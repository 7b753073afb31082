-- An array that a loop fills from the front. Assumes nothing.
use mathlib.Core.Path.{◌≡◌, sym, ap, ◌∙◌}
use mathlib.Core.Bool.{Bool, true}
use mathlib.Core.List.{List}
use Prim.Native.Nat.{ℕ, ◌+◌, ◌≤◌, ◌<◌}
use native.Mathlib.Omega.{arith}
use lib.ListN.{length, set, length-set, get_or}
use lib.Seq.{get_or-set_other, set-get_or, ext_get_or}
use Rattle.integer.proofs.Fill.{store_more}
use Rattle.array.specs.Arrays.{Filled}

-- one element more
pub filled_more : {A : Type 0} (d : A) (f : ℕ → A) {i : ℕ} {l : List A} (v : A) → i < 16 → Filled d i f l → v ≡ f i → Filled d (i + 1) f (set l i v)
filled_more d f {i} {l} v h s e = record { sized = length-set l i v ∙ s.sized; each = store_more (λ (k : ℕ) x. x ≡ f k) l i v d (omega (arith, s.sized)) s.each e }

-- an array given by index that a loop fills in place of what it held: from i on it is as it was (of any fact of each element: Replacing)
pub record ReplacingByIndex {A : Type 0} (d : A) (f : ℕ → A) (i : ℕ) (old l : List A) : Type 0 where
  pub front : Filled d i f l
  pub rest : (k : ℕ) → i ≤ k → get_or l k d ≡ get_or old k d

pub replaced_by_index : {A : Type 0} (d : A) (f : ℕ → A) {i : ℕ} {old l : List A} (v : A) → i < 16 → ReplacingByIndex d f i old l → v ≡ f i → ReplacingByIndex d f (i + 1) old (set l i v)
replaced_by_index d f {i} {old} {l} v h s e = record {
  front = filled_more d f v h s.front e;
  rest = λ k b. get_or-set_other l i k v d (λ q. omega arith) ∙ s.rest k (omega arith);
}

-- what is stored is what stood there, in an array that was as before
pub stored_same : {A : Type 0} (d : A) {old l : List A} (i : ℕ) {v : A} → l ≡ old → v ≡ get_or l i d → set l i v ≡ old
stored_same d {old} {l} i p e = ap (set l i) e ∙ set-get_or l i d ∙ p

-- two arrays given by index that a loop fills in place of what they held, and a flag: where it is true, both are as they were
pub record StoringByIndex {A : Type 0} (d : A) (f g : ℕ → A) (i : ℕ) (x₀ y₀ x y : List A) (same : Bool) : Type 0 where
  pub first : ReplacingByIndex d f i x₀ x
  pub second : ReplacingByIndex d g i y₀ y
  pub kept : same ≡ true → (x ≡ x₀) × (y ≡ y₀)

-- one more of each, and a flag that says more
pub storing_by_index : {A : Type 0} (d : A) (f g : ℕ → A) {i : ℕ} {x₀ y₀ x y : List A} {same same' : Bool} (v w : A) → i < 16 → StoringByIndex d f g i x₀ y₀ x y same → v ≡ f i → w ≡ g i
    → (same' ≡ true → (same ≡ true) × ((v ≡ get_or x i d) × (w ≡ get_or y i d))) → StoringByIndex d f g (i + 1) x₀ y₀ (set x i v) (set y i w) same'
storing_by_index d f g {i} v w h s p q a = record {
  first = replaced_by_index d f v h s.first p;
  second = replaced_by_index d g w h s.second q;
  kept = λ e. let new = a e in
      let old = s.kept new.0 in
      (stored_same d i old.0 new.1.0, stored_same d i old.1 new.1.1);
}

-- two lists of n that one array holds
pub same_held : {A : Type 0} (d : A) {n : ℕ} {l l' a a' : List A} → length l ≡ n → length l' ≡ n → Filled d n (λ (i : ℕ). get_or l i d) a → Filled d n (λ (i : ℕ). get_or l' i d) a' → a' ≡ a → l' ≡ l
same_held {A} d {n} {l} {l'} e e' f f' same =
    ext_get_or d l' l (e' ∙ sym e) (λ i h. let b : i < n = omega arith in sym (f'.each i b) ∙ ap (λ (x : List A). get_or x i d) same ∙ f.each i b)
