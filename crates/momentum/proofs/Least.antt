-- The least and the largest of a list by index. Assumes nothing.
use mathlib.Core.Path.{◌≡◌, ap}
use mathlib.Core.Bool.{Bool, true, false, cond}
use Prim.Native.Nat.{ℕ, zero, suc, ◌+◌, ◌-◌, ◌≤◌}
use native.Mathlib.Omega.{arith}
use lib.IntN.{ℤ}
use lib.Signed.{le_z}
use mir.Syntax.{w64}
use mir.Val.{SFits, to_z, of_z}
use mir.Facts.{to_z-of_z}
use Rattle.std.specs.Int.{int_min, int_max}
use Rattle.std.proofs.lemmas.Int.{ints}
use Rattle.interface.specs.Tables.{min_z, max_z, least_to, largest_to}

-- each is one of them
either : (P : ℤ → Type 0) (t : Bool) (a c : ℤ) → P a → P c → P (cond t a c)
either P true a c p q = p
either P false a c p q = q

module _ (P : ℤ → Type 0) (f : ℕ → ℤ) where
  pub least_one : (n : ℕ) → ((i : ℕ) → i ≤ n → P (f i)) → P (least_to f n)
  least_one zero h = h 0 (omega arith)
  least_one (suc n) h = either P (le_z (least_to f n) (f (suc n))) (least_to f n) (f (suc n)) (least_one n (λ i l. h i (omega arith))) (h (suc n) (omega arith))

  pub largest_one : (n : ℕ) → ((i : ℕ) → i ≤ n → P (f i)) → P (largest_to f n)
  largest_one zero h = h 0 (omega arith)
  largest_one (suc n) h = either P (le_z (f (suc n)) (largest_to f n)) (largest_to f n) (f (suc n)) (largest_one n (λ i l. h i (omega arith))) (h (suc n) (omega arith))

-- the step of a loop that has been through f 0 .. f (i - 1)
turn : (i : ℕ) → 1 ≤ i → i + 1 - 1 ≡ suc (i - 1)
turn i h = omega arith

same : (i : ℕ) → 1 ≤ i → suc (i - 1) ≡ i
same i h = omega arith

module _ (f : ℕ → ℤ) (i : ℕ) (h : 1 ≤ i) where
  pub least_next : least_to f (i + 1 - 1) ≡ min_z (least_to f (i - 1)) (f i)
  least_next = rw (turn i h) (ap (λ (k : ℕ). min_z (least_to f (i - 1)) (f k)) (same i h))

  pub largest_next : largest_to f (i + 1 - 1) ≡ max_z (largest_to f (i - 1)) (f i)
  largest_next = rw (turn i h) (ap (λ (k : ℕ). max_z (largest_to f (i - 1)) (f k)) (same i h))

-- std's words for the two
min_is : (a c : ℤ) → int_min a c ≡ min_z a c
min_is a c = grind (arith, ints)

max_is : (a c : ℤ) → int_max a c ≡ max_z a c
max_is a c = grind (arith, ints)

-- the same step on words of 64 bits, by the contracts of `min` and `max`
module _ (f : ℕ → ℤ) (i : ℕ) (r s v : ℤ) where
  pub least_kept : r ≡ int_min s (to_z w64 (of_z w64 v)) → s ≡ least_to f (i - 1) → v ≡ f i → SFits w64 v → SFits w64 r → 1 ≤ i
      → to_z w64 (of_z w64 r) ≡ least_to f (i + 1 - 1)
  least_kept e p q g k h = rw (least_next f i h, to_z-of_z k, e, min_is, to_z-of_z g) (λ k. min_z (p k) (q k))

  pub largest_kept : r ≡ int_max s (to_z w64 (of_z w64 v)) → s ≡ largest_to f (i - 1) → v ≡ f i → SFits w64 v → SFits w64 r → 1 ≤ i
      → to_z w64 (of_z w64 r) ≡ largest_to f (i + 1 - 1)
  largest_kept e p q g k h = rw (largest_next f i h, to_z-of_z k, e, max_is, to_z-of_z g) (λ k. max_z (p k) (q k))
