-- 9 and 10: every row passes exactly where the least margin does, and the largest total; no margin is below the least. Assumes nothing.
use mathlib.Core.Path.{◌≡◌, refl, sym, ap, ◌∙◌}
use mathlib.Core.Bool.{Bool, true, false, cond, ◌&&◌}
use mathlib.Core.List.{List}
use mathlib.Core.Logic.{⊎_elim}
use Prim.Native.Nat.{ℕ, zero, suc, ◌-◌, ◌^◌, ◌≤◌, ◌<◌}
use native.Mathlib.Nat.{eq-or-lt_of_le, le_of_suc-le-suc}
use native.Mathlib.Omega.{arith}
use lib.IntN.{ℤ, pos, negsuc}
use lib.Signed.{le_z, le_z_yes, ◌≤ℤ◌}
use borrow.Author.Tests.{leb-false, le-leb}
use Rattle.integer.proofs.Parts.{whole}
use Rattle.integer.proofs.Laws.{≤ℤ-trans, ≤ℤ-of-≡}
use Rattle.integer.proofs.Tests.{is_true, of_true}
use Rattle.gradient.specs.Index.{all_to}
use Rattle.image.specs.declared.Sizes.{Sizes}
use Rattle.image.specs.Sizes.{command_count}
use Rattle.interface.specs.Tables.{margin_test, total_test, margin_at, total_at, min_z, least_to, largest_to, least_margin, largest_total}

-- the least by an order that is transitive and total; the largest is the least by the opposite order
module _ (le : ℤ → ℤ → Bool) (trans : (a c d : ℤ) → le a c ≡ true → le c d ≡ true → le a d ≡ true) (total : (a c : ℤ) → le a c ≡ false → le c a ≡ true) (k : ℤ) where
  lesser : (a c : ℤ) → le k a && le k c ≡ le k (cond (le a c) a c)
  lesser a c = by (le a c) (le k a) (le k c) refl refl refl
    where
      by : (t u v : Bool) → le a c ≡ t → le k a ≡ u → le k c ≡ v → u && v ≡ le k (cond t a c)
      by true true v e p q = sym q ∙ trans k a c p e ∙ sym p
      by true false v e p q = sym p
      by false true v e p q = sym q
      by false false true e p q = sym p ∙ trans k c a q (total a c e) ∙ sym q
      by false false false e p q = sym q

  -- of f 0 .. f n, where m is the least so far
  all_least : (f m : ℕ → ℤ) → m 0 ≡ f 0 → ((n : ℕ) → m (suc n) ≡ cond (le (m n) (f (suc n))) (m n) (f (suc n))) → (n : ℕ)
      → all_to (λ (i : ℕ). le k (f i)) (suc n) ≡ le k (m n)
  all_least f m first next zero = ap (le k) (sym first)
  all_least f m first next (suc n) = rw (all_least f m first next n) (lesser (m n) (f (suc n)) ∙ ap (le k) (sym (next n)))

transitive : (a c d : ℤ) → le_z a c ≡ true → le_z c d ≡ true → le_z a d ≡ true
transitive a c d p q =
    let h = le_z_yes {a = a} {b = c} (of_true p) in
    let k = le_z_yes {a = c} {b = d} (of_true q) in
    let l : a ≤ℤ d = omega (arith, whole) in
    is_true (le_z a d) l.le

total : (a c : ℤ) → le_z a c ≡ false → le_z c a ≡ true
total (pos a) (pos c) e = le-leb c a (omega (arith, leb-false a c e))
total (pos a) (negsuc c) e = refl
total (negsuc a) (pos c) e = sym e
total (negsuc a) (negsuc c) e = le-leb a c (omega (arith, leb-false c a e))

-- none is below the least
min_below : (a c : ℤ) → (min_z a c ≤ℤ a) × (min_z a c ≤ℤ c)
min_below a c = by (le_z a c) refl
  where
    by : (t : Bool) → le_z a c ≡ t → (cond t a c ≤ℤ a) × (cond t a c ≤ℤ c)
    by true e = (≤ℤ-of-≡ refl, le_z_yes (of_true e))
    by false e = (le_z_yes (of_true (total a c e)), ≤ℤ-of-≡ refl)

pub least_below : (f : ℕ → ℤ) (n i : ℕ) → i ≤ n → least_to f n ≤ℤ f i
least_below f zero zero h = ≤ℤ-of-≡ refl
least_below f zero (suc i) h = absurd (omega arith)
least_below f (suc n) i h =
    let m = min_below (least_to f n) (f (suc n)) in
    ⊎_elim (λ e. rw e m.1) (λ l. ≤ℤ-trans m.0 (least_below f n i (le_of_suc-le-suc l))) (eq-or-lt_of_le h)

module _ (z : Sizes) (s : List ℕ) (h : 0 < command_count z) where
  last : command_count z ≡ suc (command_count z - 1)
  last = omega arith

  pub margins_least : all_to (margin_test z s) (command_count z) ≡ le_z (pos 1) (least_margin z s)
  unfolding least_margin
  margins_least =
      ap (all_to (margin_test z s)) last
      ∙ all_least le_z transitive total (pos 1) (margin_at z s) (least_to (margin_at z s)) refl (λ n. refl) (command_count z - 1)

  pub totals_largest : all_to (total_test z s) (command_count z) ≡ le_z (largest_total z s) (pos (2 ^ z.b))
  unfolding largest_total
  totals_largest =
      ap (all_to (total_test z s)) last
      ∙ all_least (λ (a c : ℤ). le_z c a) (λ a c d p q. transitive d c a q p) (λ a c e. total c a e) (pos (2 ^ z.b)) (total_at z s) (largest_to (total_at z s)) refl (λ n. refl)
      (command_count z - 1)
