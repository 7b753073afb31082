-- Checks 9 and 10 give that a gradient step brings any two sequences nearer: a row of M is the row of H with its sign turned, but for the
-- diagonal. Assumes nothing.
use mathlib.Core.Path.{◌≡◌, refl, ap, ◌∙◌}
use mathlib.Core.Bool.{Bool, true, false, cond}
use mathlib.Core.List.{List, [], ◌∷◌, map}
use mathlib.Core.Logic.{⊎_elim}
use Prim.Native.Nat.{ℕ, zero, suc, ◌+◌, ◌-◌, ◌^◌, ◌≤◌, ◌<◌}
use native.Mathlib.Nat.{eq-or-lt_of_le, le_of_suc-le-suc, not-suc-le-zero}
use native.Mathlib.Omega.{arith}
use lib.Dec.{eqb, leb, lit<}
use lib.IntN.{ℤ, pos, negsuc, nat_abs, neg_ℤ, ◌+ℤ◌, ◌-ℤ◌, +ℤ_idl}
use lib.ListN.{length, get_or}
use lib.Signed.{◌≤ℤ◌, le_z_yes}
use borrow.Author.Tests.{le-leb, eqb-true, eq-eqb}
use Rattle.integer.specs.Parts.{int, nat, ◌⊕◌, ◌⊖◌}
use Rattle.integer.proofs.Parts.{abs!, le?, whole}
use Rattle.integer.proofs.Laws.{abs_neg, ≤ℤ-trans, ≤ℤ-of-≡}
use Rattle.gradient.specs.Vector.{zip_with, sum}
use Rattle.gradient.specs.Index.{sum_n, all_to}
use Rattle.gradient.specs.Problem.{F}
use Rattle.gradient.proofs.Index.{sum_n_cong, zip_sum, tab_at}
use Rattle.gradient.proofs.Tests.{of_true, and_true, at_every, all_at}
use Rattle.optimum.specs.Optimum.{contracting}
use Rattle.image.specs.declared.Sizes.{Sizes}
use Rattle.image.specs.Sizes.{command_count}
use Rattle.image.specs.Layout.{sizes_of, cost_at, entry_of, entry_at, command_at, problem_at, problem_of}
use Rattle.image.specs.Checks.{head_number, body_number}
use Rattle.image.proofs.Ordering.{none, passed, both}
use Rattle.interface.specs.Tables.{order_test, stop_test, symmetry_test, others_at, margin_at, total_at, margin_test, total_test, distance_given, least_margin, margin_of, tables_number, image_number}
use Rattle.interface.specs.Calls.{solvable_number}
use Rattle.interface.specs.Accepted.{Solvable, Dominant}
use Rattle.interface.proofs.Accept.{head_whole, commands_length, command_at_lem, row_length}
use Rattle.interface.proofs.Demand.{solvable, solvable_image}
use Rattle.interface.proofs.Extremes.{margins_least, least_below}

-- ---- two sums whose terms differ at i alone
sum_n_but_one : (a b : ℕ → ℕ) (i n : ℕ) → i < n → ((j : ℕ) → (i ≡ j → ⊥) → b j ≡ a j) → sum_n b n + a i ≡ sum_n a n + b i
sum_n_but_one a b i zero h k = absurd (not-suc-le-zero h)
sum_n_but_one a b i (suc n) h k =
    ⊎_elim (λ e. rw e (omega (arith, sum_n_cong b a n (λ j l. k j (λ f. omega arith)))))
    (λ l. omega (arith, sum_n_but_one a b i n l k, k n (λ f. omega arith))) (eq-or-lt_of_le (le_of_suc-le-suc h))

-- ---- a row of M
neg_abs : (h : ℤ) → nat_abs (pos 0 -ℤ h) ≡ nat_abs h
neg_abs h = ap nat_abs (+ℤ_idl (neg_ℤ h)) ∙ abs_neg h

-- the diagonal: m ≤ h − o and h + o ≤ f
diagonal : (f m o : ℕ) (h : ℤ) → pos m ≤ℤ (h -ℤ pos o) → (h +ℤ pos o) ≤ℤ pos f → o + nat_abs (pos f -ℤ h) + m ≤ f
diagonal f m o h low high =
    let a = le? (nat m) (int h ⊖ nat o) low in
    let b = le? (int h ⊕ nat o) (nat f) high in
    let c : nat_abs (pos f -ℤ h) ≤ f - (o + m) = abs! (nat f ⊖ int h) (omega arith) (omega arith) in
    omega arith

-- the magnitudes of a row, by index
map_sum : (xs : List ℤ) → sum (map nat_abs xs) ≡ sum (zip_with (λ (a b : ℤ). nat_abs a) xs xs)
map_sum [] = refl
map_sum (x ∷ xs) = ap (λ (k : ℕ). nat_abs x + k) (map_sum xs)

row_sum_lem : (xs : List ℤ) (n : ℕ) → length xs ≡ n → sum (map nat_abs xs) ≡ sum_n (λ (j : ℕ). nat_abs (get_or xs j (pos 0))) n
row_sum_lem xs n e = map_sum xs ∙ zip_sum (λ (a b : ℤ). nat_abs a) xs xs (pos 0) (pos 0) n e e

module _ (z : Sizes) (s : List ℕ) (i : ℕ) where
  abbrev other : ℕ → ℕ
  other j = cond (eqb i j) 0 (nat_abs (cost_at z s i j))

  off_diagonal : (j : ℕ) → (i ≡ j → ⊥) → nat_abs (entry_at z s i j) ≡ other j
  unfolding entry_of
  off_diagonal j h = by (eqb i j) (λ e. h (eqb-true i j e))
    where
      by : (t : Bool) → (t ≡ true → ⊥) → nat_abs (cond t (pos (2 ^ z.b)) (pos 0) -ℤ cost_at z s i j) ≡ cond t 0 (nat_abs (cost_at z s i j))
      by true g = absurd (g refl)
      by false g = neg_abs (cost_at z s i j)

  on_diagonal : nat_abs (entry_at z s i i) ≡ nat_abs (pos (2 ^ z.b) -ℤ cost_at z s i i)
  unfolding entry_of
  on_diagonal = rw (eq-eqb i i refl) refl

  -- the magnitudes of a row of M leave m of 2^b, by index and as the problem has them
  row_contracts : (m : ℕ) → i < command_count z → pos m ≤ℤ margin_at z s i → total_at z s i ≤ℤ pos (2 ^ z.b)
      → sum_n (λ (j : ℕ). nat_abs (entry_at z s i j)) (command_count z) + m ≤ 2 ^ z.b
  unfolding margin_at total_at others_at
  row_contracts m l low high =
      omega (
        arith,
        diagonal (2 ^ z.b) m (others_at z s i) (cost_at z s i i) low high,
        on_diagonal,
        sum_n_but_one other (λ (j : ℕ). nat_abs (entry_at z s i j)) i (command_count z) l off_diagonal,
      )

  command_contracts : (m : ℕ) → i < command_count z → pos m ≤ℤ margin_at z s i → total_at z s i ≤ℤ pos (2 ^ z.b)
      → sum (map nat_abs (command_at z s i).row) + m ≤ 2 ^ z.b
  unfolding command_at
  command_contracts m l low high =
      omega (
        arith,
        row_sum_lem (command_at z s i).row (command_count z) (row_length z s i),
        sum_n_cong (λ (j : ℕ). nat_abs (get_or (command_at z s i).row j (pos 0))) (λ (j : ℕ). nat_abs (entry_at z s i j)) (command_count z)
            (λ j k. ap nat_abs (tab_at (entry_at z s i) (command_count z) j (pos 0) k)),
        row_contracts m l low high,
      )

-- ---- the least margin
pub natural : (x : ℤ) → pos 1 ≤ℤ x → (1 ≤ nat_abs x) × (pos (nat_abs x) ≡ x)
natural (pos n) h = (omega (arith, whole), refl)
natural (negsuc n) h = absurd h.le

module _ (z : Sizes) (s : List ℕ) (some : 1 ≤ command_count z) (nine : all_to (margin_test z s) (command_count z) ≡ true) (ten : all_to (total_test z s) (command_count z) ≡ true) where
  margin_positive : pos 1 ≤ℤ least_margin z s
  margin_positive = le_z_yes (rw (margins_least z s (omega arith)) at (of_true nine))

  margin_least : (i : ℕ) → i < command_count z → pos (nat_abs (least_margin z s)) ≤ℤ margin_at z s i
  unfolding least_margin
  margin_least i l = ≤ℤ-trans (≤ℤ-of-≡ (natural (least_margin z s) margin_positive).1) (least_below (margin_at z s) (command_count z - 1) i (omega arith))

  problem_contracts : contracting (problem_at z s) (nat_abs (least_margin z s)) ≡ true
  unfolding contracting F
  problem_contracts = at_every _ (problem_at z s).commands (command_at z s 0) (λ i h. row i (rw (commands_length z s) at h))
    where
      row : (i : ℕ) → i < command_count z
          → leb (sum (map nat_abs (get_or (problem_at z s).commands i (command_at z s 0)).row) + nat_abs (least_margin z s)) (2 ^ (problem_at z s).b) ≡ true
      row i l =
          rw (command_at_lem z s (command_at z s 0) i l)
          (unfold problem_at in
          le-leb _ _ (command_contracts z s i (nat_abs (least_margin z s)) l (margin_least i l) (le_z_yes (of_true (all_at (total_test z s) (command_count z) i l ten)))))

-- m as a natural
pub margin_count : (s : List ℕ) → Dominant s → 1 ≤ margin_of s
unfolding margin_of
margin_count s d = (natural (least_margin (sizes_of s) s) d.positive).0

-- tables that pass 9 and 10
pub dominant : (s : List ℕ) → 1 ≤ command_count (sizes_of s) → distance_given (sizes_of s) s ≡ true → Dominant s
unfolding distance_given margin_of problem_of
dominant s some e =
    let t = both (all_to (margin_test (sizes_of s) s) (command_count (sizes_of s))) (all_to (total_test (sizes_of s) s) (command_count (sizes_of s))) e in
    record {
      positive = margin_positive (sizes_of s) s some t.0 t.1;
      contracts = of_true (problem_contracts (sizes_of s) s some t.0 t.1);
    }

-- those of number 0 do
pub nine_ten : (z : Sizes) (s : List ℕ) → tables_number z s ≡ 0 → distance_given z s ≡ true
unfolding distance_given tables_number
nine_ten z s e =
    let n = command_count z in
    let a = passed (all_to (order_test z s) n) 7 _ (lit< tt) e in
    let b = passed (all_to (stop_test z s) n) 17 _ (lit< tt) a.1 in
    let c = passed (all_to (symmetry_test z s) n) 8 _ (lit< tt) b.1 in
    let d = passed (all_to (margin_test z s) n) 9 _ (lit< tt) c.1 in
    and_true d.0 (passed (all_to (total_test z s) n) 10 _ (lit< tt) d.1).0

-- so every accepted image does
pub accepted_dominant : (s : List ℕ) → image_number s ≡ 0 → Dominant s
unfolding image_number
accepted_dominant s e =
    let a = none (head_number s) _ e in
    dominant s (head_whole s a.0).sizes.n_low (nine_ten (sizes_of s) s (none (body_number (sizes_of s) s) (tables_number (sizes_of s) s) a.1).1)

-- what number 0 of a solve gives but for its buffer: all that its code asks, 9 and 10 among it
pub solvable_dominant : (image state target start : List ℕ) → solvable_number image state target start ≡ 0 → Solvable image state target start × Dominant image
solvable_dominant image state target start e = (solvable image state target start e, accepted_dominant image (solvable_image image state target start e))
