-- The test of the ranges as facts of each place; and every state inside them passes the ordinary test. Assumes nothing.
use mathlib.Core.Path.{◌≡◌, refl, ap, ◌∙◌}
use mathlib.Core.Bool.{Bool, true, false, ◌&&◌}
use mathlib.Core.List.{List, [], ◌∷◌, map, ◌++◌}
use Prim.Native.Nat.{ℕ, ◌≤◌, ◌<◌}
use native.Mathlib.Omega.{arith}
use lib.Dec.{T, leb}
use lib.IntN.{ℤ, nat_abs}
use lib.ListN.{length, get_or}
use lib.Signed.{◌≤ℤ◌, le_z, le_z_yes}
use borrow.Author.Tests.{leb-true, le-leb}
use Rattle.integer.specs.Parts.{int}
use Rattle.integer.proofs.Parts.{abs!, abs?, whole}
use Rattle.gradient.specs.Vector.{All2, nil2, cons2}
use Rattle.gradient.specs.Problem.{Problem}
use Rattle.gradient.specs.Demand.{every2}
use Rattle.gradient.proofs.Append.{every2_append}
use Rattle.gradient.proofs.Vector.{weaken2, all2_at, all2_length}
use Rattle.gradient.proofs.Tests.{is_true, of_true, both, every2_all, all_every2}
use Rattle.ranges.specs.Interval.{Interval, degenerate, low, high, end_of, input_intervals, Encloses}
use Rattle.ranges.specs.Claim.{Ends, interval_within, intervals_within}

-- a range that passes, with its bound
pub record Within (x : Interval) (b : ℕ) : Type 0 where
  pub ordered : x.lowest ≤ℤ x.highest
  pub ends : Ends (λ (a : ℤ). nat_abs a ≤ b) x

within_all : (xs : List Interval) (bs : List ℕ) → every2 interval_within xs bs ≡ true → All2 Within xs bs
unfolding interval_within
within_all xs bs t = weaken2 (λ x b e. within x b e) (every2_all _ xs bs t)
  where
    most : (x : Interval) (b : ℕ) → nat_abs x.lowest ≤ b → nat_abs x.highest ≤ b → Ends (λ (a : ℤ). nat_abs a ≤ b) x
    most x b h k low = h
    most x b h k high = k

    within : (x : Interval) (b : ℕ) → le_z x.lowest x.highest && (leb (nat_abs x.lowest) b && leb (nat_abs x.highest) b) ≡ true → Within x b
    within x b e =
        let g = both (le_z x.lowest x.highest) _ e in
        let h = both (leb (nat_abs x.lowest) b) (leb (nat_abs x.highest) b) g.1 in
        record { ordered = le_z_yes (of_true g.0); ends = most x b (leb-true _ _ h.0) (leb-true _ _ h.1) }

pub intervals_all : (p : Problem) (inputs : List Interval) → T (intervals_within p inputs) → All2 Within inputs p.input_limits
unfolding intervals_within
intervals_all p inputs t = within_all inputs p.input_limits (is_true _ t)

-- a value between two of magnitude at most b
between_most : (x : Interval) (a : ℤ) (b : ℕ) → Within x b → Encloses x a → nat_abs a ≤ b
between_most x a b w h =
    let l = abs? (int x.lowest) (w.ends low) in
    let u = abs? (int x.highest) (w.ends high) in
    abs! (int a) (omega (arith, whole, h.below)) (omega (arith, whole, h.above))

-- every value inside a range that passes is within the bound
pub enclosed_within : {xs : List Interval} {vs : List ℤ} (bs : List ℕ) → every2 interval_within xs bs ≡ true → All2 Encloses xs vs → every2 (λ (x : ℤ) (b : ℕ). leb (nat_abs x) b) vs bs ≡ true
enclosed_within {xs} {vs} bs t i = all_every2 _ (each i (within_all xs bs t))
  where
    each : {xs : List Interval} {vs : List ℤ} {bs : List ℕ} → All2 Encloses xs vs → All2 Within xs bs → All2 (λ (a : ℤ) (b : ℕ). leb (nat_abs a) b ≡ true) vs bs
    each nil2 nil2 = nil2
    each (cons2 {a = x} {b = a} h s) (cons2 {b = b} w t) = cons2 (le-leb (nat_abs a) b (between_most x a b w h)) (each s t)

-- ---- by index
module _ (p : Problem) (inputs : List Interval) where
  pub intervals_length : T (intervals_within p inputs) → length inputs ≡ length p.input_limits
  intervals_length t = all2_length (intervals_all p inputs t)

  pub intervals_at_lem : T (intervals_within p inputs) → (d : Interval) (c i : ℕ) → i < length inputs → Within (get_or inputs i d) (get_or p.input_limits i c)
  intervals_at_lem t d c i h = all2_at (intervals_all p inputs t) d c i h

-- a lowest value is inside its own range, where that is ordered
pub lows_enclosed : (p : Problem) (inputs : List Interval) → T (intervals_within p inputs) → All2 Encloses inputs (map (end_of low) inputs)
lows_enclosed p inputs t = each (intervals_all p inputs t)
  where
    each : {xs : List Interval} {bs : List ℕ} → All2 Within xs bs → All2 Encloses xs (map (end_of low) xs)
    each nil2 = nil2
    each (cons2 {a = x} w t) = cons2 {a = x} {b = x.lowest} (record { above = omega (arith, whole); below = w.ordered }) (each t)

-- ---- a range of one value passes when the value does; so ranges of the state and the one target pass when each part does
degenerate_within : (a : ℤ) (b : ℕ) → interval_within (degenerate a) b ≡ leb (nat_abs a) b
unfolding interval_within
degenerate_within a b =
    let h : a ≤ℤ a = omega (arith, whole) in
    ap (λ (t : Bool). t && (leb (nat_abs a) b && leb (nat_abs a) b)) (is_true (le_z a a) h.le) ∙ twice (leb (nat_abs a) b)
  where
    twice : (t : Bool) → t && t ≡ t
    twice true = refl
    twice false = refl

pub degenerates_within : (values : List ℤ) (bs : List ℕ) → every2 interval_within (map degenerate values) bs ≡ every2 (λ (x : ℤ) (b : ℕ). leb (nat_abs x) b) values bs
unfolding every2
degenerates_within [] [] = refl
degenerates_within [] (b ∷ bs) = refl
degenerates_within (a ∷ values) [] = refl
degenerates_within (a ∷ values) (b ∷ bs) = rw (degenerate_within a b, degenerates_within values bs) refl

pub inputs_within_lem : (ranges : List Interval) (target : List ℤ) (bs cs : List ℕ) → length ranges ≡ length bs
    → every2 interval_within (input_intervals ranges target) (bs ++ cs) ≡ every2 interval_within ranges bs && every2 (λ (x : ℤ) (b : ℕ). leb (nat_abs x) b) target cs
unfolding input_intervals
inputs_within_lem ranges target bs cs e =
    every2_append interval_within ranges (map degenerate target) bs cs e ∙ ap (λ (t : Bool). every2 interval_within ranges bs && t) (degenerates_within target cs)
