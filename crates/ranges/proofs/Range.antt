-- Request 12: "these carried values too never leave the word, nor their undivided sums 64 bits", and the carried commands stay inside their
-- limits. Assumes nothing.
use mathlib.Core.List.{List, map}
use Prim.Native.Nat.{ℕ, zero, suc, ◌^◌, ◌≤◌, ◌<◌}
use native.Mathlib.Nat.{le_trans}
use native.Mathlib.Omega.{arith}
use lib.IntN.{ℤ, nat_abs}
use lib.ListN.{take, drop}
use lib.Signed.{◌≤ℤ◌}
use Rattle.integer.specs.Round.{ceil, clamp}
use Rattle.integer.proofs.Laws.{abs_sub}
use Rattle.integer.proofs.Clamping.{clamped, clamped_lower, clamped_upper}
use Rattle.word.specs.Format.{top}
use Rattle.word.proofs.Format.{Format}
use Rattle.gradient.specs.Vector.{total, All1, All2, nil2, cons2}
use Rattle.gradient.specs.Problem.{Command, Problem, F}
use Rattle.gradient.specs.Scheme.{products}
use Rattle.gradient.specs.Bounds.{weight, range_p, range_y, range_a, range_b}
use Rattle.gradient.specs.Demand.{Inside, InWord}
use Rattle.gradient.proofs.Vector.{with_map, map_zip, second_all1, second_map, weaken1, weaken2}
use Rattle.gradient.proofs.Tests.{RangesFit}
use Rattle.gradient.proofs.Range.{inside_magnitude, old_product, new_product, y_bounded, start_small, F_top_most, running_most, running, divided}
use Rattle.ranges.specs.Interval.{Interval, degenerate, End, low, high, taken_ends, interval_difference}
use Rattle.ranges.specs.Sweeps.{IntervalIterate, row_interval, linear_interval, unclamped_interval, clamp_interval, next_z_interval, next_y_interval, interval_step, interval_iterate}
use Rattle.ranges.specs.Claim.{Ends, RunningEnds, IntervalInRange, IntervalBounded}
use Rattle.ranges.proofs.Interval.{degenerate_end, taken_abs_sum}
use Rattle.ranges.proofs.Tests.{Within}

-- ---- the invariant of the sweeps: both ends of each command in its limits, both ends of each y at most its Y
pub record IntervalInvariant (p : Problem) (s : IntervalIterate) : Type 0 where
  pub inside : IntervalBounded p s
  pub small : All2 (λ (r : Command). Ends (λ (a : ℤ). nat_abs a ≤ range_y p r)) p.commands s.y

-- intervals of one value
degenerates_all : {P : Command → ℤ → Type 0} {rs : List Command} {zs : List ℤ} → All2 P rs zs → All2 (λ (r : Command). Ends (P r)) rs (map degenerate zs)
degenerates_all nil2 = nil2
degenerates_all (cons2 {a = r} {b = z} h t) = cons2 {a = r} {b = degenerate z} (λ e. rw (degenerate_end e z) h) (degenerates_all t)

clamp_inside : (r : Command) (t : ℤ) → r.lower ≤ℤ r.upper → Inside r (clamp r.lower r.upper t)
clamp_inside r t b = let c = clamped r.lower r.upper t in record { above = clamped_lower b c; below = clamped_upper b c }

module _ (p : Problem) (inputs : List Interval) (box : All1 (λ (r : Command). r.lower ≤ℤ r.upper) p.commands) where
  next_ends_lem : (y : List Interval) (r : Command) → r.lower ≤ℤ r.upper → Ends (Inside r) (next_z_interval p inputs y r)
  unfolding next_z_interval clamp_interval
  next_ends_lem y r b low = clamp_inside r (unclamped_interval p inputs y r).lowest b
  next_ends_lem y r b high = clamp_inside r (unclamped_interval p inputs y r).highest b

  y_ends : (r : Command) (new old : Interval) → Ends (Inside r) new → Ends (Inside r) old → Ends (λ (a : ℤ). nat_abs a ≤ range_y p r) (next_y_interval p new old)
  unfolding next_y_interval
  y_ends r new old h k low = y_bounded p r new.lowest old.highest (h low) (k high)
  y_ends r new old h k high = y_bounded p r new.highest old.lowest (h high) (k low)

  step_invariant : (s : IntervalIterate) → IntervalInvariant p s → IntervalInvariant p (interval_step p inputs s)
  unfolding interval_step IntervalBounded
  step_invariant s h = record {
    inside = with_map (next_z_interval p inputs s.y) (λ r b. next_ends_lem s.y r b) box;
    small = map_zip _ _ (λ r old b i. y_ends r (next_z_interval p inputs s.y r) old (next_ends_lem s.y r b) i) box h.inside;
  }

  pub iterate_invariant : {start : List ℤ} → All2 Inside p.commands start → (k : ℕ) → IntervalInvariant p (interval_iterate p inputs start k)
  unfolding interval_iterate IntervalBounded
  iterate_invariant h zero = record { inside = degenerates_all h; small = degenerates_all (weaken2 (λ r z i. start_small p r z i) h) }
  iterate_invariant {start} h (suc k) = step_invariant (interval_iterate p inputs start k) (iterate_invariant h k)

-- every sum of neighbours, at either end, so small that both ends together are within 64 bits
abbrev pub SmallEnds : List ℤ → List Interval → Type 0
SmallEnds row ys = (e : End) (j k : ℕ) → nat_abs (total (take k (drop j (products row (taken_ends e row ys))))) < 2 ^ 51

-- ---- a row whose ends are at most bs, and whose sum of |a| × b over F, rounded up, is a word
module _ (p : Problem) (cs : List ℤ) {xs : List Interval} {bs : List ℕ} (h : All2 (λ (x : Interval) (b : ℕ). Ends (λ (a : ℤ). nat_abs a ≤ b) x) xs bs) where
  row_most : Ends (λ (a : ℤ). nat_abs a ≤ ceil (weight cs bs) (F p)) (row_interval (F p) cs xs)
  unfolding row_interval
  row_most low = divided p (products cs (taken_ends low cs xs)) (taken_abs_sum low cs h)
  row_most high = divided p (products cs (taken_ends high cs xs)) (taken_abs_sum high cs h)

  row_running : Format p.b p.W → ceil (weight cs bs) (F p) ≤ top p.W → RunningEnds cs xs
  row_running fmt c e = running p fmt (products cs (taken_ends e cs xs)) (taken_abs_sum e cs h) c

  row_small : Format p.b p.W → ceil (weight cs bs) (F p) ≤ top p.W → SmallEnds cs xs
  row_small fmt c e j k = omega (arith, running_most p (products cs (taken_ends e cs xs)) (taken_abs_sum e cs h) c j k, F_top_most p fmt.fraction_most fmt.width_most)

-- ---- what is claimed of words: of the carried iterates s of any sweep, and of the sweep that is made from them
module _ (p : Problem) (inputs : List Interval) (fmt : Format p.b p.W) (fit : All1 (RangesFit p) p.commands) (within : All2 Within inputs p.input_limits)
    (s : IntervalIterate) (h : IntervalInvariant p s) where
  inputs_ends : All2 (λ (x : Interval) (b : ℕ). Ends (λ (a : ℤ). nat_abs a ≤ b) x) inputs p.input_limits
  inputs_ends = weaken2 (λ x b w. w.ends) within

  y_ends_all : All2 (λ (x : Interval) (b : ℕ). Ends (λ (a : ℤ). nat_abs a ≤ b) x) s.y (map (range_y p) p.commands)
  y_ends_all = second_map (range_y p) (λ r y i. i) h.small

  row_a : (r : Command) → Ends (λ (a : ℤ). nat_abs a ≤ range_a p r) (row_interval (F p) r.row s.y)
  unfolding range_a
  row_a r = row_most p r.row y_ends_all

  row_b : (r : Command) → Ends (λ (a : ℤ). nat_abs a ≤ range_b p r) (linear_interval p inputs r)
  unfolding range_b linear_interval
  row_b r = row_most p r.gains inputs_ends

  running_a : (r : Command) → RangesFit p r → RunningEnds r.row s.y
  unfolding range_a
  running_a r o = row_running p r.row y_ends_all fmt (omega (arith, o.fits_ab))

  running_b : (r : Command) → RangesFit p r → RunningEnds r.gains inputs
  unfolding range_b
  running_b r o = row_running p r.gains inputs_ends fmt (omega (arith, o.fits_ab))

  pub rows_small : All1 (λ (r : Command). SmallEnds r.row s.y) p.commands
  unfolding range_a
  rows_small = weaken1 (λ r o. row_small p r.row y_ends_all fmt (omega (arith, o.fits_ab))) fit

  pub gains_small : All1 (λ (r : Command). SmallEnds r.gains inputs) p.commands
  unfolding range_b
  gains_small = weaken1 (λ r o. row_small p r.gains inputs_ends fmt (omega (arith, o.fits_ab))) fit

  t_ends : (r : Command) → RangesFit p r → Ends (InWord p) (unclamped_interval p inputs s.y r)
  unfolding unclamped_interval interval_difference InWord
  t_ends r o low = omega (arith, abs_sub (row_interval (F p) r.row s.y).lowest (linear_interval p inputs r).highest, row_a r low, row_b r high, o.fits_ab)
  t_ends r o high = omega (arith, abs_sub (row_interval (F p) r.row s.y).highest (linear_interval p inputs r).lowest, row_a r high, row_b r low, o.fits_ab)

  z_in : (r : Command) (z : ℤ) → RangesFit p r → Inside r z → InWord p z
  unfolding range_p InWord
  z_in r z o i = omega (arith, inside_magnitude i, o.fits_p)

  pub ends_in_range : IntervalInRange p inputs s
  unfolding InWord IntervalBounded
  ends_in_range = record {
    z_word = second_all1 (λ r x o i e. z_in r _ o (i e)) fit h.inside;
    y_word = second_all1 (λ r x o i e. le_trans (i e) o.fits_y) fit h.small;
    row_sums = weaken1 (λ r o. running_a r o) fit;
    linear_sums = weaken1 (λ r o. running_b r o) fit;
    row_word = weaken1 (λ r o e. omega (arith, row_a r e, o.fits_ab)) fit;
    linear_word = weaken1 (λ r o e. omega (arith, row_b r e, o.fits_ab)) fit;
    t_word = weaken1 (λ r o. t_ends r o) fit;
    new_products = second_all1 (λ r x o i e. le_trans (new_product p r _ (i e)) o.fits_p) fit h.inside;
    old_products = second_all1 (λ r x o i e. le_trans (old_product p r _ (i e)) o.fits_p) fit h.inside;
  }
