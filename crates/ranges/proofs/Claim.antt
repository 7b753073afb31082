-- Request 12, proved from the checks 7, 12, 13 and 14 alone, as demand 3 is: `enclosed` and `same` stand beside it. Assumes nothing.
use mathlib.Core.List.{List, map}
use Prim.Native.Nat.{ℕ}
use lib.Dec.{T}
use lib.IntN.{ℤ}
use Rattle.integer.proofs.Laws.{≤ℤ-trans}
use Rattle.word.specs.Format.{is_format}
use Rattle.word.proofs.Format.{format}
use Rattle.gradient.specs.Vector.{All1, nil1, cons1, All2, nil2, cons2}
use Rattle.gradient.specs.Problem.{Command, Problem}
use Rattle.gradient.specs.Scheme.{iterate}
use Rattle.gradient.specs.Demand.{formatted, ordered, headroom, start_within}
use Rattle.gradient.proofs.Tests.{is_true, ordered_all, headroom_all, start_all}
use Rattle.ranges.specs.Interval.{Interval, low, end_of, Encloses}
use Rattle.ranges.specs.Sweeps.{interval_iterate}
use Rattle.ranges.specs.Claim.{intervals_within, InOrder, IntervalInRange, IntervalBounded, Enclosure, IntervalClaim}
use Rattle.ranges.proofs.Enclosed.{enclosed}
use Rattle.ranges.proofs.Tests.{intervals_all, lows_enclosed}
use Rattle.ranges.proofs.Range.{SmallEnds, iterate_invariant, ends_in_range, rows_small, gains_small}

-- the lowest state lies between, and so each lowest is at most its highest
ordered_ends : {xs : List Interval} {vs : List ℤ} → All2 Encloses xs vs → InOrder xs
ordered_ends nil2 = nil1
ordered_ends (cons2 h t) = cons1 (≤ℤ-trans h.above h.below) (ordered_ends t)

module _ (p : Problem) (inputs : List Interval) (start : List ℤ) where
  -- "these carried values too never leave the word, nor their undivided sums 64 bits"
  pub in_range_lem : T (formatted p) → T (ordered p) → T (headroom p) → T (intervals_within p inputs) → T (start_within p start) → (k : ℕ) → IntervalInRange p inputs (interval_iterate p inputs start k)
  unfolding formatted
  in_range_lem f o h i s k =
      ends_in_range p inputs (format p.b p.W (is_true (is_format p.b p.W) f)) (headroom_all p h) (intervals_all p inputs i) (interval_iterate p inputs start k) (iterate_invariant p inputs (ordered_all p o) (start_all p start s) k)

  -- and their undivided sums leave room for both ends together
  pub small_rows : T (formatted p) → T (ordered p) → T (headroom p) → T (intervals_within p inputs) → T (start_within p start) → (k : ℕ) → All1 (λ (r : Command). SmallEnds r.row (interval_iterate p inputs start k).y) p.commands
  unfolding formatted
  small_rows f o h i s k =
      rows_small p inputs (format p.b p.W (is_true (is_format p.b p.W) f)) (headroom_all p h) (intervals_all p inputs i) (interval_iterate p inputs start k) (iterate_invariant p inputs (ordered_all p o) (start_all p start s) k)

  pub small_gains : T (formatted p) → T (ordered p) → T (headroom p) → T (intervals_within p inputs) → T (start_within p start) → All1 (λ (r : Command). SmallEnds r.gains inputs) p.commands
  unfolding formatted
  small_gains f o h i s =
      gains_small p inputs (format p.b p.W (is_true (is_format p.b p.W) f)) (headroom_all p h) (intervals_all p inputs i) (interval_iterate p inputs start 0) (iterate_invariant p inputs (ordered_all p o) (start_all p start s) 0)

  -- both carried commands are inside their limits
  pub inside_limits : T (ordered p) → T (start_within p start) → (k : ℕ) → IntervalBounded p (interval_iterate p inputs start k)
  inside_limits o s k = (iterate_invariant p inputs (ordered_all p o) (start_all p start s) k).inside

  lowest_between : T (ordered p) → T (intervals_within p inputs) → (k : ℕ) → Enclosure (interval_iterate p inputs start k) (iterate p (map (end_of low) inputs) start k)
  lowest_between o i k = enclosed p o inputs (map (end_of low) inputs) start (lows_enclosed p inputs i) k

  -- the whole claim, for every number of sweeps
  pub interval_claim : T (formatted p) → T (ordered p) → T (headroom p) → T (intervals_within p inputs) → T (start_within p start) → (k : ℕ) → IntervalClaim p inputs start k
  interval_claim f o h i s k = record {
    in_range = λ j l. in_range_lem f o h i s j;
    bounded = inside_limits o s k;
    z_order = ordered_ends (lowest_between o i k).z_between;
    y_order = ordered_ends (lowest_between o i k).y_between;
    between = λ values e. enclosed p o inputs values start e k;
  }
