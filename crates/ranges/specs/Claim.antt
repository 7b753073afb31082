-- Request 12 of document 02 as one claim about the whole carried solve. What is given are tests that compute. Assumes nothing.
use Rattle.std.specs.Prelude.{Bool, ◌&&◌, List, map, ℕ, ◌+◌, ◌≤◌, leb, ℤ, pos, nat_abs, ◌≤ℤ◌}
use Rattle.std.specs.Int.Signed.{le_z}
use Rattle.gradient.specs.Vector.{All1, All2}
use Rattle.gradient.specs.Problem.{Command, Problem, F}
use Rattle.gradient.specs.Scheme.{Iterate, product, products, iterate}
use Rattle.gradient.specs.Demand.{every2, Inside, InWord, RunningSums}
use Rattle.ranges.specs.Interval.{Interval, degenerate, End, end_of, Encloses, taken_ends}
use Rattle.ranges.specs.Sweeps.{IntervalIterate, row_interval, linear_interval, unclamped_interval, interval_iterate}

-- not "a low above its high, or an end beyond the state limit"
unfoldable pub interval_within : Interval → ℕ → Bool
interval_within x b = le_z x.lowest x.highest && (leb (nat_abs x.lowest) b && leb (nat_abs x.highest) b)

-- check 13 passed: as many ranges as bounds, each within its own
unfoldable pub intervals_within : Problem → List Interval → Bool
intervals_within p inputs = every2 interval_within inputs p.input_limits

-- ---- "these carried values too never leave the word, nor their undivided sums 64 bits"
-- of both ends
abbrev pub Ends : (ℤ → Type 0) → Interval → Type 0
Ends P x = (e : End) → P (end_of e x)

-- every sum of neighbouring products of a row, of those that give the lowest sum and of those that give the highest
abbrev pub RunningEnds : List ℤ → List Interval → Type 0
RunningEnds row ys = (e : End) → RunningSums (products row (taken_ends e row ys))

-- of the carried iterates s, and of the sweep that is made from them
pub record IntervalInRange (p : Problem) (inputs : List Interval) (s : IntervalIterate) : Type 0 where
  pub z_word : All1 (Ends (InWord p)) s.z
  pub y_word : All1 (Ends (InWord p)) s.y
  pub row_sums : All1 (λ (r : Command). RunningEnds r.row s.y) p.commands
  pub linear_sums : All1 (λ (r : Command). RunningEnds r.gains inputs) p.commands
  pub row_word : All1 (λ (r : Command). Ends (InWord p) (row_interval (F p) r.row s.y)) p.commands
  pub linear_word : All1 (λ (r : Command). Ends (InWord p) (linear_interval p inputs r)) p.commands
  pub t_word : All1 (λ (r : Command). Ends (InWord p) (unclamped_interval p inputs s.y r)) p.commands
  pub new_products : All1 (Ends (λ (z : ℤ). InWord p (product (F p) (pos (F p + p.momentum)) z))) s.z
  pub old_products : All1 (Ends (λ (z : ℤ). InWord p (product (F p) (pos p.momentum) z))) s.z

-- both carried commands are inside the limits
unfoldable pub IntervalBounded : Problem → IntervalIterate → Type 0
IntervalBounded p s = All2 (λ (r : Command). Ends (Inside r)) p.commands s.z

-- each lowest is at most its highest
abbrev pub InOrder : List Interval → Type 0
InOrder xs = All1 (λ (x : Interval). x.lowest ≤ℤ x.highest) xs

-- "the ordinary solve's commands lie between the two sequences", and its y too
pub record Enclosure (x : IntervalIterate) (s : Iterate) : Type 0 where
  pub z_between : All2 Encloses x.z s.z
  pub y_between : All2 Encloses x.y s.y

-- after k sweeps: in range the start and every carried iterate so far, with the sweep that is made from it; and "for every state inside the
-- ranges, the ordinary solve's commands lie between the two sequences after each sweep, start and target being the same"
pub record IntervalClaim (p : Problem) (inputs : List Interval) (start : List ℤ) (k : ℕ) : Type 0 where
  pub in_range : (j : ℕ) → j ≤ k → IntervalInRange p inputs (interval_iterate p inputs start j)
  pub bounded : IntervalBounded p (interval_iterate p inputs start k)
  pub z_order : InOrder (interval_iterate p inputs start k).z
  pub y_order : InOrder (interval_iterate p inputs start k).y
  pub between : (values : List ℤ) → All2 Encloses inputs values → Enclosure (interval_iterate p inputs start k) (iterate p values start k)

-- "ranges of one value give that solve's commands twice": that solve's z and y, each as both ends
abbrev pub degenerate_iterate : Iterate → IntervalIterate
degenerate_iterate s = record { z = map degenerate s.z; y = map degenerate s.y }
