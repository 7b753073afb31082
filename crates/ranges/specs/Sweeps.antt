-- Request 12 of document 02: "carry a lowest and a highest value through each sweep", "rounding and holding are as in a solve". Assumes nothing.
use Rattle.std.specs.Prelude.{List, map, ℕ, zero, suc, ℤ}
use Rattle.integer.specs.Round.{clamp}
use Rattle.gradient.specs.Vector.{zip_with}
use Rattle.gradient.specs.Problem.{Command, Problem, F}
use Rattle.gradient.specs.Scheme.{row_sum, next_y}
use Rattle.ranges.specs.Interval.{Interval, interval, degenerate, low, high, taken_ends, interval_difference}

-- a row's lowest and highest sum, each a row sum of a solve, "rounded down once": "rounding .. as in a solve"
unfoldable pub row_interval : ℕ → List ℤ → List Interval → Interval
row_interval f row ys = interval (row_sum f row (taken_ends low row ys)) (row_sum f row (taken_ends high row ys))

-- "h = Φ times the state", with its target part
unfoldable pub linear_interval : Problem → List Interval → Command → Interval
linear_interval p inputs r = row_interval (F p) r.gains inputs

-- "t = M y − h"
unfoldable pub unclamped_interval : Problem → List Interval → List Interval → Command → Interval
unclamped_interval p inputs y r = interval_difference (row_interval (F p) r.row y) (linear_interval p inputs r)

-- both ends "held to its limits": "holding .. as in a solve"
unfoldable pub clamp_interval : Command → Interval → Interval
clamp_interval r t = interval (clamp r.lower r.upper t.lowest) (clamp r.lower r.upper t.highest)

-- "new z = t held to its limits"
unfoldable pub next_z_interval : Problem → List Interval → List Interval → Command → Interval
next_z_interval p inputs y r = clamp_interval r (unclamped_interval p inputs y r)

-- "the y step takes new low with old high and the reverse"
unfoldable pub next_y_interval : Problem → Interval → Interval → Interval
next_y_interval p new old = interval (next_y p new.lowest old.highest) (next_y p new.highest old.lowest)

-- "a lowest and a highest value" for each z and each y
pub record IntervalIterate : Type 0 where
  pub z : List Interval
  pub y : List Interval

-- "a sweep"
unfoldable pub interval_step : Problem → List Interval → IntervalIterate → IntervalIterate
interval_step p inputs s =
    let new = map (next_z_interval p inputs s.y) p.commands in
    record { z = new; y = zip_with (next_y_interval p) new s.z }

-- after k sweeps, from a start that is one value: "start and target being the same"
unfoldable pub interval_iterate : Problem → List Interval → List ℤ → ℕ → IntervalIterate
interval_iterate p inputs start zero = record { z = map degenerate start; y = map degenerate start }
interval_iterate p inputs start (suc k) = interval_step p inputs (interval_iterate p inputs start k)
