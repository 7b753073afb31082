-- Ranges for the two samples. Assumes nothing.
use Rattle.std.specs.Prelude.{List, [], ◌∷◌, pos, neg_ℤ}
use Rattle.ranges.specs.Interval.{Interval, interval, input_intervals}

-- the state of S anywhere within its limit
unfoldable pub wide : List Interval
wide = input_intervals (interval (neg_ℤ (pos 10)) (pos 10) ∷ []) []

-- of the two commands: −6 to 3 and 2 to 9, with the target 5
unfoldable pub pair_ranges : List Interval
pair_ranges = input_intervals (interval (neg_ℤ (pos 6)) (pos 3) ∷ interval (pos 2) (pos 9) ∷ []) (pos 5 ∷ [])
