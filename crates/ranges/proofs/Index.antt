-- By index: what code with arrays of lowest and highest values needs of the carried lists. Assumes nothing.
use mathlib.Core.Path.{◌≡◌, ◌∙◌}
use mathlib.Core.List.{List, map}
use Prim.Native.Nat.{ℕ, zero, suc, ◌<◌}
use lib.IntN.{ℤ}
use lib.ListN.{length, length-map, get_or}
use Rattle.gradient.specs.Problem.{Command, Problem}
use Rattle.gradient.proofs.Vector.{map_at, zip_at}
use Rattle.gradient.proofs.Lengths.{joined}
use Rattle.ranges.specs.Interval.{Interval, degenerate}
use Rattle.ranges.specs.Sweeps.{IntervalIterate, next_z_interval, next_y_interval, interval_step, interval_iterate}

-- ---- a sweep
module _ (p : Problem) (inputs : List Interval) (s : IntervalIterate) (r : Command) (d : Interval) (i : ℕ) (h : i < length p.commands) where
  pub step_z_at : get_or (interval_step p inputs s).z i d ≡ next_z_interval p inputs s.y (get_or p.commands i r)
  unfolding interval_step
  step_z_at = map_at (next_z_interval p inputs s.y) p.commands i r d h

  pub step_y_at : i < length s.z → get_or (interval_step p inputs s).y i d ≡ next_y_interval p (get_or (interval_step p inputs s).z i d) (get_or s.z i d)
  unfolding interval_step
  step_y_at k =
      zip_at (next_y_interval p) (map (next_z_interval p inputs s.y) p.commands) s.z i d d d (rw (length-map p.commands (next_z_interval p inputs s.y)) h) k

-- ---- lengths
module _ (p : Problem) (inputs : List Interval) (start : List ℤ) (e : length start ≡ length p.commands) where
  pub z_length : (k : ℕ) → length (interval_iterate p inputs start k).z ≡ length p.commands
  unfolding interval_iterate interval_step
  z_length zero = length-map start degenerate ∙ e
  z_length (suc k) = length-map p.commands (next_z_interval p inputs (interval_iterate p inputs start k).y)

  pub y_length : (k : ℕ) → length (interval_iterate p inputs start k).y ≡ length p.commands
  unfolding interval_iterate interval_step
  y_length zero = length-map start degenerate ∙ e
  y_length (suc k) = joined p (next_z_interval p inputs (interval_iterate p inputs start k).y) (next_y_interval p) (interval_iterate p inputs start k).z (z_length k)
