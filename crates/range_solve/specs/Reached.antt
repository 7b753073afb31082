-- The arrays of both ends after k iterations. Assumes nothing.
use Rattle.std.specs.Prelude.{List, ℕ, length, get_or, ℤ, pos}
use Rattle.gradient.specs.Problem.{Problem}
use Rattle.image.specs.Sizes.{command_count}
use Rattle.image.specs.Layout.{sizes_of}
use Rattle.array.specs.Arrays.{Filled}
use Rattle.ranges.specs.Interval.{Interval, degenerate, End, low, high, end_of}
use Rattle.ranges.specs.Sweeps.{interval_iterate}
use Rattle.range_interface.specs.Calls.{ranges_after}
use Rattle.range_sums.specs.declared.Ends.{Ends}

-- an array holds an end of n intervals
abbrev pub EndFilled : End → ℕ → List Interval → List ℤ → Type 0
EndFilled e n xs l = Filled (pos 0) n (λ (i : ℕ). end_of e (get_or xs i (degenerate (pos 0)))) l

-- both ends of z and y after k iterations
pub record CarriedAt (p : Problem) (inputs : List Interval) (start : List ℤ) (k : ℕ) (low-z high-z low-y high-y : List ℤ) : Type 0 where
  pub at_low_z : EndFilled low (length p.commands) (interval_iterate p inputs start k).z low-z
  pub at_high_z : EndFilled high (length p.commands) (interval_iterate p inputs start k).z high-z
  pub at_low_y : EndFilled low (length p.commands) (interval_iterate p inputs start k).y low-y
  pub at_high_y : EndFilled high (length p.commands) (interval_iterate p inputs start k).y high-y

-- the carried commands of a call after k iterations
pub record CarriedOf (image ranges target start : List ℕ) (k : ℕ) (r : Ends (List ℤ)) : Type 0 where
  pub lowest : EndFilled low (command_count (sizes_of image)) (ranges_after image ranges target start k) r.low
  pub highest : EndFilled high (command_count (sizes_of image)) (ranges_after image ranges target start k) r.high
