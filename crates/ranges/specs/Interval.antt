-- Request 12 of document 02: a value that is known "only within ranges". Assumes nothing.
use Rattle.std.specs.Prelude.{cond, List, map, ◌++◌, zero, ℤ, pos, ◌-ℤ◌, ◌≤ℤ◌}
use Rattle.std.specs.Int.Signed.{lt_z}
use Rattle.gradient.specs.Vector.{zip_with}

-- "a low and a high for each state value", "a lowest and a highest value"
pub record Interval : Type 0 where
  pub lowest : ℤ
  pub highest : ℤ

abbrev pub interval : ℤ → ℤ → Interval
interval low high = record { lowest = low; highest = high }

-- a range "of one value"
abbrev pub degenerate : ℤ → Interval
degenerate a = interval a a

-- an end by its name, and "the opposite end"
pub data End : Type 0 where
  low : End
  high : End

abbrev pub opposite : End → End
opposite low = high
opposite high = low

abbrev pub end_of : End → Interval → ℤ
end_of low x = x.lowest
end_of high x = x.highest

-- a value "inside the ranges"
pub record Encloses (x : Interval) (a : ℤ) : Type 0 where
  pub above : x.lowest ≤ℤ a
  pub below : a ≤ℤ x.highest

-- one list of inputs: the state's ranges, then the target, of which each value is one: "start and target being the same"
unfoldable pub input_intervals : List Interval → List ℤ → List Interval
input_intervals ranges target = ranges ++ map degenerate target

-- what a factor takes for an end of the sum: that end, but "a negative factor takes the opposite end"
unfoldable pub taken_end : End → ℤ → Interval → ℤ
taken_end e factor x = cond (lt_z factor (pos zero)) (end_of (opposite e) x) (end_of e x)

-- what the factors of a row take
abbrev pub taken_ends : End → List ℤ → List Interval → List ℤ
taken_ends e row ys = zip_with (taken_end e) row ys

-- the minus before h is such a factor: the lowest difference has the highest h
unfoldable pub interval_difference : Interval → Interval → Interval
interval_difference x y = interval (x.lowest -ℤ y.highest) (x.highest -ℤ y.lowest)
