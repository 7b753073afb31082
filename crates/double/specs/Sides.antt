-- On which side of zero a limit lies, given and rounded: what the laws of it state. Definitions only.
use Rattle.std.specs.Prelude.{◌≡◌, ℕ, false, not, pos, int_le, Float}
use Rattle.std.specs.Float.{fin}
use Rattle.std.specs.Float.Ieee.{lt}
use Rattle.double.specs.Double.{rounded, round_up, round_down}

abbrev pub plus_zero : Float
plus_zero = fin false 0 (pos 0)

-- a low limit, rounded up, is above 0 exactly where it was given above 0
abbrev pub LowKeepsSide : ℕ → Float → Type 0
LowKeepsSide b x = int_le (rounded round_up b x) (pos 0) ≡ not (lt plus_zero x)

-- a high limit, rounded down, is below 0 exactly where it was given below 0
abbrev pub HighKeepsSide : ℕ → Float → Type 0
HighKeepsSide b x = int_le (pos 0) (rounded round_down b x) ≡ not (lt x plus_zero)
