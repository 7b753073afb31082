-- Check 17 on a sheet: what the law of it states. Definitions only.
use Rattle.std.specs.Prelude.{not, ◌&&◌, List, ◌≡◌, ℕ, ◌+◌}
use Rattle.std.specs.Float.Ieee.{lt}
use Rattle.double.specs.Sides.{plus_zero}
use Rattle.image.specs.declared.Sizes.{Sizes}
use Rattle.image.specs.Sizes.{command_count}
use Rattle.interface.specs.Tables.{stop_test}
use Rattle.frame.specs.Frame.{low_base}
use Rattle.sheet.specs.Laws.{double_at}
use Rattle.sheet.specs.Sheet.{sheet_image}

-- the doubles as given decide: command k passes 17 exactly where neither the one given as its low is above 0 nor the one given as its high
-- below 0
abbrev pub GivenDecide : Sizes → List ℕ → ℕ → Type 0
GivenDecide z s k =
    stop_test z (sheet_image s) k ≡ not (lt plus_zero (double_at s (low_base z + k))) && not (lt (double_at s (low_base z + command_count z + k)) plus_zero)
