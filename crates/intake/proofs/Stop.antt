-- Check 17 on a sheet goes by its doubles. Assumes nothing.
use mathlib.Core.List.{List}
use mathlib.Core.Path.{◌≡◌}
use Prim.Native.Nat.{ℕ, ◌+◌, ◌<◌}
use Rattle.double.proofs.Sides.{low_keeps_side, high_keeps_side}
use Rattle.image.specs.Sizes.{command_count}
use Rattle.image.specs.Layout.{sizes_of}
use Rattle.frame.specs.Frame.{low_base}
use Rattle.sheet.specs.Laws.{double_at}
use Rattle.sheet.specs.Sheet.{sheet_image, sheet_number}
use Rattle.sheet.proofs.Limits.{own_limits}
use Rattle.intake.specs.Stop.{GivenDecide}

pub given_decide : (s : List ℕ) → sheet_number s ≡ 0 → (k : ℕ) → k < command_count (sizes_of (sheet_image s)) → GivenDecide (sizes_of (sheet_image s)) s k
given_decide s e k h =
    let z = sizes_of (sheet_image s) in
    let own = own_limits s e k h in
    rw (
      own.low.word_is,
      own.high.word_is,
      low_keeps_side z.b (double_at s (low_base z + k)) own.low.scales,
      high_keeps_side z.b (double_at s (low_base z + command_count z + k)) own.high.scales,
    )
