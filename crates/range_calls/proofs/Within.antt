-- Check 13 of ranges by index, as a loop goes through them. Assumes nothing.
use mathlib.Core.Path.{◌≡◌}
use mathlib.Core.Bool.{Bool}
use mathlib.Core.List.{List}
use Prim.Native.Nat.{ℕ, ◌+◌, ◌*◌}
use lib.IntN.{pos, nat_abs}
use Rattle.word.specs.Word.{word_at}
use Rattle.gradient.specs.Index.{all_to}
use Rattle.gradient.proofs.Tests.{every2_to}
use Rattle.image.specs.declared.Sizes.{Sizes}
use Rattle.image.specs.declared.Input.TheVariants.{State}
use Rattle.image.specs.Layout.{limit_at, limits_of}
use Rattle.interface.proofs.Accept.{limits_count, input_limit_at}
use Rattle.ranges.specs.Interval.{interval, degenerate}
use Rattle.ranges.specs.Claim.{interval_within}
use Rattle.range_interface.specs.Calls.{ranges_of, ranges_within}
use Rattle.range_interface.proofs.Words.{intervals_count, interval_at}

abbrev pub range_test : Sizes → List ℕ → List ℕ → ℕ → Bool
range_test z image ranges j = interval_within (interval (word_at ranges (4 * j)) (word_at ranges (4 * z.nx + 4 * j))) (nat_abs (limit_at State z image j))

pub ranges_to : (z : Sizes) (image ranges : List ℕ) → ranges_within z image ranges ≡ all_to (range_test z image ranges) z.nx
unfolding ranges_within
ranges_to z image ranges =
    every2_to interval_within (ranges_of z ranges) (limits_of State z image) (degenerate (pos 0)) 0 z.nx (intervals_count z.nx ranges) (limits_count z image State) (range_test z image ranges)
    (λ j l. rw (interval_at z.nx ranges (degenerate (pos 0)) j l, input_limit_at z image State j l))
