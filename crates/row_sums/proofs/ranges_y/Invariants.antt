use Rattle.std.specs.Prelude.{ℕ, ◌<◌, ◌≡◌, length, slice_index}
use Rattle.gradient.specs.Bounds.{range_y}
use Rattle.image.specs.Layout.{command_at, problem_at}
use Rattle.row_sums.proofs.ranges_y.Given as goal

abbrev pub invariant-loop-k : goal.invariant-loop-k
invariant-loop-k l = (length l.y ≡ 16) × ((k : ℕ) → k < l.k → slice_index l.y k ≡ range_y (problem_at l.image.sizes l.image.bytes.now) (command_at l.image.sizes l.image.bytes.now k))
