use Rattle.std.specs.Prelude.{◌≡◌, length}
use Rattle.image.specs.Layout.{problem_of}
use Rattle.solve.specs.Reached.{BoundsAt}
use Rattle.solve.proofs.bounds_after.Given as goal

abbrev pub invariant-loop : goal.invariant-loop
invariant-loop l = BoundsAt (problem_of l.image) l.counter l.e l.q × (length l.new ≡ 16)
