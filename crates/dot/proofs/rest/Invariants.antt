use Rattle.std.specs.Prelude.{◌≡◌}
use Rattle.gradient.specs.Index.{sum_z, product_at}
use Rattle.dot.proofs.rest.Given as goal

abbrev pub invariant-loop-k : goal.invariant-loop-k
invariant-loop-k l = l.x ≡ sum_z (product_at l.r l.y) l.a l.k
