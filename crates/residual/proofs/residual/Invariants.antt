use Rattle.std.specs.Prelude.{◌≡◌}
use Rattle.optimum.specs.Optimum.{largest_n}
use Rattle.residual.specs.Terms.{difference_at}
use Rattle.residual.proofs.residual.Given as goal

abbrev pub invariant-loop-i : goal.invariant-loop-i
invariant-loop-i l = l.r ≡ largest_n (difference_at l.m l.t l.z) l.i
