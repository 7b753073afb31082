use Rattle.std.specs.Prelude.{◌≡◌, ◌+◌}
use Rattle.weight.specs.Sums.{weight_to}
use Rattle.weight.proofs.rest.Given as goal

abbrev pub invariant-loop-k : goal.invariant-loop-k
invariant-loop-k l = weight_to l.r l.q l.a + l.w ≡ weight_to l.r l.q (l.a + l.k)
