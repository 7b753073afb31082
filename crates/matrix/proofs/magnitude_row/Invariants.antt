use Rattle.std.specs.Prelude.{pos, nat_abs, get_or}
use Rattle.array.specs.Arrays.{Filled}
use Rattle.matrix.proofs.magnitude_row.Given as goal

abbrev pub invariant-loop-j : goal.invariant-loop-j
invariant-loop-j l = Filled 0 l.j (λ j. nat_abs (get_or l.row j (pos 0))) l.r
