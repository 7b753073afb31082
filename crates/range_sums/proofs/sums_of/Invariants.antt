use Rattle.std.specs.Prelude.{pos}
use Rattle.array.specs.Arrays.{Filled}
use Rattle.range_sums.specs.Ends.{sum_at}
use Rattle.range_sums.proofs.sums_of.Given as goal

abbrev pub invariant-loop-j : goal.invariant-loop-j
invariant-loop-j l = Filled (pos 0) l.j (sum_at l.lows l.highs) l.r
