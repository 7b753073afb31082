use Rattle.array.specs.Arrays.{Filled}
use Rattle.range_sums.specs.Ends.{width_at}
use Rattle.range_sums.proofs.widths_of.Given as goal

abbrev pub invariant-loop-j : goal.invariant-loop-j
invariant-loop-j l = Filled 0 l.j (width_at l.lows l.highs) l.r
