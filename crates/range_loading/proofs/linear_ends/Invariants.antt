use Rattle.std.specs.Prelude.{pos}
use Rattle.array.specs.Arrays.{Filled}
use Rattle.ranges.specs.Interval as end
use Rattle.range_loading.specs.Tables.{linear_end}
use Rattle.range_loading.proofs.linear_ends.Given as goal

abbrev pub invariant-loop-i : goal.invariant-loop-i
invariant-loop-i l = Filled (pos 0) l.i (linear_end end.low l.image.sizes l.image.bytes.now l.ranges l.target) l.low × Filled (pos 0) l.i (linear_end end.high l.image.sizes l.image.bytes.now l.ranges l.target) l.high
