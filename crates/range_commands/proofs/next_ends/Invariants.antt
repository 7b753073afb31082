use Rattle.std.specs.Prelude.{pos}
use Rattle.array.specs.Arrays.{Filled}
use Rattle.ranges.specs.Interval as end
use Rattle.range_commands.specs.Steps.{z_end}
use Rattle.range_commands.proofs.next_ends.Given as goal

abbrev pub invariant-loop-i : goal.invariant-loop-i
invariant-loop-i l = Filled (pos 0) l.i (z_end end.low l.m l.t l.y.low l.y.high) l.new.low × Filled (pos 0) l.i (z_end end.high l.m l.u l.y.low l.y.high) l.new.high
