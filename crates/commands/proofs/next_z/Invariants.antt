use Rattle.std.specs.Prelude.{pos}
use Rattle.array.specs.Arrays.{Filled}
use Rattle.commands.specs.Steps.{z_at}
use Rattle.commands.proofs.next_z.Given as goal

abbrev pub invariant-loop-i : goal.invariant-loop-i
invariant-loop-i l = Filled (pos 0) l.i (z_at l.m l.t l.y) l.new
