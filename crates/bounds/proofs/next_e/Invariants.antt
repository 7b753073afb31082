use Rattle.array.specs.Arrays.{Filled}
use Rattle.bounds.specs.Steps.{e_at}
use Rattle.bounds.proofs.next_e.Given as goal

abbrev pub invariant-loop-i : goal.invariant-loop-i
invariant-loop-i l = Filled 0 l.i (e_at l.magnitudes l.t l.q) l.new
