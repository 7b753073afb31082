use Rattle.std.specs.Prelude.{get_or}
use Rattle.array.proofs.Filling.{StoringByIndex}
use Rattle.bounds.specs.Steps.{q_at}
use Rattle.bounds.proofs.store.Given as goal

abbrev pub invariant-loop-i : goal.invariant-loop-i
invariant-loop-i l = StoringByIndex 0 (λ k. get_or l.new k 0) (q_at l.t l.new l.initial.e) l.i l.initial.e l.initial.q l.e l.q l.same
