use Rattle.std.specs.Prelude.{◌≡◌, true, pos}
use Rattle.array.proofs.Filling.{ReplacingByIndex}
use Rattle.commands.specs.Steps.{y_at}
use Rattle.commands.proofs.store_y.Given as goal

abbrev pub invariant-loop-i : goal.invariant-loop-i
invariant-loop-i l = ReplacingByIndex (pos 0) (y_at l.b l.momentum l.new l.old) l.i l.initial.y l.y × (l.same ≡ true → (l.before ≡ true) × (l.y ≡ l.initial.y))
