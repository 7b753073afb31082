use Rattle.std.specs.Prelude.{◌≡◌, true, pos, ℕ, get_or}
use Rattle.array.proofs.Filling.{ReplacingByIndex}
use Rattle.commands.proofs.store_z.Given as goal

abbrev pub invariant-loop-i : goal.invariant-loop-i
invariant-loop-i l = ReplacingByIndex (pos 0) (λ (k : ℕ). get_or l.new k (pos 0)) l.i l.initial.z l.z × (l.same ≡ true → (l.before ≡ true) × (l.z ≡ l.initial.z))
