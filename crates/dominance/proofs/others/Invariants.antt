use Rattle.std.specs.Prelude.{◌≡◌, ℕ, ℤ, ◌*◌, ◌^◌, ◌≤◌}
use Rattle.dominance.specs.Others.{others_in, Answers}
use Rattle.dominance.proofs.others.Given as goal

abbrev pub invariant-loop-j : goal.invariant-loop-j
invariant-loop-j g l =
    (l.sum ≤ l.j * 2 ^ 53) × ((row : ℕ → ℤ) → Answers (goal.F-post g l.entry) row l.j → l.sum ≡ others_in row l.i l.j)
