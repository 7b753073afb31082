use Rattle.std.specs.Prelude.{ℕ, ◌≤◌, ◌≡◌, min}
use Rattle.gradient.specs.Index.{sum_n}
use Rattle.row_sums.specs.Terms.{Answers}
use Rattle.row_sums.proofs.sum_terms.Given as goal

abbrev pub invariant-loop-j : goal.invariant-loop-j
invariant-loop-j g l = (l.s ≤ l.cap) × ((terms : ℕ → ℕ) → Answers (goal.F-post g l.term) terms l.j → l.s ≡ min (sum_n terms l.j) l.cap)
