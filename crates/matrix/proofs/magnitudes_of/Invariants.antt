use Rattle.std.specs.Prelude.{◌≡◌, ℕ, ◌<◌, [], length, get_or, pos, nat_abs}
use Rattle.array.specs.Arrays.{Filled}
use Rattle.matrix.proofs.magnitudes_of.Given as goal

abbrev pub invariant-loop-i : goal.invariant-loop-i
invariant-loop-i l = (length l.r ≡ 16) × ((k : ℕ) → k < l.i → Filled 0 l.n (λ j. nat_abs (get_or (get_or l.m k []) j (pos 0))) (get_or l.r k []))
