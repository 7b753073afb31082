use Rattle.std.specs.Prelude.{◌≡◌, ℕ, ◌<◌, [], length, get_or, pos}
use Rattle.image.specs.Layout.{entry_at}
use Rattle.array.specs.Arrays.{Filled}
use Rattle.matrix.proofs.matrix.Given as goal

abbrev pub invariant-loop-i : goal.invariant-loop-i
invariant-loop-i l = (length l.m ≡ 16) × ((k : ℕ) → k < l.i → Filled (pos 0) l.n (entry_at l.image.sizes l.image.bytes.now k) (get_or l.m k []))
