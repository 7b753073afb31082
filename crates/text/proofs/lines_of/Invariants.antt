use mathlib.Core.Path.{◌≡◌}
use Prim.Native.Nat.{◌*◌}
use lib.ListN.{length, take}
use Rattle.text.specs.Text.{lines}
use Rattle.text.proofs.lines_of.Given as goal

abbrev pub invariant-loop-k : goal.invariant-loop-k
invariant-loop-k l = (length l.bytes ≡ 560) × (take (l.size * l.k) l.bytes ≡ lines l.n l.answer l.k)
