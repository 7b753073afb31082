use mathlib.Core.Path.{◌≡◌}
use Prim.Native.Nat.{◌<◌, ◌^◌}
use Rattle.hexadecimal.specs.Hex.{hex_at}
use Rattle.hexadecimal.proofs.hex_at.Given as goal

abbrev pub invariant-loop-i : goal.invariant-loop-i
invariant-loop-i l = (l.n < 16 ^ l.i) × (l.n ≡ hex_at l.i l.s l.at)
