use mathlib.Core.Path.{◌≡◌}
use Prim.Native.Nat.{◌*◌, ◌^◌, ◌≤◌}
use lib.IntN.{nat_abs}
use Rattle.gradient.specs.Index.{sum_z}
use Rattle.lent.specs.Lent.{term_at}
use Rattle.lent.proofs.row_product.Given as goal

abbrev pub invariant-loop-k : goal.invariant-loop-k
invariant-loop-k l = (l.s ≡ sum_z (term_at l.factors l.x l.y) 0 l.k) × (nat_abs l.s ≤ l.k * 2 ^ 40)
