use Rattle.std.specs.Prelude.{◌≡◌, ◌-◌}
use Rattle.interface.specs.Tables.{least_to, largest_to, margin_at, total_at}
use Rattle.momentum.proofs.extremes_of.Given as goal

abbrev pub invariant-loop-i : goal.invariant-loop-i
invariant-loop-i l = (l.margin ≡ least_to (margin_at l.image.sizes l.image.bytes.now) (l.i - 1)) × (l.total ≡ largest_to (total_at l.image.sizes l.image.bytes.now) (l.i - 1))
