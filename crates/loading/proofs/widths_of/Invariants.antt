use Rattle.array.specs.Arrays.{Filled}
use Rattle.loading.specs.Tables.{width_at}
use Rattle.loading.proofs.widths_of.Given as goal

abbrev pub invariant-loop-i : goal.invariant-loop-i
invariant-loop-i l = Filled 0 l.i (width_at l.image.sizes l.image.bytes.now) l.r
