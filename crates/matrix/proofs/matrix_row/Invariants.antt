use Rattle.std.specs.Prelude.{pos}
use Rattle.image.specs.Layout.{entry_of}
use Rattle.array.specs.Arrays.{Filled}
use Rattle.matrix.proofs.matrix_row.Given as goal

abbrev pub invariant-loop-j : goal.invariant-loop-j
invariant-loop-j l = Filled (pos 0) l.j (entry_of l.b l.row l.i) l.r
