use Rattle.std.specs.Prelude.{pos}
use Rattle.array.specs.Arrays.{Filled}
use Rattle.loading.specs.Tables.{exact_at}
use Rattle.loading.proofs.exact_terms.Given as goal

abbrev pub invariant-loop-i : goal.invariant-loop-i
invariant-loop-i l = Filled (pos 0) l.i (exact_at l.image.sizes l.image.bytes.now l.state l.target) l.r
