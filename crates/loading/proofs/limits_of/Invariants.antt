use Rattle.std.specs.Prelude.{pos}
use Rattle.image.specs.Layout.{lower_at, upper_at}
use Rattle.array.specs.Arrays.{Filled}
use Rattle.loading.proofs.limits_of.Given as goal

abbrev pub invariant-loop-i : goal.invariant-loop-i
invariant-loop-i l = Filled (pos 0) l.i (lower_at l.image.sizes l.image.bytes.now) l.lower × Filled (pos 0) l.i (upper_at l.image.sizes l.image.bytes.now) l.upper
