use Rattle.std.proofs.Common.{arith}
use Rattle.std.proofs.lemmas.Int.{ints}
use Rattle.array.proofs.Filling.{filled_more}
use Rattle.range_sums.specs.Ends.{width_at}
use Rattle.range_sums.proofs.widths_of.Goals as goal

pub loop-j-preserved : goal.loop-j-preserved
loop-j-preserved c = filled_more 0 (width_at c.args.lows.now c.args.highs.now) _ (omega arith) c.loop-j.invariant (omega (arith, ints, c.unsigned_abs.ensures, c.requires.lows_small c.loop-j.j c.loop-j-test.true, c.requires.highs_small c.loop-j.j c.loop-j-test.true))
