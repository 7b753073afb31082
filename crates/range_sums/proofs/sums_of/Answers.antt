use Rattle.std.proofs.Common.{arith, pos}
use Rattle.std.proofs.lemmas.Int.{ints}
use Rattle.array.proofs.Filling.{filled_more}
use Rattle.range_sums.specs.Ends.{sum_at}
use Rattle.range_sums.proofs.sums_of.Goals as goal

pub loop-j-preserved : goal.loop-j-preserved
loop-j-preserved c = filled_more (pos 0) (sum_at c.args.lows.now c.args.highs.now) _ (omega arith) c.loop-j.invariant (omega (arith, ints, c.requires.lows_small c.loop-j.j c.loop-j-test.true, c.requires.highs_small c.loop-j.j c.loop-j-test.true))
