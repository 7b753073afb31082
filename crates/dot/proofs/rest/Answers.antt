use Rattle.std.proofs.Common.{arith, ◌+◌}
use Rattle.dot.proofs.Sums.{single, join}
use Rattle.dot.proofs.rest.Goals as goal

-- the sum with the term of a turn
pub overflow_add-x : goal.overflow_add-x
overflow_add-x c = (join c.requires c.args.a c.loop-k.k 1 (omega arith) c.loop-k.invariant (single c.requires (c.args.a + c.loop-k.k) (omega arith) c.product-x.ensures)).fits

pub loop-k-preserved : goal.loop-k-preserved
loop-k-preserved c = (join c.requires c.args.a c.loop-k.k 1 (omega arith) c.loop-k.invariant (single c.requires (c.args.a + c.loop-k.k) (omega arith) c.product-x.ensures)).is
