use Rattle.std.proofs.Common.{arith, rules, ◌≤◌}
use Rattle.lent.proofs.Products.{sum_more}
use Rattle.lent.proofs.row_product.Goals as goal

pub loop-k-preserved : goal.loop-k-preserved
loop-k-preserved c =
    let l = c.loop-k in
    let a = c.word_at in
    let b = c.word_at-in-loop-k in
    let m = sum_more l.k _ a.result b.result c.requires.0 c.requires.1 c.loop-k-test.true a.ensures.0 b.ensures.0 l.invariant.0 l.invariant.1 in
    let few : l.k ≤ 15 = omega (arith, c.requires.0.few) in
    search rules
