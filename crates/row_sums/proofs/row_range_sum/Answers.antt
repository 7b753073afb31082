use Rattle.std.proofs.Common.{arith, rules}
use Rattle.row_sums.specs.Terms.{range_term}
use Rattle.row_sums.proofs.row_range_sum.Goals as goal

pub returns : goal.returns
unfolding range_term
returns c =
    let a = c.args in
    let row = c.requires.part.0 in
    let e = c.sum_terms.ensures (range_term a.image.now.sizes a.image.now.bytes.now a.i) (λ k x h p. let held = c.requires.ready.0.0.ranges.each k (omega arith) in search rules) in
    cc
