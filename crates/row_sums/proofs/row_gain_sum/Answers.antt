use Rattle.std.proofs.Common.{rules}
use Rattle.row_sums.specs.Terms.{gain_term}
use Rattle.row_sums.proofs.row_gain_sum.Goals as goal

pub returns : goal.returns
unfolding gain_term
returns c =
    let a = c.args in
    let row = c.requires.part.0 in
    let e = c.sum_terms.ensures (gain_term a.v a.image.now.sizes a.image.now.bytes.now a.i) (λ k x h p. search rules) in
    cc
