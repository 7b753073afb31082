use Rattle.std.proofs.Common.{rules}
use Rattle.gradient.proofs.Chain.{all_of_range}
use Rattle.factors.specs.Form.{row_dominated, dominated_test}
use Rattle.image.specs.Sizes.{command_count}
use Rattle.lent.specs.Lent.{remainder_at}
use Rattle.remainders.proofs.rows_pass.Goals as goal

pub returns : goal.returns
unfolding dominated_test
returns c =
    let a = c.args in
    all_of_range (row_dominated (remainder_at a.v a.image.now.sizes a.image.now.bytes.now a.factors.now) (command_count a.image.now.sizes)) c.command_count.ensures c.all.ensures.ran (λ i t f k. search rules)
