use Rattle.std.proofs.Common.{rules, ◌∙◌, sym}
use borrow.Author.Tests.{tests}
use Rattle.gradient.proofs.Chain.{all_of_range}
use Rattle.calls.proofs.Within.{value_test, values_to}
use Rattle.calls.proofs.values_pass.Goals as goal

pub returns : goal.returns
returns c =
    let a = c.args in
    let z = a.image.now.sizes in
    let s = a.image.now.bytes.now in
    all_of_range (value_test a.v z s a.values.now) c.input_count.ensures c.all.ensures.ran (λ j t f k. search (rules, tests))
    ∙ sym (values_to a.v z s a.values.now)
