use Rattle.std.proofs.Common.{rules, refl, ◌∙◌, sym}
use borrow.Author.Tests.{tests}
use Rattle.gradient.proofs.Chain.{all_of_range}
use Rattle.range_calls.proofs.Within.{range_test, ranges_to}
use Rattle.range_calls.proofs.ranges_within.Goals as goal

pub returns : goal.returns
returns c =
    let a = c.args in
    let z = a.image.now.sizes in
    let s = a.image.now.bytes.now in
    all_of_range (range_test z s a.ranges.now) refl c.all.ensures.ran (λ j t f k. search (rules, tests))
    ∙ sym (ranges_to z s a.ranges.now)
