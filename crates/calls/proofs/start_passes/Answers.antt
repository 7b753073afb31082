use Rattle.std.proofs.Common.{rules, ◌∙◌, sym}
use borrow.Author.Tests.{tests}
use Rattle.gradient.proofs.Chain.{all_of_range}
use Rattle.calls.proofs.Within.{start_test, start_to}
use Rattle.calls.proofs.start_passes.Goals as goal

pub returns : goal.returns
returns c =
    let a = c.args in
    let z = a.image.now.sizes in
    let s = a.image.now.bytes.now in
    all_of_range (start_test z s a.start.now) c.command_count.ensures c.all.ensures.ran (λ k t f m. search (rules, tests))
    ∙ sym (start_to z s a.start.now)
