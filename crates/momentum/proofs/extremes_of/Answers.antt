use Rattle.std.proofs.Common.{rules, arith, ◌≡◌, ◌-◌, ap, ◌∙◌}
use Rattle.image.specs.Sizes.{command_count}
use Rattle.interface.specs.Tables.{least_to, largest_to, margin_at, total_at, least_margin, largest_total}
use Rattle.momentum.proofs.Least.{least_kept, largest_kept}
use Rattle.momentum.proofs.extremes_of.Goals as goal

pub loop-i-preserved : goal.loop-i-preserved
loop-i-preserved c = (search (rules, least_kept), search (rules, largest_kept))

pub returns : goal.returns
unfolding least_margin largest_total
returns c =
    let a = c.args in
    let l = c.loop-i in
    let e : l.i - 1 ≡ command_count a.image.now.sizes - 1 = omega (arith, c.command_count-i-end.ensures) in
    (l.invariant.0 ∙ ap (least_to (margin_at a.image.now.sizes a.image.now.bytes.now)) e, l.invariant.1 ∙ ap (largest_to (total_at a.image.now.sizes a.image.now.bytes.now)) e)
