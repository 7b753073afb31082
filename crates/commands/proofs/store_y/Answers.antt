use Rattle.std.proofs.Common.{arith, ◌≤◌, ◌^◌, ◌∙◌, get_or, pos, SFits, w64, nat_abs, to_z-of_z}
use Rattle.integer.proofs.Machine.{back, fit_abs}
use Rattle.array.proofs.Filling.{replaced_by_index}
use Rattle.commands.proofs.Small.{kept_more}
use Rattle.commands.proofs.store_y.Goals as goal

pub loop-i-preserved : goal.loop-i-preserved
loop-i-preserved c =
    let i = c.loop-i.i in
    let small : nat_abs (get_or c.loop-i.y i (pos 0)) ≤ 2 ^ 31 = rw (c.loop-i.invariant.0.rest i (omega arith)) (c.requires.1.1.0 i (omega arith)) in
    let new : SFits w64 (get_or c.args.new.now i (pos 0)) = fit_abs (get_or c.args.new.now i (pos 0)) (omega (arith, c.requires.0.1.1 i (omega arith))) in
    let old : SFits w64 (get_or c.args.old.now i (pos 0)) = fit_abs (get_or c.args.old.now i (pos 0)) (omega (arith, c.requires.1.0 i (omega arith))) in
    let here : SFits w64 (get_or c.loop-i.y i (pos 0)) = fit_abs (get_or c.loop-i.y i (pos 0)) (omega (arith, small)) in
    let made = rw (to_z-of_z new, to_z-of_z old) at c.point-v.ensures in
    (replaced_by_index (pos 0) _ _ (omega arith) c.loop-i.invariant.0 (back c.point-v.result c.point-v.type_inv ∙ made), kept_more i c.point-v.result here c.loop-i.invariant.1)
