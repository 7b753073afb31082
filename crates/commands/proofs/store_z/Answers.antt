use Rattle.std.proofs.Common.{arith, ◌≤◌, ◌^◌, get_or, pos, SFits, w64, nat_abs}
use Rattle.integer.proofs.Machine.{fit_abs}
use Rattle.std.proofs.Common.{to_z-of_z}
use Rattle.array.proofs.Filling.{replaced_by_index}
use Rattle.commands.proofs.Small.{kept_more}
use Rattle.commands.proofs.store_z.Goals as goal

pub loop-i-preserved : goal.loop-i-preserved
loop-i-preserved c =
    let i = c.loop-i.i in
    let small : nat_abs (get_or c.loop-i.z i (pos 0)) ≤ 2 ^ 31 = rw (c.loop-i.invariant.0.rest i (omega arith)) (c.requires.1.1.0 i (omega arith)) in
    let new : SFits w64 (get_or c.args.new.now i (pos 0)) = fit_abs (get_or c.args.new.now i (pos 0)) (omega (arith, c.requires.1.0 i (omega arith))) in
    let old : SFits w64 (get_or c.loop-i.z i (pos 0)) = fit_abs (get_or c.loop-i.z i (pos 0)) (omega (arith, small)) in
    (replaced_by_index (pos 0) _ _ (omega arith) c.loop-i.invariant.0 (to_z-of_z new), kept_more i (get_or c.args.new.now i (pos 0)) old c.loop-i.invariant.1)
