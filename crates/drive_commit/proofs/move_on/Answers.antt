use Rattle.std.proofs.Common.{◌≤◌}
use Rattle.image.specs.Sizes.{command_count}
use Rattle.drive.specs.Layout.{held_image, held_answer}
use Rattle.drive.specs.Calls.{commit_drive}
use Rattle.drive.specs.Parts.{Moved}
use Rattle.drive.proofs.Parts.{next_is}
use Rattle.drive_commit.proofs.move_on.Goals as goal

-- what was made of the parts that were read is made of those that are held
pub returns : goal.returns
unfolding commit_drive
returns c =
    let z = c.held_image-image.result.sizes in
    let next = c.next_start-next in
    let few : command_count z ≤ 16 = c.held_image-image.result.whole.sizes.n_high in
    let moved : Moved z (held_image c.args.drive.now) (held_answer c.args.drive.now c.args.k) next.result = rw (c.held_image-image.ensures.0, c.held_answer.ensures.bytes) at next.ensures in
    let e = next_is z _ _ next.result few moved c.held_image-image.ensures.1 in
    cc (e, c.command_count-n.ensures)
