-- The search finds the tables before the last. Assumes nothing.
use Rattle.std.proofs.Common.{◌∙◌}
use Rattle.frame.proofs.Laws.{due_9}
use Rattle.frame.proofs.due_at.Goals as goal

pub returns : goal.returns
returns c =
    let n = c.command_count-n.ensures in
    c.frame_due-2.ensures
    ∙ rw n
    (due_9 c.args.z c.args.i (rw n at c.if-i-n.false) (rw n at c.if-i-n-2.false) (rw n at c.if-i-n-3.false) (rw n at c.if-i-n-4.false)
    (rw n at c.if-i-lt1.false) (rw n at c.if-i-nx.false) (rw n at c.if-i-n-5.false) c.requires.1)
