use Rattle.std.proofs.Common.{rules}
use Rattle.gradient.proofs.Chain.{all_of_range}
use Rattle.drive.specs.Calls.{idle_at}
use Rattle.drive_image.proofs.all_idle.Goals as goal

pub returns : goal.returns
returns c = all_of_range (idle_at c.args.drive.now) c.held_heads.ensures c.all.ensures.ran (λ x b q k. search rules)
