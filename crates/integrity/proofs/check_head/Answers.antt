use Rattle.std.proofs.Common.{rules}
use Rattle.image.proofs.Sized.{sound_facts}
use Rattle.integrity.proofs.check_head.Goals as goal

pub body_count-requires : goal.body_count-requires
body_count-requires c = sound_facts _ (search rules)
