use mathlib.Core.Path.{sym, ◌∙◌}
use Rattle.frame.proofs.Sized.{head_sound}
use Rattle.page_text.proofs.design_count.Goals as goal

pub map_or-requires : goal.map_or-requires
map_or-requires c = λ z e. head_sound c.line_at.result z (sym c.head_of.ensures.0 ∙ e)
