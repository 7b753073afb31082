use native.Mathlib.Omega.{arith}
use mathlib.Core.Path.{refl, ◌∙◌}
use Rattle.word.proofs.Words.{nat_read}
use Rattle.word.proofs.nat_at.Goals as goal

pub returns : goal.returns
returns c =
    let a = c.args in
    (c.from.ensures ∙ c.from_be_bytes.ensures ∙ nat_read a.s.now a.at refl refl refl refl, omega arith)
