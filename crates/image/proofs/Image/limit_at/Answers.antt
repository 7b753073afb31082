use mathlib.Core.Path.{ap, ◌∙◌}
use Prim.Native.Nat.{ℕ, ◌+◌, ◌*◌}
use Rattle.integer.proofs.Machine.{back}
use Rattle.word.specs.Word.{word_at}
use Rattle.image.specs.Layout.{limit_at}
use Rattle.image.proofs.Image.limit_at.Goals as goal

pub returns : goal.returns
unfolding limit_at
returns c =
    let a = c.args in
    rw (back c.word_at.result c.word_at.type_inv) (c.word_at.ensures.0 ∙ ap (λ (k : ℕ). word_at a.self.now.bytes.now (k + 4 * a.j)) c.limits_from.ensures.0, c.word_at.ensures.1)
