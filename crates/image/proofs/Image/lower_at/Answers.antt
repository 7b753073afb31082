use native.Mathlib.Omega.{arith}
use mathlib.Core.Path.{◌≡◌, ap, ◌∙◌}
use Prim.Native.Nat.{◌+◌, ◌*◌}
use Rattle.integer.proofs.Machine.{back}
use Rattle.word.specs.Word.{word_at}
use Rattle.image.specs.Layout.{lower_at, lower_place}
use Rattle.image.proofs.Image.lower_at.Goals as goal

pub returns : goal.returns
unfolding lower_at
returns c =
    let a = c.args in
    let e : c.lower_place.result + 4 * a.k ≡ lower_place a.self.now.sizes + 4 * a.k = omega (arith, c.lower_place.ensures.0) in
    rw (back c.word_at.result c.word_at.type_inv) (c.word_at.ensures.0 ∙ ap (word_at a.self.now.bytes.now) e, c.word_at.ensures.1)
