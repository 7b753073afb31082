use mathlib.Core.Path.{◌≡◌, sym, subst, ◌∙◌}
use mir.Syntax.{w32}
use mir.Val.{SFits}
use Rattle.integer.specs.Round.{clamp}
use Rattle.integer.proofs.Clamping.{clamp_fits}
use Rattle.integer.proofs.Machine.{back}
use Rattle.image.specs.Layout.{lower_at, upper_at}
use Rattle.drive.specs.Move.{moved_at}
use Rattle.next_start.proofs.moved_at.Goals as goal

pub returns : goal.returns
unfolding moved_at
returns c =
    let a = c.args in
    let from = c.moved_from-from in
    let low = c.lower_at-low in
    let high = c.upper_at-high in
    let w = c.word_at in
    let e : c.clamp.result ≡ clamp low.result high.result w.result = rw (back low.result low.type_inv, back high.result high.type_inv, back w.result w.type_inv) at c.clamp.ensures in
    let l : low.result ≡ lower_at a.image.now.sizes a.image.now.bytes.now a.k = low.ensures.0 in
    let u : high.result ≡ upper_at a.image.now.sizes a.image.now.bytes.now a.k = high.ensures.0 in
    rw (back c.clamp.result c.clamp.type_inv) (
      e ∙ (rw (l, u, w.ensures.0, from.ensures.0)),
      subst (SFits w32) (sym e) (clamp_fits low.result high.result w.result low.ensures.1 high.ensures.1 w.ensures.1),
    )
