use Rattle.std.proofs.Common.{rules, arith, ◌≡◌, ap, ◌∙◌, pos, to_z, w64}
use Rattle.std.proofs.lemmas.Int.{ints}
use Rattle.integer.proofs.Machine.{back}
use Rattle.dominance.specs.Others.{others_in}
use Rattle.factors.specs.Form.{others}
use Rattle.image.specs.Sizes.{command_count}
use Rattle.lent.specs.Lent.{remainder_at}
use Rattle.remainders.proofs.Entries.{row_is}
use Rattle.remainders.proofs.row_passes.Goals as goal

pub returns : goal.returns
unfolding others
returns c =
    let a = c.args in
    let s = c.others-others in
    let r = c.remainder_at in
    let table = remainder_at a.v a.image.now.sizes a.image.now.bytes.now a.factors.now in
    let e : to_z w64 s.result ≡ pos s.result = omega (arith, ints, s.ensures.most, c.command_count-n.ensures) in
    let sum = s.ensures.sum (table a.i) (λ j x b q. search rules) ∙ ap (others_in (table a.i) a.i) c.command_count-n.ensures in
    row_is table (command_count a.image.now.sizes) a.i s.result _ _ e sum (back r.result r.type_inv ∙ r.ensures.0)
