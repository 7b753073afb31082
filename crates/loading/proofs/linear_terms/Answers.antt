use Rattle.std.proofs.Common.{arith, ◌^◌, ◌∙◌, ap, ℤ, get_or, pos}
use Rattle.integer.specs.Round.{floor}
use Rattle.integer.proofs.Machine.{back}
use Rattle.array.proofs.Filling.{filled_more}
use Rattle.loading.specs.Tables.{linear_at}
use Rattle.loading.proofs.Tables.{linear_divided}
use Rattle.loading.proofs.linear_terms.Goals as goal

pub loop-i-preserved : goal.loop-i-preserved
loop-i-preserved c =
    let s = c.args in
    let i = c.loop-i.i in
    let q = c.floor_div in
    let x = get_or c.exact_terms-g.result i (pos 0) in
    let made = (rw (back x c.floor_div-arg-1.given) at q.ensures) ∙ ap (λ (h : ℤ). floor h (2 ^ s.image.now.sizes.b)) (c.exact_terms-g.ensures.each i (omega (arith, c.loop-i-test.true))) in
    filled_more (pos 0) (linear_at s.image.now.sizes s.image.now.bytes.now s.state.now s.target.now) _ (omega (arith, c.requires.whole.sizes.n_high)) c.loop-i.invariant
    (back q.result q.type_inv ∙ made ∙ linear_divided s.image.now.sizes s.image.now.bytes.now s.state.now s.target.now i)
