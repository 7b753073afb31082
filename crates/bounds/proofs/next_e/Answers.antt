use Rattle.std.proofs.Common.{arith, ℕ, ◌+◌, ◌^◌, ◌∙◌, ap, min, get_or}
use lib.Pow.{pow_pos}
use Rattle.integer.specs.Round.{ceil}
use Rattle.integer.proofs.Floor.{ceil_most}
use Rattle.gradient.specs.Bounds.{slack}
use Rattle.array.proofs.Filling.{filled_more}
use Rattle.bounds.specs.Steps.{e_at}
use Rattle.bounds.proofs.next_e.Goals as goal

pub overflow_add-w : goal.overflow_add-w
overflow_add-w c = record { fits = omega (arith, c.ceil_div-w.ensures, ceil_most c.weight.result (pow_pos c.args.t.b), c.weight.ensures, (c.requires.0.1 c.loop-i.i (omega arith)).small) }

pub loop-i-preserved : goal.loop-i-preserved
unfolding e_at slack
loop-i-preserved c =
    filled_more 0 (e_at c.args.magnitudes.now c.args.t c.args.q.now) _ (omega arith) c.loop-i.invariant
    (c.min.ensures
    ∙ ap (λ (k : ℕ). min (get_or c.args.t.width c.loop-i.i 0) (k + slack))
    (c.ceil_div-w.ensures ∙ ap (λ (w : ℕ). ceil w (2 ^ c.args.t.b)) c.weight.ensures))
