use Rattle.std.proofs.Common.{arith, ◌∙◌, get_or, pos, SFits, w64, to_z-of_z}
use Rattle.integer.proofs.Machine.{back, fit_abs}
use Rattle.commands.specs.Steps.{unclamped_of, command_of}
use Rattle.commands.proofs.CommandTerms.command_at.Goals as goal

pub returns : goal.returns
unfolding command_of unclamped_of
returns c =
    let t = c.args.self.now in
    let i = c.args.i in
    let low : SFits w64 (get_or t.limits.lower i (pos 0)) = fit_abs (get_or t.limits.lower i (pos 0)) (omega (arith, c.requires.0.0.lowers i (omega arith))) in
    let high : SFits w64 (get_or t.limits.upper i (pos 0)) = fit_abs (get_or t.limits.upper i (pos 0)) (omega (arith, c.requires.0.0.uppers i (omega arith))) in
    let linear : SFits w64 (get_or t.linear i (pos 0)) = fit_abs (get_or t.linear i (pos 0)) (omega (arith, c.requires.0.0.linears i (omega arith))) in
    back c.command.result c.command.type_inv ∙ (rw (to_z-of_z c.ranges.sum, to_z-of_z low, to_z-of_z high, to_z-of_z linear) at c.command.ensures)
