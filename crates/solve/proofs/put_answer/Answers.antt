use native.Mathlib.Omega.{arith}
use mathlib.Core.Path.{ap, ◌∙◌}
use mathlib.Core.List.{List, ◌++◌}
use Prim.Native.Nat.{ℕ, ◌-◌}
use lib.ListN.{length, drop, length-drop}
use lib.Seq.{length-take-le}
use Rattle.word.specs.Word.{pattern_bytes}
use Rattle.word.proofs.Buffer.{put_behind}
use Rattle.word.proofs.Words.{length_bytes}
use Rattle.solve.proofs.put_answer.Goals as goal

pub returns : goal.returns
returns c =
    let a = c in
    let out = a.args.out.now in
    let at = length out - 8 in
    let x = c.put_commands_and_bounds in
    let d = pattern_bytes a.args.d in
    c.put_pattern.ensures
    ∙ put_behind x.new.out (drop at out) d at (x.auto.out ∙ length-take-le at out (omega arith)) (omega (arith, length-drop at out, length_bytes 8 a.args.d))
    ∙ ap (λ (o : List ℕ). o ++ d) x.ensures
