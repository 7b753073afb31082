use native.Mathlib.Omega.{arith}
use native.Mathlib.Numerals.{add-one}
use mathlib.Core.Path.{sym, ap, ◌∙◌}
use mathlib.Core.List.{List, [], ◌∷◌, ◌++◌}
use Prim.Native.Nat.{ℕ, ◌<◌}
use lib.ListN.{length, get_or, length-set}
use lib.Seq.{take_all, take-suc, take-suc-set}
use Rattle.drive_parts.proofs.copy.Goals as goal

pub loop-i-preserved : goal.loop-i-preserved
loop-i-preserved c =
    let l = c.loop-i in
    let from = c.args.from.now in
    let b : l.i < length l.to = omega arith in
    let b' : l.i < length from = omega arith in (
      length-set l.to l.i (get_or from l.i 0) ∙ l.invariant.0,
      rw (add-one l.i) (take-suc-set l.to l.i (get_or from l.i 0) b ∙ ap (λ (x : List ℕ). x ++ get_or from l.i 0 ∷ []) l.invariant.1 ∙ sym (take-suc from l.i 0 b')),
    )

pub returns : goal.returns
returns c =
    let l = c.loop-i in
    let from = c.args.from.now in
    sym (take_all l.i l.to (omega arith)) ∙ l.invariant.1 ∙ take_all l.i from (omega arith)
