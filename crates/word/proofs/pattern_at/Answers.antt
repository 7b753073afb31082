use native.Mathlib.Omega.{arith}
use Rattle.word.proofs.Words.{nat_split}
use Rattle.word.proofs.pattern_at.Goals as goal

pub returns : goal.returns
returns c =
    let a = c.before.before.before.args in
    omega (arith, nat_split 4 4 a.s.now a.at)
