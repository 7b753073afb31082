use native.Mathlib.Omega.{arith}
use Rattle.lent.specs.declared.Side.TheVariants.{Least, Most}
use Rattle.lent.proofs.Places.{row_ends}
use Rattle.lent.proofs.row_place.Goals as goal

pub returns-in-Least : goal.returns-in-Least
returns-in-Least c =
    let a = c in
    rw c.in-Least.is (omega (arith, c.triangle.ensures.0), omega (arith, c.triangle.ensures.0, row_ends Least a.args.n a.args.i a.requires.0))

pub returns-in-Most : goal.returns-in-Most
returns-in-Most c =
    let a = c in
    let t = c.triangle-in-Most.ensures.0 in
    rw c.in-Most.is (omega (arith, t, c.triangle-in-Most-2.ensures.0), omega (arith, t, c.triangle-in-Most-2.ensures.0, row_ends Most a.args.n a.args.i a.requires.0))
