-- `gantry::gantry_range_solve` meets its contract; the guarantee is request 12, of the answer's bytes. Assumes nothing.
use mathlib.Core.Path.{sym, subst}
use lib.ListN.{length}
use Rattle.range_interface.specs.Claim.{RangeGuarantee}
use Rattle.range_interface.proofs.Accept.{accepted_range_solve, range_solvable}
use Rattle.range_interface.proofs.Guaranteed.{range_guaranteed}
use Rattle.gantry.proofs.gantry_range_solve.Goals as goal

pub range_solve-requires : goal.range_solve-requires
range_solve-requires c =
    let a = c.args in
    let e = accepted_range_solve a.image.now a.ranges.now a.target.now a.start.now (length a.answer.now) (sym c.in_ok-check_range_solve.ensures) in
    (range_solvable a.image.now a.ranges.now a.target.now a.start.now e.0, e.1)

pub returns-clause-guarantee : goal.returns-clause-guarantee
returns-clause-guarantee c =
    let a = c.args in
    let e = accepted_range_solve a.image.now a.ranges.now a.target.now a.start.now (length a.answer.now) (sym c.in_ok-check_range_solve.ensures) in
    λ _. subst (RangeGuarantee a.image.now a.ranges.now a.target.now a.start.now) (sym c.range_solve.ensures) (range_guaranteed a.image.now a.ranges.now a.target.now a.start.now e.0)
