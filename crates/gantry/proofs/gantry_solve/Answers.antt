-- `gantry::gantry_solve` meets its contract; the guarantee is demand 3 and request 8, of the answer's bytes. Assumes nothing.
use mathlib.Core.Path.{sym, subst}
use lib.ListN.{length}
use Rattle.interface.specs.Demand.{Guarantee}
use Rattle.interface.proofs.Demand.{accepted_solve}
use Rattle.interface.proofs.Dominance.{solvable_dominant}
use Rattle.interface.proofs.Guaranteed.{guaranteed}
use Rattle.gantry.proofs.gantry_solve.Goals as goal

pub solve-requires : goal.solve-requires
solve-requires c =
    let a = c.args in
    let e = accepted_solve a.image.now a.state.now a.target.now a.start.now (length a.answer.now) (sym c.in_ok-check_solve.ensures) in
    (solvable_dominant a.image.now a.state.now a.target.now a.start.now e.0, e.1)

pub returns-clause-guarantee : goal.returns-clause-guarantee
returns-clause-guarantee c =
    let a = c.args in
    let e = accepted_solve a.image.now a.state.now a.target.now a.start.now (length a.answer.now) (sym c.in_ok-check_solve.ensures) in
    let s = solvable_dominant a.image.now a.state.now a.target.now a.start.now e.0 in
    λ _. subst (Guarantee a.image.now a.state.now a.target.now a.start.now) (sym c.solve.ensures) (guaranteed a.image.now a.state.now a.target.now a.start.now s.0 s.1)
