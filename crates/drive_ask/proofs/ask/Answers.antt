-- The guarantee is demand 3 and request 8, of the answer's bytes. Assumes nothing.
use Rattle.std.proofs.Common.{sym, subst, ◌≡◌}
use Rattle.interface.specs.Calls.{solve_answer}
use Rattle.interface.specs.Demand.{Guarantee}
use Rattle.interface.proofs.Guaranteed.{guaranteed}
use Rattle.drive.specs.Layout.{held_image, held_start}
use Rattle.drive.proofs.Accept.{askable}
use Rattle.drive_ask.proofs.ask.Goals as goal

pub returns-clause-guarantee : goal.returns-clause-guarantee
returns-clause-guarantee c =
    let a = c.args in
    let image = held_image a.drive.now in
    let start = held_start a.drive.now a.head in
    let p = askable a.drive.now a.head a.state.now a.target.now _ (sym c.in_ok-check_ask.ensures) in
    let solved : c.solve.new.answer ≡ solve_answer image a.state.now a.target.now start = rw (c.held_bytes.ensures, c.held_start-start.ensures) at c.solve.ensures in
    λ _. subst (Guarantee image a.state.now a.target.now start) (sym solved) (guaranteed image a.state.now a.target.now start p.solves p.dominant)
