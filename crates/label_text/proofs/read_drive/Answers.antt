use mathlib.Core.Path.{◌≡◌, ap, ◌∙◌}
use Prim.Native.Nat.{ℕ, ◌*◌}
use native.Mathlib.Omega.{arith}
use lib.ListN.{length, take, replicate}
use lib.Seq.{length-take-le}
use Rattle.std.proofs.lemmas.List.{length-replicate}
use Rattle.std.proofs.lemmas.Result.{err_from_is_err_and}
use Rattle.image.proofs.Ordering.{handed_on}
use Rattle.intake.specs.Intake.{design_number, intake_number}
use Rattle.intake.proofs.Laws.{own_length}
use Rattle.label_text.proofs.read_drive.Goals as goal

pub returns-in_err-size-clause-number : goal.returns-in_err-size-clause-number
unfolding intake_number design_number
returns-in_err-size-clause-number c =
    let why = c.in_err-size.field-0.0 in
    let p = err_from_is_err_and c.from_residual.result c.from_residual.ensures.1 in
    rw (p.1, p.2) (handed_on why _ _ (handed_on why _ _ c.in_err-size.ensures.number_is))

pub returns-in_err-gantry_intake-clause-number : goal.returns-in_err-gantry_intake-clause-number
returns-in_err-gantry_intake-clause-number c =
    let s = c.args.drive.now in
    let count = c.in_ok-size.field-0 in
    let lent : length (take (4 * count) (replicate {A = ℕ} 2276 0)) ≡ 4 * count
    = length-take-le (4 * count) (replicate {A = ℕ} 2276 0) (omega (arith, length-replicate {A = ℕ} 2276 0, c.in_ok-size.ensures.count_high)) in
    let p = err_from_is_err_and c.from_residual-in_err-gantry_intake.result c.from_residual-in_err-gantry_intake.ensures.1 in
    rw (p.1, p.2) (c.in_err-gantry_intake.ensures.number ∙ ap (intake_number s) lent ∙ own_length s 0 count c.read_sheet.new.words c.in_ok-size.ensures)
