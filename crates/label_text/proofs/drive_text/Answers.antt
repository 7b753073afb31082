use mathlib.Core.Path.{sym, ap, ◌∙◌}
use mathlib.Core.List.{List}
use Prim.Native.Nat.{ℕ}
use lib.ListN.{length}
use Rattle.refusal.specs.Number.{number}
use Rattle.intake.specs.Intake.{intake_image}
use Rattle.intake.proofs.Laws.{accepted_image}
use Rattle.label_text.specs.Label.{image_text}
use Rattle.label_text.proofs.Printed.{handed, never, sheet_accepted, sheet_refused}
use Rattle.label_text.proofs.drive_text.Goals as goal

pub returns-in_err-image : goal.returns-in_err-image
returns-in_err-image c =
    let a = c.args in
    let why = c.in_err-image.field-0.0 in
    handed why c.from_residual.result c.from_residual.ensures.1 (sheet_refused a.drive.now a.state.now a.target.now (number why) c.in_err-image.ensures.number (never why))

pub image_text-requires : goal.image_text-requires
image_text-requires c =
    let drive = c.args.drive.now in
    rw (c.as_bytes.ensures.text, c.in_ok-image.ensures.image) (accepted_image drive (length (intake_image drive)) (sym c.in_ok-image.ensures.number))

pub returns : goal.returns
returns c =
    let a = c.args in
    c.image_text.ensures
    ∙ ap (λ (image : List ℕ). image_text image a.state.now a.target.now) (c.as_bytes.ensures.text ∙ c.in_ok-image.ensures.image)
    ∙ sheet_accepted a.drive.now a.state.now a.target.now c.in_ok-image.ensures.number
