-- Each way out is one law of Call.antt. Assumes nothing.
use Rattle.std.proofs.Common.{arith, refl, ◌∙◌, length}
use Rattle.std.proofs.lemmas.Result.{err_from_is_err_and}
use Rattle.refusal.specs.Number.{number}
use Rattle.refusal.proofs.Numbers.{above_zero}
use Rattle.sheet.specs.Reading.{Answered}
use Rattle.sheet.specs.Sheet.{sheet_number, sheet_words}
use Rattle.sheet.proofs.Answer.{read_fit, read_image, read_long}
use Rattle.intake.proofs.Call.{accepted_call, read_lines, refused_call, refused_room}
use Rattle.intake.proofs.intake.Goals.{In_ok-count}
use Rattle.intake.proofs.intake.Goals as goal

-- the design passed
passed : (c : In_ok-count) → Answered (sheet_number c.args.sheet.now) (sheet_words c.args.sheet.now) 0 c.in_ok-count.count c.read_design.new.words
passed c = read_lines c.args.sheet.now 0 c.in_ok-count.count c.read_design.new.words c.in_ok-count.ensures refl

pub returns-in_err-count-clause-number : goal.returns-in_err-count-clause-number
returns-in_err-count-clause-number c =
    let p = err_from_is_err_and c.from_residual.result c.from_residual.ensures.1 in
    let why = c.in_err-count.field-0.0 in
    rw (p.1, p.2) (refused_call c.args.sheet.now (number why) 0 c.read_design.new.words c.in_err-count.ensures (length c.args.image.now) (λ n. let w : ⊥ = omega (arith, above_zero why, n) in w))

pub returns-then-image-count-clause-number : goal.returns-then-image-count-clause-number
returns-then-image-count-clause-number c = refused_room c.args.sheet.now 0 c.in_ok-count.count c.read_design.new.words c.in_ok-count.ensures refl _ c.if-image-count.true

pub put_words-requires : goal.put_words-requires
put_words-requires c =
    let a = passed (goal.at.put_words-requires c).In_ok-count in
    (omega (arith, read_long c.args.sheet.now 0 c.in_ok-count.count c.read_design.new.words a refl), read_fit c.args.sheet.now 0 c.in_ok-count.count c.read_design.new.words a refl)

pub returns-clause-number : goal.returns-clause-number
returns-clause-number c = accepted_call c.args.sheet.now 0 c.in_ok-count.count c.read_design.new.words c.in_ok-count.ensures refl _ c.if-image-count.false

pub returns-clause-bytes : goal.returns-clause-bytes
returns-clause-bytes c = c.put_words.ensures ∙ read_image c.args.sheet.now 0 c.in_ok-count.count c.read_design.new.words (passed (goal.at.returns-clause-bytes c).In_ok-count) refl
