-- Each way out is one law of Call.antt. Assumes nothing.
use Rattle.std.proofs.Common.{◌≡◌, arith, refl, sym, ap, ◌∙◌, length, Ok}
use Rattle.std.proofs.lemmas.Result.{err_from_is_err_and}
use Rattle.refusal.specs.Number.{number}
use Rattle.refusal.proofs.Numbers.{above_zero}
use Rattle.line.specs.Line.{line_at}
use Rattle.frame.specs.Frame.{head_of}
use Rattle.frame.proofs.Sized.{head_sound}
use Rattle.design_page.proofs.Call.{accepted_page, count_is, count_sized, lines_pass, page_sized, refused_page, refused_room, some_sizes, words_read}
use Rattle.design_page.proofs.write_page.Goals.{In_ok-z}
use Rattle.design_page.proofs.write_page.Goals as goal

-- line 01 gave sizes
sizes : (c : In_ok-z) → head_of (line_at c.args.sheet.now 0) ≡ Ok c.in_ok-z.z
sizes c = sym (c.in_ok-z.ensures.0 ∙ ap head_of c.line_at.ensures.0)

pub returns-in_err-count-clause-number : goal.returns-in_err-count-clause-number
returns-in_err-count-clause-number c =
    let p = err_from_is_err_and c.from_residual.result c.from_residual.ensures.1 in
    let why = c.in_err-count.field-0.0 in
    rw (p.1, p.2) (refused_page c.args.sheet.now (number why) 0 c.read_design.new.words c.in_err-count.ensures (length c.args.page.now) (λ n. let w : ⊥ = omega (arith, above_zero why, n) in w))

pub overflow_sub-count : goal.overflow_sub-count
overflow_sub-count c = omega (arith, count_is c.args.sheet.now 0 c.in_ok-count.count c.read_design.new.words c.in_ok-count.ensures refl)

pub returns-then-page-count-clause-number : goal.returns-then-page-count-clause-number
returns-then-page-count-clause-number c = refused_room c.args.sheet.now 0 c.in_ok-count.count c.read_design.new.words c.in_ok-count.ensures refl (length c.args.page.now) c.if-page-count.true

pub returns-in_err-z-clause-number : goal.returns-in_err-z-clause-number
returns-in_err-z-clause-number c =
    absurd (some_sizes c.args.sheet.now 0 c.in_ok-count.count c.read_design.new.words c.in_ok-count.ensures refl c.in_err-z.field-0.0 (sym (c.in_err-z.ensures.0 ∙ ap head_of c.line_at.ensures.0)))

pub put_numbers-requires : goal.put_numbers-requires
put_numbers-requires c =
    let s = c.args.sheet.now in
    let h = sizes (goal.at.put_numbers-requires c).In_ok-z in
    let a = c.in_ok-count.ensures in (
      head_sound (line_at s 0) c.in_ok-z.z h,
      lines_pass s 0 c.in_ok-count.count c.read_design.new.words a refl c.in_ok-z.z h,
      words_read s 0 c.in_ok-count.count c.read_design.new.words a refl c.in_ok-z.z h,
      omega (arith, c.if-page-count.false, count_is s 0 c.in_ok-count.count c.read_design.new.words a refl, count_sized s c.in_ok-z.z h),
    )

pub returns-clause-number : goal.returns-clause-number
returns-clause-number c = accepted_page c.args.sheet.now 0 c.in_ok-count.count c.read_design.new.words c.in_ok-count.ensures refl (length c.args.page.now) c.if-page-count.false

pub returns-clause-bytes : goal.returns-clause-bytes
returns-clause-bytes c = c.put_numbers.ensures ∙ sym (page_sized c.args.sheet.now c.in_ok-z.z (sizes (goal.at.returns-clause-bytes c).In_ok-z))
