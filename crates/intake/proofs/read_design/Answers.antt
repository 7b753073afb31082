-- Each way out is one law of Call.antt. Assumes nothing.
use Rattle.std.proofs.Common.{◌≡◌, arith, refl}
use Rattle.std.proofs.lemmas.Result.{err_from_is_err_and}
use Rattle.std.proofs.lemmas.Grind.{common_steps}
use Rattle.refusal.specs.Number.{number}
use Rattle.refusal.proofs.Numbers.{above_zero}
use Rattle.sheet.proofs.Answer.{read_long}
use Rattle.intake.proofs.Call.{image_words, read_tables, refused_lines}
use Rattle.intake.proofs.read_design.Goals as goal

pub returns-in_err-count : goal.returns-in_err-count
returns-in_err-count c =
    let p = err_from_is_err_and c.from_residual.result c.from_residual.ensures.1 in
    let why = c.in_err-count.field-0.0 in
    rw (p.1, p.2) (refused_lines c.args.sheet.now (number why) 0 c.read_sheet.new.words c.in_err-count.ensures (λ n. let w : ⊥ = omega (arith, above_zero why, n) in w))

pub check_own_tables-requires : goal.check_own_tables-requires
check_own_tables-requires c =
    let s = c.args.sheet.now in
    let a = c.in_ok-count.ensures in
    let k = read_long s 0 c.in_ok-count.count c.read_sheet.new.words a refl in
    let h = a.count_high in
    (image_words s 0 c.in_ok-count.count c.read_sheet.new.words a refl, grind (arith, common_steps, k))

pub returns-in_err-check_own_tables : goal.returns-in_err-check_own_tables
returns-in_err-check_own_tables c =
    let p = err_from_is_err_and c.from_residual-in_err-check_own_tables.result c.from_residual-in_err-check_own_tables.ensures.1 in
    let why = c.in_err-check_own_tables.field-0.0 in
    let r = read_tables c.args.sheet.now 0 c.in_ok-count.count c.read_sheet.new.words c.in_ok-count.ensures refl (number why) c.in_err-check_own_tables.ensures in
    let n : number why ≡ 0 → ⊥ = λ n. let w : ⊥ = omega (arith, above_zero why, n) in w in
    rw (p.1, p.2) (record { number_is = r.number_is; words_are = λ e. absurd (n e); count_is = λ e. absurd (n e); count_high = omega arith })

pub returns : goal.returns
returns c = read_tables c.args.sheet.now 0 c.in_ok-count.count c.read_sheet.new.words c.in_ok-count.ensures refl 0 c.in_ok-check_own_tables.ensures
