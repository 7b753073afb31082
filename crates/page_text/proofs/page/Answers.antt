use native.Mathlib.Omega.{arith}
use mathlib.Core.Path.{◌≡◌, sym, ap, ◌∙◌}
use Prim.Native.Nat.{ℕ, ◌*◌, ◌≤◌}
use lib.ListN.{length, take, drop}
use lib.Seq.{length-take-le, take_at}
use Rattle.refusal.specs.Number.{number, number_of}
use Rattle.refusal.proofs.Numbers.{above_zero}
use Rattle.text.specs.Text.{refusal}
use Rattle.text.proofs.Written.{front_refusal}
use Rattle.design_page.specs.Page.{design_count, page_number}
use Rattle.design_page.proofs.Length.{count_high}
use Rattle.page_text.proofs.Printed.{accepted, refused}
use Rattle.page_text.proofs.page.Goals.{After-design_count-length, After-gantry_page}
use Rattle.page_text.proofs.page.Goals as goal

-- the page's buffer lies within `out`
module _ (c : After-design_count-length) where
  few : 44 * c.design_count-length.result ≤ 24684
  few = omega (arith, c.design_count-length.ensures, count_high c.args.drive.now)

  room : 44 * c.design_count-length.result ≤ length c.args.out.now
  room = omega (arith, few, c.requires)

  lent : length (take (44 * c.design_count-length.result) c.args.out.now) ≡ 44 * c.design_count-length.result
  lent = length-take-le (44 * c.design_count-length.result) c.args.out.now room

number_is : (c : After-gantry_page) → number_of c.gantry_page.result ≡ page_number c.args.drive.now (44 * design_count c.args.drive.now)
number_is c =
    c.gantry_page.ensures.number
    ∙ ap (page_number c.args.drive.now) (lent (goal.at.After-gantry_page c).After-design_count-length ∙ ap (λ (k : ℕ). 44 * k) c.design_count-length.ensures)

pub overflow_mul-length : goal.overflow_mul-length
overflow_mul-length c = omega (arith, few c)

pub slice_bounds-gantry_page-end : goal.slice_bounds-gantry_page-end
slice_bounds-gantry_page-end c = room c

pub slice_bounds-gantry_page-end-2 : goal.slice_bounds-gantry_page-end-2
slice_bounds-gantry_page-end-2 c = sym (lent (goal.at.slice_bounds-gantry_page-end-2 c).After-design_count-length)

pub returns-in-Ok : goal.returns-in-Ok
returns-in-Ok c =
    let size = 44 * c.design_count-length.result in
    let d = (goal.at.returns-in-Ok c).After-design_count-length in
    let n = number_is (goal.at.returns-in-Ok c).After-gantry_page in (
      few d,
      take_at c.gantry_page.new.page (drop size c.args.out.now) size (c.gantry_page.auto.page ∙ lent d)
          ∙ c.in-Ok.ensures.bytes
          ∙ accepted c.args.drive.now (rw c.in-Ok.is at n),
    )

pub returns-in-Err : goal.returns-in-Err
returns-in-Err c =
    let why = c.in-Err.why in
    let n = number_is (goal.at.returns-in-Err c).After-gantry_page in (
      omega arith,
      ap (take 11) c.put_refusal.ensures ∙ front_refusal _ c.into.result (omega arith) ∙ ap refusal c.into.ensures
          ∙ refused c.args.drive.now (number why) (rw c.in-Err.is at n) (λ (q : number why ≡ 0). omega (arith, above_zero why)),
    )
