-- Each way out is one law of Whole.antt. Assumes nothing.
use Rattle.std.proofs.Common.{◌≡◌, ◌≤◌, ◌<◌, ◌*◌, ◌+◌, arith, refl, sym, ap, ◌∙◌, Ok}
use Rattle.std.proofs.lemmas.Result.{err_from_is_err_and}
use Rattle.refusal.specs.Number.{number}
use Rattle.refusal.proofs.Numbers.{above_zero}
use Rattle.image.specs.Sizes.{Sound}
use Rattle.line.specs.Line.{line_at}
use Rattle.frame.specs.Frame.{head_of, total}
use Rattle.frame.proofs.Laws.{total_high, total_is}
use Rattle.frame.proofs.Sized.{head_sound}
use Rattle.lines.specs.Lines.{ReadTo}
use Rattle.sheet.proofs.Answer.{answered_sized, answered_unsized}
use Rattle.sheet.proofs.Whole.{read_start, taken_all, taken_fault, taken_long}
use Rattle.sheet.proofs.read_sheet.Goals.{In_ok-z, After-body_count-total, After-loop-i, After-next_line-in-loop-i}
use Rattle.sheet.proofs.read_sheet.Goals as goal

-- line 01 gave the sizes
module _ (c : In_ok-z) where
  head : head_of (line_at c.args.s.now 0) ≡ Ok c.in_ok-z.z
  head = sym (c.in_ok-z.ensures.0 ∙ ap head_of c.next_line.ensures.line.0)

  known : Sound c.in_ok-z.z
  known = head_sound (line_at c.args.s.now 0) c.in_ok-z.z head

-- as many lines are due as the image has words behind the first eight
module _ (c : After-body_count-total) where
  count : c.body_count-total.result ≡ total c.in_ok-z.z
  count = c.body_count-total.ensures ∙ sym (total_is c.in_ok-z.z)

  few : total c.in_ok-z.z ≤ 561
  few = total_high c.in_ok-z.z (known (goal.at.After-body_count-total c).In_ok-z)

-- the next line is read
module _ (c : After-next_line-in-loop-i) where
  here : c.next_line-in-loop-i.result ≡ line_at c.args.s.now (23 * (c.loop-i.i + 1))
  here = rw (← c.loop-i.invariant.0, ← c.loop-i.invariant.1.place) c.next_line-in-loop-i.ensures.line.0

-- every line is read
module _ (c : After-loop-i) where
  all : ReadTo c.in_ok-z.z c.args.s.now (total c.in_ok-z.z) c.loop-i.words c.loop-i.lows
  all =
      let e : c.loop-i.i ≡ total c.in_ok-z.z = omega (arith, count (goal.at.After-loop-i c).After-body_count-total) in
      rw e at c.loop-i.invariant.1.lines

  place : c.loop-i.reader.at ≡ 23 * (total c.in_ok-z.z + 1)
  place = omega (arith, c.loop-i.invariant.1.place, count (goal.at.After-loop-i c).After-body_count-total)

pub returns-in_err-z : goal.returns-in_err-z
returns-in_err-z c =
    let p = err_from_is_err_and c.from_residual.result c.from_residual.ensures.1 in
    let h = sym (c.in_err-z.ensures.0 ∙ ap head_of c.next_line.ensures.line.0) in
    rw (p.1, p.2) (answered_unsized c.args.s.now (number c.in_err-z.field-0.0) 0 c.args.words.now h refl (omega arith))

pub put_sizes-requires : goal.put_sizes-requires
put_sizes-requires c = (known (goal.at.put_sizes-requires c).In_ok-z, c.requires)

pub body_count-total-requires : goal.body_count-total-requires
body_count-total-requires c = known (goal.at.body_count-total-requires c).In_ok-z

pub loop-i-init : goal.loop-i-init
loop-i-init c = (
  rw c.next_line.ensures.behind.0,
  record {
    sizes = head (goal.at.loop-i-init c).In_ok-z;
    place = c.next_line.ensures.behind.1;
    lines = read_start c.in_ok-z.z c.args.s.now c.args.words.now _ _ c.requires c.put_sizes.ensures refl;
  },
)

pub next_line-requires-in-loop-i : goal.next_line-requires-in-loop-i
next_line-requires-in-loop-i c = let d = (goal.at.next_line-requires-in-loop-i c).After-body_count-total in omega (arith, c.loop-i.invariant.1.place, count d, few d)

pub take_line-requires : goal.take_line-requires
take_line-requires c =
    let r = c.loop-i.invariant.1.lines in
    (known (goal.at.take_line-requires c).In_ok-z, omega (arith, count (goal.at.take_line-requires c).After-body_count-total), r.size, r.room)

pub returns-in_err-take_line : goal.returns-in_err-take_line
returns-in_err-take_line c =
    let p = err_from_is_err_and c.from_residual-in_err-take_line.result c.from_residual-in_err-take_line.ensures.1 in
    let r = c.loop-i.invariant.1 in
    let why = c.in_err-take_line.field-0.0 in
    let q = here (goal.at.returns-in_err-take_line c).After-next_line-in-loop-i in
    let l : c.loop-i.i < total c.in_ok-z.z = omega (arith, count (goal.at.returns-in_err-take_line c).After-body_count-total) in
    rw (p.1, p.2)
    (answered_sized c.args.s.now (number why) 0 c.take_line.new.words c.in_ok-z.z r.sizes
    (taken_fault c.in_ok-z.z c.args.s.now c.take_line.new.words c.loop-i.i (number why) l r.lines.passed (c.in_err-take_line.ensures c.args.s.now q r.lines).0 (λ n. let w : ⊥ = omega (arith, above_zero why, n) in w)))

pub loop-i-preserved : goal.loop-i-preserved
loop-i-preserved c = (
  rw c.next_line-in-loop-i.ensures.behind.0 c.loop-i.invariant.0,
  record {
    sizes = c.loop-i.invariant.1.sizes;
    place = omega (arith, c.next_line-in-loop-i.ensures.behind.1, c.loop-i.invariant.1.place);
    lines = (c.in_ok-take_line.ensures c.args.s.now (here (goal.at.loop-i-preserved c).After-next_line-in-loop-i) c.loop-i.invariant.1.lines).1 refl;
  },
)

pub returns-then-reader-s : goal.returns-then-reader-s
returns-then-reader-s c =
    let d = (goal.at.returns-then-reader-s c).After-loop-i in
    answered_sized c.args.s.now 4 0 c.loop-i.words c.in_ok-z.z c.loop-i.invariant.1.sizes (taken_long c.in_ok-z.z c.args.s.now c.loop-i.words (all d).passed (omega (arith, place d)))

pub overflow_add-result : goal.overflow_add-result
overflow_add-result c = let d = (goal.at.overflow_add-result c).After-body_count-total in omega (arith, count d, few d)

pub returns : goal.returns
returns c =
    let d = (goal.at.returns c).After-loop-i in
    rw (count (goal.at.returns c).After-body_count-total)
    (answered_sized c.args.s.now 0 (8 + total c.in_ok-z.z) c.loop-i.words c.in_ok-z.z c.loop-i.invariant.1.sizes
    (taken_all c.in_ok-z.z c.args.s.now c.loop-i.words c.loop-i.lows (known (goal.at.returns c).In_ok-z) (all d) (omega (arith, place d))))
