-- The lines of the numbers passed stand in front. Assumes nothing.
use Rattle.std.proofs.Common.{◌≡◌, ◌<◌, arith, refl, sym, ap, ◌∙◌, ◌+◌, ◌*◌, List, ℤ, pos, length, take, w64, to_z, of_z, to_z-of_z, add-one}
use lib.ListN.{get_or}
use lib.Seq.{take_all}
use Rattle.integer.proofs.Machine.{wide32}
use Rattle.word.specs.Buffer.{joined}
use Rattle.word.proofs.Buffer.{front_put}
use Rattle.frame.specs.Frame.{total}
use Rattle.frame.proofs.Laws.{total_is}
use Rattle.lines.specs.Lines.{line_word}
use Rattle.sheet.proofs.Fits.{lines_fit}
use Rattle.sheet.proofs.Whole.{line_at_lem, long}
use Rattle.design_page.specs.Page.{page_line}
use Rattle.design_page.proofs.Length.{length_page_line}
use Rattle.design_page.proofs.put_numbers.Goals.{After-body_count-i-end}
use Rattle.design_page.proofs.put_numbers.Goals as goal

-- the count is that of the lines due
module _ (c : After-body_count-i-end) where
  count-is : c.body_count-i-end.result ≡ total c.args.z
  count-is = c.body_count-i-end.ensures ∙ sym (total_is c.args.z)

  words-long : length c.args.words.now ≡ 8 + total c.args.z
  words-long = ap length c.requires.2 ∙ long c.args.z c.args.s.now

pub loop-i-init : goal.loop-i-init
loop-i-init c = (c.requires.3, unfold joined in refl)

pub bounds-words-i : goal.bounds-words-i
bounds-words-i c = let d = (goal.at.bounds-words-i c).After-body_count-i-end in omega (arith, words-long d, count-is d)

pub put_number-requires : goal.put_number-requires
put_number-requires c =
    let d = (goal.at.put_number-requires c).After-body_count-i-end in
    let z = c.args.z in
    let s = c.args.s.now in
    let i = c.loop-i.i in
    let l : i < total z = omega (arith, count-is d) in
    let w : get_or c.args.words.now (8 + i) (pos 0) ≡ line_word z s i = ap (λ (ws : List ℤ). get_or ws (8 + i) (pos 0)) c.requires.2 ∙ line_at_lem z s i l in
    let f = wide32 (rw (line_at_lem z s i l) at (lines_fit z s c.requires.0 (8 + i) (omega (arith, long z s)))) in
    (c.requires.0, l, c.requires.1 i l, ap (λ (v : ℤ). to_z w64 (of_z w64 v)) w ∙ to_z-of_z f, omega (arith, c.loop-i.invariant.0))

pub loop-i-preserved : goal.loop-i-preserved
loop-i-preserved c =
    let d = (goal.at.loop-i-preserved c).After-body_count-i-end in
    let z = c.args.z in
    let s = c.args.s.now in
    let l = c.loop-i in
    let line = page_line z s l.i in (
      c.put_number.auto.page ∙ l.invariant.0,
      ap (take (44 * (l.i + 1))) c.put_number.ensures
          ∙ front_put l.page (joined (page_line z s) l.i) line (44 * l.i) (44 * (l.i + 1)) l.invariant.1 (omega (arith, length_page_line z s l.i)) (omega (arith, l.invariant.0, count-is d))
          ∙ unfold joined in rw (add-one l.i),
    )

pub returns : goal.returns
returns c =
    let d = (goal.at.returns c).After-body_count-i-end in
    let l = c.loop-i in
    let e : l.i ≡ total c.args.z = omega (arith, count-is d) in
    sym (take_all (44 * l.i) l.page (omega (arith, l.invariant.0, count-is d))) ∙ l.invariant.1 ∙ ap (joined (page_line c.args.z c.args.s.now)) e
