-- Its double and that of its word are compared. Assumes nothing.
use Rattle.std.proofs.Common.{◌≡◌, arith, refl, sym, ap, ◌∙◌, ◌*◌, to_z-of_z, Result, Ok, Err}
use lib.Ieee.{Float, binary64, of_bits}
use Rattle.word.specs.Buffer.{put_at}
use Rattle.std.specs.Result.{result_unwrap_or}
use Rattle.refusal.specs.declared.Refusal.{Refusal}
use Rattle.double.specs.Double.{double_value}
use Rattle.frame.specs.declared.Due.{Due}
use Rattle.frame.specs.Frame.{due_at, value_double}
use Rattle.lines.specs.Lines.{line_double}
use Rattle.lines.proofs.Step.{value_is}
use Rattle.page_line.specs.declared.Effect.{Effect}
use Rattle.page_line.specs.Effect.{effect_of, line_text}
use Rattle.design_page.specs.Page.{line_effect, page_line, word_double}
use Rattle.design_page.proofs.Effects.{given_number, kept_number}
use Rattle.design_page.proofs.put_number.Goals.{After-effect_of}
use Rattle.design_page.proofs.put_number.Goals as goal

-- the code's plus zero, where there is no double
given-is : (r : Result Float Refusal) → result_unwrap_or r (of_bits binary64 0) ≡ value_double r
unfolding of_bits
given-is (Ok x) = refl
given-is (Err why) = refl

module _ (c : After-effect_of) where
  given : c.unwrap_or-given.result ≡ line_double c.args.z c.args.s.now c.args.i
  given =
      c.unwrap_or-given.ensures
      ∙ given-is c.value_of.result
      ∙ ap value_double (sym (value_is c.args.z c.args.s.now c.args.i _ _ _ c.value_of.ensures.0 c.due_at-d.ensures c.line_at.ensures.0))

  kept : c.answered-kept.result ≡ word_double c.args.z c.args.s.now c.args.i
  kept =
      c.answered-kept.ensures
      ∙ c.to_double.ensures.value
      ∙ ap (double_value c.args.z.b c.args.z.w) (to_z-of_z c.ranges.word ∙ c.requires.3)

  effect-is : c.effect_of.result ≡ line_effect c.args.z c.args.s.now c.args.i
  effect-is = c.effect_of.ensures ∙ ap (effect_of _) kept ∙ ap (λ (x : Float). effect_of x (word_double c.args.z c.args.s.now c.args.i)) given

pub put_line-requires : goal.put_line-requires
put_line-requires c =
    let u = (goal.at.put_line-requires c).After-effect_of in
    rw (effect-is u) (omega (arith, c.requires.4), given_number c.args.z c.args.s.now c.args.i c.requires.0 c.requires.2, kept_number c.args.z c.args.s.now c.args.i c.requires.0 c.requires.2)

pub returns : goal.returns
returns c =
    let u = (goal.at.returns c).After-effect_of in
    let page = c.args.page.now in
    let at = 44 * c.args.i in
    unfold page_line in
    c.put_line.ensures
    ∙ ap (λ (d : Due). put_at page at (line_text d c.effect_of.result)) c.due_at-d.ensures
    ∙ ap (λ (e : Effect). put_at page at (line_text (due_at c.args.z c.args.i) e)) (effect-is u)
