-- Assumes nothing.
use Rattle.std.proofs.Common.{◌≡◌, ap, ◌∙◌, to_z-of_z}
use lib.Ieee.{Float, binary64, to_bits}
use Rattle.word.specs.Word.{pattern_bytes}
use Rattle.double.specs.Double.{double_value}
use Rattle.probe.proofs.Answers.{answer_no_nan, put_pattern_lem, answer_below}
use Rattle.probe.proofs.probe_to_double.Goals.{After-put_pattern}
use Rattle.probe.proofs.probe_to_double.Goals as goal

pub float_to_bits-answered : goal.float_to_bits-answered
float_to_bits-answered c = rw c.answered.ensures (answer_no_nan c.to_double-answer.result _ _ c.to_double-answer.ensures.exact)

-- what is written, with every number
written : (c : After-put_pattern) → c.put_pattern.new.out ≡ pattern_bytes (to_bits binary64 (double_value c.args.b c.args.w c.args.value))
written c =
    let e = rw (to_z-of_z c.ranges.value) at c.to_double-answer.ensures.value in
    c.put_pattern.ensures
    ∙ put_pattern_lem c.args.out.now (to_bits binary64 c.answered.result) c.if-out-ne8.false
    ∙ ap (λ (x : Float). pattern_bytes (to_bits binary64 x)) (c.answered.ensures ∙ e)

pub returns-in-Ok-clause-bytes : goal.returns-in-Ok-clause-bytes
returns-in-Ok-clause-bytes c = written (goal.at.returns-in-Ok-clause-bytes c).After-put_pattern

pub returns-in-Err-clause-bytes : goal.returns-in-Err-clause-bytes
returns-in-Err-clause-bytes c =
    let a = c.args in
    let n = rw (to_z-of_z c.ranges.value) at c.in-Err.ensures.number in
    rw (c.into-in-Err.ensures, n, answer_below a.b a.w a.value) (written (goal.at.returns-in-Err-clause-bytes c).After-put_pattern)
