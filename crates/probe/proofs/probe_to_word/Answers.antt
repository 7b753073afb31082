-- Assumes nothing.
use Rattle.std.proofs.Common.{◌≡◌, rules, arith, true, sym, ap, ◌∙◌, ℕ, ℤ, w64, to_z, of_z}
use lib.Ieee.{Float}
use Rattle.word.specs.Buffer.{put_at}
use Rattle.word.specs.Word.{word_bytes}
use Rattle.double.specs.Double.{rule_of, accepted, rounded}
use Rattle.double.proofs.Convert.{convert_word}
use Rattle.probe.specs.Probe.{rounding_of, double_of}
use Rattle.probe.proofs.Answers.{accepted_fits, put_one}
use Rattle.probe.proofs.probe_to_word.Goals.{In-Some}
use Rattle.probe.proofs.probe_to_word.Goals as goal

-- the word of the double and the rounding that were asked for
module _ (c : In-Some) where
  abbrev rule : ℤ → ℕ → ℤ
  rule = rule_of (rounding_of c.args.how)

  abbrev x : Float
  x = double_of c.args.bits

  known : (accepted rule c.args.b c.args.w x ≡ true) × (c.in-Some.z ≡ rounded rule c.args.b x)
  known = convert_word rule c.args.b c.args.w x (sym (rw (c.rounding.ensures, c.of_pattern.ensures) at c.in-Some.ensures.0))

  read : to_z w64 (of_z w64 c.in-Some.z) ≡ c.in-Some.z
  read = search rules

pub put_word-requires : goal.put_word-requires
put_word-requires c =
    let d = (goal.at.put_word-requires c).In-Some in
    (omega arith, rw (read d, (known d).1) (accepted_fits (rule d) c.args.b c.args.w (x d) (known d).0))

pub returns-in-Some-clause-bytes : goal.returns-in-Some-clause-bytes
returns-in-Some-clause-bytes c =
    let d = (goal.at.returns-in-Some-clause-bytes c).In-Some in
    c.put_word.ensures ∙ ap (λ (v : ℤ). put_at c.args.out.now 0 (word_bytes v)) (read d ∙ (known d).1) ∙ put_one c.args.out.now (rounded (rule d) c.args.b (x d)) c.if-out-ne4.false
