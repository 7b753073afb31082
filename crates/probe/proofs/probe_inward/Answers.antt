-- Assumes nothing.
use Rattle.std.proofs.Common.{◌≡◌, rules, arith, sym, ap, ◌∙◌, ℤ, List, ℕ, w64, to_z, of_z}
use Rattle.word.specs.Buffer.{put_at}
use Rattle.word.specs.Word.{word_bytes}
use Rattle.double.specs.Double.{rounded, round_up, round_down}
use Rattle.double.specs.declared.Limits.{Limits}
use Rattle.probe.specs.Probe.{limits_of}
use Rattle.probe.proofs.Answers.{Accepted, pair_accepted, put_two}
use Rattle.probe.proofs.probe_inward.Goals.{In-Some}
use Rattle.probe.proofs.probe_inward.Goals as goal

-- the words of the doubles that were asked for
module _ (c : In-Some) where
  abbrev limits : Limits
  limits = limits_of c.args.low c.args.high

  known : Accepted c.args.b c.args.w limits c.in-Some.low c.in-Some.high
  known = pair_accepted c.args.b c.args.w limits (sym (rw (c.of_pattern.ensures, c.of_pattern-2.ensures) at c.in-Some.ensures.0))

  low-read : to_z w64 (of_z w64 c.in-Some.low) ≡ c.in-Some.low
  low-read = search rules

  high-read : to_z w64 (of_z w64 c.in-Some.high) ≡ c.in-Some.high
  high-read = search rules

pub put_word-requires : goal.put_word-requires
put_word-requires c = let d = (goal.at.put_word-requires c).In-Some in (omega arith, rw (low-read d) (known d).low_fits)

pub put_word-requires-in-Some : goal.put_word-requires-in-Some
put_word-requires-in-Some c = let d = (goal.at.put_word-requires-in-Some c).In-Some in (omega arith, rw (high-read d) (known d).high_fits)

pub returns-in-Some-clause-bytes : goal.returns-in-Some-clause-bytes
returns-in-Some-clause-bytes c =
    let d = (goal.at.returns-in-Some-clause-bytes c).In-Some in
    let out = c.args.out.now in
    let l = limits d in
    c.put_word-in-Some.ensures
    ∙ ap (λ (o : List ℕ). put_at o 4 (word_bytes (to_z w64 (of_z w64 c.in-Some.high)))) c.put_word.ensures
    ∙ ap (λ (v : ℤ). put_at (put_at out 0 (word_bytes (to_z w64 (of_z w64 c.in-Some.low)))) 4 (word_bytes v)) (high-read d ∙ (known d).high_is)
    ∙ ap (λ (v : ℤ). put_at (put_at out 0 (word_bytes v)) 4 (word_bytes (rounded round_down c.args.b l.high))) (low-read d ∙ (known d).low_is)
    ∙ put_two out (rounded round_up c.args.b l.low) (rounded round_down c.args.b l.high) c.if-out-ne8.false
