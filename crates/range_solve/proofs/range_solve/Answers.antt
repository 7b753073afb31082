use native.Mathlib.Omega.{arith}
use mathlib.Core.Path.{◌≡◌, sym, ap, subst, ◌∙◌}
use mathlib.Core.List.{List, ◌++◌, map}
use Prim.Native.Nat.{ℕ, ◌*◌, ◌-◌, ◌≤◌}
use lib.ListN.{length, take, drop, length-take, length-drop, length-append}
use lib.Seq.{length-take-le}
use lib.IntN.{ℤ, pos}
use Rattle.word.specs.Word.{Words}
use Rattle.image.specs.declared.Sizes.{Sizes}
use Rattle.image.specs.Sizes.{command_count}
use Rattle.image.specs.Layout.{sizes_of, entry_at}
use Rattle.array.specs.Arrays.{Tabled}
use Rattle.solve.specs.Reached.{MatrixOf}
use Rattle.solve.proofs.Answers.{behind, few}
use Rattle.ranges.specs.Interval as end
use Rattle.ranges.specs.Interval.{Interval, end_of}
use Rattle.range_interface.specs.Calls.{intervals_out, ranges_after, range_answer}
use Rattle.range_interface.proofs.Guaranteed.{carried_words}
use Rattle.range_sums.specs.declared.Ends.{Ends}
use Rattle.range_solve.specs.Reached.{CarriedOf}
use Rattle.range_solve.proofs.Answers.{ends_are}
use Rattle.range_solve.proofs.range_solve.Goals.{After-carried_after-r, After-command_count-n, After-matrix-m, Start}
use Rattle.range_solve.proofs.range_solve.Goals as goal

-- M is the image's
module _ (c : After-matrix-m) where
  abbrev start : Start
  start = (goal.at.After-matrix-m c).Start

  matrix-of : MatrixOf start.args.image.now c.matrix-m.result
  matrix-of = subst (λ (z : Sizes). Tabled (pos 0) (command_count z) (entry_at z start.args.image.now) c.matrix-m.result) c.of-whole.ensures.1 (rw c.of-whole.ensures.0 at c.matrix-m.ensures)

-- the n lowest and the n highest commands that the arrays hold
module _ (e : After-command_count-n) where
  abbrev c : After-carried_after-r
  c = (goal.at.After-command_count-n e).After-carried_after-r

  abbrev a : Start
  a = start (goal.at.After-command_count-n e).After-matrix-m

  abbrev n : ℕ
  n = e.command_count-n.result

  abbrev r : Ends (List ℤ)
  r = c.carried_after-r.result

  abbrev sweeps : ℕ
  sweeps = (sizes_of a.args.image.now).sweeps

  carried : CarriedOf a.args.image.now a.args.ranges.now a.args.target.now a.args.start.now sweeps r
  carried = subst (λ (k : ℕ). CarriedOf a.args.image.now a.args.ranges.now a.args.target.now a.args.start.now k r) (ap (λ (z : Sizes). z.sweeps) c.of-whole.ensures.1) c.carried_after-r.ensures

  n-is : n ≡ command_count (sizes_of a.args.image.now)
  n-is = e.command_count-n.ensures ∙ ap (λ (z : Sizes). command_count z) c.of-whole.ensures.1

  twice : length a.args.answer.now ≡ 8 * n
  twice = omega (arith, n-is, a.requires.1)

  room : n ≤ 16
  room = few a.requires.0.accepted sweeps n n-is

  abbrev xs : List Interval
  xs = ranges_after a.args.image.now a.args.ranges.now a.args.target.now a.args.start.now sweeps

  low-are : take n r.low ≡ map (end_of end.low) xs
  low-are = ends_are a.requires.0 n n-is room end.low r.low carried.lowest

  high-are : take n r.high ≡ map (end_of end.high) xs
  high-are = ends_are a.requires.0 n n-is room end.high r.high carried.highest

  low-taken : length (take n r.low) ≡ n
  low-taken = length-take-le n r.low (omega (arith, carried.lowest.sized, room))

  high_taken : length (take n r.high) ≡ n
  high_taken = length-take-le n r.high (omega (arith, carried.highest.sized, room))

pub put_words-requires : goal.put_words-requires
put_words-requires c =
    let r = c in
    let out = (a (goal.at.put_words-requires c).After-command_count-n).args.answer.now in
    let s = (a (goal.at.put_words-requires c).After-command_count-n).args in
    (length-take-le (4 * c.command_count-n.result) out (omega (arith, twice (goal.at.put_words-requires c).After-command_count-n)) ∙ ap (λ (n : ℕ). 4 * n) (sym (low-taken (goal.at.put_words-requires c).After-command_count-n)), subst Words (sym (low-are (goal.at.put_words-requires c).After-command_count-n)) (carried_words s.image.now s.ranges.now s.target.now s.start.now (a (goal.at.put_words-requires c).After-command_count-n).requires.0 end.low))

pub put_words-requires-2 : goal.put_words-requires-2
put_words-requires-2 c =
    let r = c in
    let s = (a (goal.at.put_words-requires-2 c).After-command_count-n).args in
    let out = s.answer.now in
    (rw (high_taken (goal.at.put_words-requires-2 c).After-command_count-n) (simp (length-take, length-drop, length-append) (omega (arith, twice (goal.at.put_words-requires-2 c).After-command_count-n, c.put_words.auto.out, length-take-le (4 * c.command_count-n.result) out (omega (arith, twice (goal.at.put_words-requires-2 c).After-command_count-n))))), subst Words (sym (high-are (goal.at.put_words-requires-2 c).After-command_count-n)) (carried_words s.image.now s.ranges.now s.target.now s.start.now (a (goal.at.put_words-requires-2 c).After-command_count-n).requires.0 end.high))

pub returns : goal.returns
unfolding range_answer intervals_out
returns c =
    let r = c in
    let a = (a (goal.at.returns c).After-command_count-n).args.answer.now in
    let x = c.put_words in
    let n : length x.new.out ≡ 4 * c.command_count-n.result = x.auto.out ∙ length-take-le (4 * c.command_count-n.result) a (omega (arith, twice (goal.at.returns c).After-command_count-n)) in
    behind x.new.out c.put_words-2.new.out (drop (4 * c.command_count-n.result) a) (4 * c.command_count-n.result) (length (x.new.out ++ drop (4 * c.command_count-n.result) a) - 4 * c.command_count-n.result) n (omega (arith, twice (goal.at.returns c).After-command_count-n, length-append x.new.out (drop (4 * c.command_count-n.result) a)))
    ∙ (cc (x.ensures, c.put_words-2.ensures, low-are (goal.at.returns c).After-command_count-n, high-are (goal.at.returns c).After-command_count-n))
