use native.Mathlib.Omega.{arith}
use mathlib.Core.Path.{◌≡◌, sym, ap, subst, ◌∙◌}
use mathlib.Core.List.{List}
use Prim.Native.Nat.{ℕ, ◌≤◌}
use lib.ListN.{length, take}
use lib.Seq.{length-take-le}
use lib.IntN.{ℤ, pos}
use Rattle.word.specs.Word.{Words}
use Rattle.gradient.specs.Vector.{All2}
use Rattle.gradient.specs.Demand.{Inside, Bounded, Demand3}
use Rattle.image.specs.declared.Sizes.{Sizes}
use Rattle.image.specs.Sizes.{command_count}
use Rattle.image.specs.Layout.{sizes_of, entry_at, problem_of}
use Rattle.interface.specs.Tables.{margin_of}
use Rattle.interface.specs.Calls.{inputs_of, commands_after, bounds_after, distance_after, solve_answer}
use Rattle.interface.proofs.Demand.{all_claims}
use Rattle.interface.proofs.Guaranteed.{z_words}
use Rattle.array.specs.Arrays.{Tabled}
use Rattle.solve.specs.Reached.{MatrixOf, CommandsOf, BoundsOf}
use Rattle.solve.proofs.Answers.{few, commands_are, bounds_are}
use Rattle.optimum.specs.Optimum.{optimum_bound}
use Rattle.distance.specs.Tables.{Measurable}
use Rattle.solve.proofs.solve.Goals.{After-bounds_after-e, After-distance-d, After-matrix-m, After-command_count-n, Start}
use Rattle.solve.proofs.solve.Goals as goal

-- n, and that it is the image's
module _ (c : After-command_count-n) where
  abbrev start : Start
  start = (goal.at.After-command_count-n c).Start

  abbrev n : ℕ
  n = c.command_count-n.result

  n-is : n ≡ command_count (sizes_of start.args.image.now)
  n-is = c.command_count-n.ensures ∙ ap (λ (z : Sizes). command_count z) c.of-whole.ensures.1

  few-n : n ≤ 16
  few-n = few start.requires.0.0.accepted 0 n n-is

-- M is the image's
module _ (c : After-matrix-m) where
  matrix-of : MatrixOf (start (goal.at.After-matrix-m c).After-command_count-n).args.image.now c.matrix-m.result
  matrix-of = subst (λ (z : Sizes). Tabled (pos 0) (command_count z) (entry_at z (start (goal.at.After-matrix-m c).After-command_count-n).args.image.now) c.matrix-m.result) c.of-whole.ensures.1 (rw c.of-whole.ensures.0 at c.matrix-m.ensures)

-- the n commands and the n bounds that the arrays hold
module _ (c : After-bounds_after-e) where
  abbrev known : After-command_count-n
  known = (goal.at.After-bounds_after-e c).After-command_count-n

  abbrev a : Start
  a = start known

  abbrev z : List ℤ
  z = c.commands_after-z.result

  abbrev e : List ℕ
  e = c.bounds_after-e.result

  abbrev sweeps : ℕ
  sweeps = (sizes_of a.args.image.now).sweeps

  sweeps-are : c.of-whole.result.sizes.sweeps ≡ sweeps
  sweeps-are = ap (λ (z : Sizes). z.sweeps) c.of-whole.ensures.1

  commands-of : CommandsOf a.args.image.now a.args.state.now a.args.target.now a.args.start.now sweeps z
  commands-of = subst (λ (k : ℕ). CommandsOf a.args.image.now a.args.state.now a.args.target.now a.args.start.now k z) sweeps-are c.commands_after-z.ensures

  bounds_of : BoundsOf a.args.image.now sweeps e
  bounds_of = subst (λ (k : ℕ). BoundsOf a.args.image.now k e) sweeps-are c.bounds_after-e.ensures

  z-are : take (n known) z ≡ commands_after a.args.image.now a.args.state.now a.args.target.now a.args.start.now sweeps
  z-are = commands_are a.requires.0.0 sweeps (n known) (n-is known) z commands-of

  e-are : take (n known) e ≡ bounds_after a.args.image.now sweeps
  e-are = bounds_are a.requires.0.0.accepted sweeps (n known) (n-is known) e bounds_of

  z-taken : length (take (n known) z) ≡ n known
  z-taken = length-take-le (n known) z (omega (arith, commands-of.sized, few-n known))

  e-taken : length (take (n known) e) ≡ n known
  e-taken = length-take-le (n known) e (omega (arith, bounds_of.sized, few-n known))

  -- what D takes of the commands, and what it is of them
  own : take (command_count (sizes_of a.args.image.now)) z ≡ commands_after a.args.image.now a.args.state.now a.args.target.now a.args.start.now sweeps
  own = ap (λ (k : ℕ). take k z) (sym (n-is known)) ∙ z-are

  inside : All2 Inside (problem_of a.args.image.now).commands (take (command_count (sizes_of a.args.image.now)) z)
  unfolding commands_after Demand3 Bounded
  inside = rw own (all_claims a.args.image.now a.args.state.now a.args.target.now a.args.start.now a.requires.0.0 sweeps).bounded

  measurable : Measurable a.args.image.now a.args.state.now a.args.target.now c.matrix-m.result z
  measurable = record {
    accepted = a.requires.0.0.accepted;
    state_size = a.requires.0.0.state_size;
    target_size = a.requires.0.0.target_size;
    inputs = a.requires.0.0.inputs;
    matrix = matrix-of (goal.at.After-bounds_after-e c).After-matrix-m;
    inside = inside;
  }

-- D
distance_is : (c : After-distance-d) → let b = c in
    c.distance-d.result ≡ distance_after (a (goal.at.After-distance-d c).After-bounds_after-e).args.image.now (a (goal.at.After-distance-d c).After-bounds_after-e).args.state.now (a (goal.at.After-distance-d c).After-bounds_after-e).args.target.now (a (goal.at.After-distance-d c).After-bounds_after-e).args.start.now (sweeps (goal.at.After-distance-d c).After-bounds_after-e)
unfolding distance_after
distance_is c =
    let b = c in
    c.distance-d.ensures ∙ ap (optimum_bound (problem_of (a (goal.at.After-distance-d c).After-bounds_after-e).args.image.now) (margin_of (a (goal.at.After-distance-d c).After-bounds_after-e).args.image.now) (inputs_of (sizes_of (a (goal.at.After-distance-d c).After-bounds_after-e).args.image.now) (a (goal.at.After-distance-d c).After-bounds_after-e).args.state.now (a (goal.at.After-distance-d c).After-bounds_after-e).args.target.now)) (own (goal.at.After-distance-d c).After-bounds_after-e)

pub distance-d-requires : goal.distance-d-requires
distance-d-requires c = (measurable (goal.at.distance-d-requires c).After-bounds_after-e, (a (goal.at.distance-d-requires c).After-bounds_after-e).requires.0.1)

pub put_answer-requires : goal.put_answer-requires
put_answer-requires c =
    let b = c in
    (omega (arith, (a (goal.at.put_answer-requires c).After-bounds_after-e).requires.1, n-is (known (goal.at.put_answer-requires c).After-bounds_after-e), z-taken (goal.at.put_answer-requires c).After-bounds_after-e, e-taken (goal.at.put_answer-requires c).After-bounds_after-e), subst Words (sym (z-are (goal.at.put_answer-requires c).After-bounds_after-e)) (z_words (a (goal.at.put_answer-requires c).After-bounds_after-e).args.image.now (a (goal.at.put_answer-requires c).After-bounds_after-e).args.state.now (a (goal.at.put_answer-requires c).After-bounds_after-e).args.target.now (a (goal.at.put_answer-requires c).After-bounds_after-e).args.start.now (a (goal.at.put_answer-requires c).After-bounds_after-e).requires.0.0 (sweeps (goal.at.put_answer-requires c).After-bounds_after-e)))

pub returns : goal.returns
unfolding solve_answer
returns c =
    let d = c in
    let b = c in
    c.put_answer.ensures ∙ cc (z-are (goal.at.returns c).After-bounds_after-e, e-are (goal.at.returns c).After-bounds_after-e, distance_is (goal.at.returns c).After-distance-d)
