-- The two sums together are that of the terms so far. Assumes nothing.
use native.Mathlib.Omega.{arith}
use mathlib.Core.Path.{◌≡◌, refl, ap, ◌∙◌}
use Prim.Native.Nat.{ℕ, ◌+◌, ◌^◌, ◌%◌, ◌≤◌, ◌<◌}
use Rattle.weight.specs.Sums.{term_at, weight_to}
use Rattle.weight.proofs.Sums.{weight_mono, four}
use Rattle.weight.proofs.weight.Goals.{After-loop-j, After-rest, In-loop-j, Start}
use Rattle.weight.proofs.weight.Goals as goal

-- the terms of a turn, and the sum with them
module _ (c : In-loop-j) where
  abbrev s : Start
  s = (goal.at.In-loop-j c).Start

  abbrev j : ℕ
  j = c.loop-j.j

  abbrev sum : ℕ → ℕ
  sum = weight_to s.args.r.now s.args.q.now

  abbrev term : ℕ → ℕ
  term = term_at s.args.r.now s.args.q.now

  more : sum (j + 4) ≡ c.loop-j.even + c.loop-j.odd + term j + term (j + 1) + term (j + 2) + term (j + 3)
  more = omega (arith, four s.args.r.now s.args.q.now j, c.loop-j.invariant.1.1)

  most : sum (j + 4) < 2 ^ 54
  most = omega (arith, weight_mono s.args.r.now s.args.q.now {i = j + 4} {n = s.args.n} (omega arith), s.requires.small)

pub loop-j-init : goal.loop-j-init
unfolding weight_to
loop-j-init c = (omega arith, (refl, refl))

pub overflow_add-even : goal.overflow_add-even
overflow_add-even c =
    let t = c.before.before in
    record { fits = omega (arith, c.term.ensures, c.term-in-loop-j.ensures, more (goal.at.overflow_add-even c).In-loop-j, most (goal.at.overflow_add-even c).In-loop-j) }

pub overflow_add-even-in-loop-j : goal.overflow_add-even-in-loop-j
overflow_add-even-in-loop-j c =
    let t = c.before.before in
    record { fits = omega (arith, c.term.ensures, c.term-in-loop-j.ensures, more (goal.at.overflow_add-even-in-loop-j c).In-loop-j, most (goal.at.overflow_add-even-in-loop-j c).In-loop-j) }

pub overflow_add-odd : goal.overflow_add-odd
overflow_add-odd c =
    let t = c.before.before.before.before in
    record { fits = omega (arith, c.term-in-loop-j-2.ensures, c.term-in-loop-j-3.ensures, more (goal.at.overflow_add-odd c).In-loop-j, most (goal.at.overflow_add-odd c).In-loop-j) }

pub overflow_add-odd-in-loop-j : goal.overflow_add-odd-in-loop-j
overflow_add-odd-in-loop-j c =
    let t = c.before.before.before.before in
    record { fits = omega (arith, c.term-in-loop-j-2.ensures, c.term-in-loop-j-3.ensures, more (goal.at.overflow_add-odd-in-loop-j c).In-loop-j, most (goal.at.overflow_add-odd-in-loop-j c).In-loop-j) }

pub loop-j-preserved : goal.loop-j-preserved
loop-j-preserved c =
    let t = c.before.before.before.before in
    (omega arith, (omega arith, omega (arith, more (goal.at.loop-j-preserved c).In-loop-j, c.term.ensures, c.term-in-loop-j.ensures, c.term-in-loop-j-2.ensures, c.term-in-loop-j-3.ensures)))

-- what the fours leave, and the rest behind them
module _ (c : After-loop-j) where
  abbrev e : Start
  e = (goal.at.After-loop-j c).Start

  end : c.loop-j.j + e.args.n % 4 ≡ e.args.n
  end = omega arith

  less : c.loop-j.even + c.loop-j.odd ≤ weight_to e.args.r.now e.args.q.now e.args.n
  less = omega (arith, weight_mono e.args.r.now e.args.q.now {i = c.loop-j.j} {n = e.args.n} (omega arith), c.loop-j.invariant.1.1)

whole : (c : After-rest)
    → c.loop-j.even + c.loop-j.odd + c.rest.result ≡ weight_to (e (goal.at.After-rest c).After-loop-j).args.r.now (e (goal.at.After-rest c).After-loop-j).args.q.now (e (goal.at.After-rest c).After-loop-j).args.n
whole c =
    let a = (e (goal.at.After-rest c).After-loop-j).args in
    omega (arith, c.rest.ensures, c.loop-j.invariant.1.1) ∙ ap (weight_to a.r.now a.q.now) (end (goal.at.After-rest c).After-loop-j)

pub overflow_add-result : goal.overflow_add-result
overflow_add-result c = record { fits = omega (arith, less c, (e c).requires.small) }

pub overflow_add-result-2 : goal.overflow_add-result-2
overflow_add-result-2 c = record { fits = omega (arith, whole c, (e (goal.at.overflow_add-result-2 c).After-loop-j).requires.small) }

pub returns : goal.returns
returns c = whole c
