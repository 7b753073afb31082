use native.Mathlib.Omega.{arith}
use mathlib.Core.Path.{◌≡◌, ap, ◌∙◌}
use Prim.Native.Nat.{ℕ, ◌+◌, ◌^◌, ◌<◌}
use Rattle.weight.specs.Sums.{weight_to}
use Rattle.weight.proofs.Sums.{next, weight_mono}
use Rattle.weight.proofs.rest.Goals.{After-term-w, Start}
use Rattle.weight.proofs.rest.Goals as goal

-- the sum with the term of a turn
module _ (c : After-term-w) where
  abbrev s : Start
  s = (goal.at.After-term-w c).Start

  abbrev k : ℕ
  k = c.loop-k.k

  abbrev sum : ℕ → ℕ
  sum = weight_to s.args.r.now s.args.q.now

  more : sum (s.args.a + (k + 1)) ≡ sum s.args.a + c.loop-k.w + c.term-w.result
  more =
      let e : s.args.a + (k + 1) ≡ s.args.a + k + 1 = omega arith in
      ap sum e ∙ omega (arith, next s.args.r.now s.args.q.now (s.args.a + k), c.term-w.ensures, c.loop-k.invariant)

  most : sum (s.args.a + (k + 1)) < 2 ^ 54
  most = omega (arith, weight_mono s.args.r.now s.args.q.now {i = s.args.a + (k + 1)} {n = s.args.a + s.args.n} (omega arith), s.requires.small)

pub overflow_add-w : goal.overflow_add-w
overflow_add-w c = record { fits = omega (arith, more c, most c) }

pub loop-k-preserved : goal.loop-k-preserved
loop-k-preserved c = omega (arith, more c)
