use native.Mathlib.Omega.{arith}
use mathlib.Core.Path.{◌≡◌, refl, sym, ap, ◌∙◌}
use mathlib.Core.List.{[]}
use Prim.Native.Nat.{ℕ, ◌+◌, ◌^◌, ◌≤◌, max}
use lib.ListN.{get_or}
use lib.IntN.{ℤ, pos, nat_abs, ◌-ℤ◌}
use mir.Syntax.{w64}
use mir.Val.{to_z, of_z, SFits}
use mir.Facts.{to_z-of_z}
use Rattle.integer.proofs.Laws.{abs_sub}
use Rattle.integer.proofs.Machine.{back, fit_abs}
use Rattle.gradient.specs.Index.{sum_z, product_at}
use Rattle.dot.proofs.Sums.{part}
use Rattle.optimum.specs.Optimum.{largest_n}
use Rattle.optimum.proofs.Whole.{largest_n_next}
use Rattle.residual.specs.Terms.{step_at, difference_at, Small}
use Rattle.residual.proofs.residual.Goals.{After-difference-arg-in-loop-i-2-1, After-step-1, Start}
use Rattle.residual.proofs.residual.Goals as goal

-- a turn's step: the row sum less the linear term
module _ (c : After-step-1) where
  abbrev start : Start
  start = (goal.at.After-step-1 c).Start

  abbrev i : ℕ
  i = c.loop-i.i

  abbrev sum : ℤ
  sum = sum_z (product_at (get_or start.args.m.now i []) start.args.z.now) 0 start.args.t.n

  abbrev h : ℤ
  h = get_or start.args.t.linear i (pos 0)

  both : nat_abs sum + nat_abs h ≤ 2 ^ 51
  both = start.requires.steps i (omega arith)

  fh : SFits w64 h
  fh = fit_abs h (omega (arith, both))

  size : nat_abs (sum -ℤ h) ≤ 2 ^ 51
  size = omega (arith, abs_sub sum h, both)

  fits : SFits w64 (sum -ℤ h)
  fits = fit_abs (sum -ℤ h) (omega (arith, size))

  row : to_z w64 (of_z w64 c.dot.result) ≡ sum
  row = let d = c.dot in back d.result d.type_inv ∙ d.ensures

  made : to_z w64 (of_z w64 (to_z w64 (of_z w64 c.dot.result) -ℤ to_z w64 (of_z w64 h))) ≡ step_at start.args.m.now start.args.t start.args.z.now i
  unfolding step_at
  made = rw (row, to_z-of_z fh, to_z-of_z fits) refl

-- the four numbers that the difference takes, as they are read back
module _ (c : After-difference-arg-in-loop-i-2-1) where
  abbrev d : After-step-1
  d = (goal.at.After-difference-arg-in-loop-i-2-1 c).After-step-1

  abbrev low : ℤ
  low = get_or (start d).args.t.limits.lower (i d) (pos 0)

  abbrev high : ℤ
  high = get_or (start d).args.t.limits.upper (i d) (pos 0)

  abbrev command : ℤ
  command = get_or (start d).args.z.now (i d) (pos 0)

  small : Small (start d).args.t.b (step_at (start d).args.m.now (start d).args.t (start d).args.z.now (i d)) low high command
  unfolding step_at
  small = record {
    bits = (start d).requires.bits;
    step_size = size d;
    low = (start d).requires.lowers (i d) (omega arith);
    high = (start d).requires.uppers (i d) (omega arith);
    command = (start d).requires.commands (i d) (omega arith);
  }

  low-back : to_z w64 (of_z w64 low) ≡ low
  low-back = to_z-of_z (fit_abs low (omega (arith, small.low)))

  high-back : to_z w64 (of_z w64 high) ≡ high
  high-back = to_z-of_z (fit_abs high (omega (arith, small.high)))

  command-back : to_z w64 (of_z w64 command) ≡ command
  command-back = to_z-of_z (fit_abs command (omega (arith, small.command)))

pub dot-requires : goal.dot-requires
dot-requires c = part (c.requires.rows c.loop-i.i (omega arith)) (omega arith)

pub loop-i-preserved : goal.loop-i-preserved
unfolding difference_at
loop-i-preserved c =
    let g = c in
    let a = (start (d (goal.at.loop-i-preserved c).After-difference-arg-in-loop-i-2-1)).args in
    let f = difference_at a.m.now a.t a.z.now in
    let e : c.difference.result ≡ f (i (d (goal.at.loop-i-preserved c).After-difference-arg-in-loop-i-2-1)) = rw (made (d (goal.at.loop-i-preserved c).After-difference-arg-in-loop-i-2-1), low-back (goal.at.loop-i-preserved c).After-difference-arg-in-loop-i-2-1, high-back (goal.at.loop-i-preserved c).After-difference-arg-in-loop-i-2-1, command-back (goal.at.loop-i-preserved c).After-difference-arg-in-loop-i-2-1) at c.difference.ensures in
    c.max-r.ensures ∙ ap (λ (k : ℕ). max k c.difference.result) c.loop-i.invariant ∙ ap (λ (k : ℕ). max (largest_n f (i (d (goal.at.loop-i-preserved c).After-difference-arg-in-loop-i-2-1))) k) e ∙ sym (largest_n_next f (i (d (goal.at.loop-i-preserved c).After-difference-arg-in-loop-i-2-1)))
