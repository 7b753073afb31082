use native.Mathlib.Omega.{arith}
use mathlib.Core.Path.{◌≡◌, ◌∙◌}
use Prim.Native.Nat.{ℕ}
use lib.IntN.{ℤ, pos, ◌+ℤ◌}
use mir.Syntax.{w64}
use mir.Val.{SFits}
use mir.Facts.{to_z-of_z}
use Rattle.integer.proofs.Machine.{back, fit_abs}
use Rattle.gradient.specs.Index.{sum_z}
use Rattle.image.specs.declared.Input.TheVariants.{State, Target}
use Rattle.image.specs.Layout.{gain_row}
use Rattle.dot.specs.Sums.{input_term}
use Rattle.array.proofs.Filling.{filled_more}
use Rattle.loading.specs.Tables.{exact_at}
use Rattle.loading.proofs.Tables.{LinearOf, linear_of}
use Rattle.loading.proofs.exact_terms.Goals.{After-gain_sum-in-loop-i, After-words_of-x, After-words_of-y, In-loop-i, Start}
use Rattle.loading.proofs.exact_terms.Goals as goal

-- what a turn goes by
module _ (l : In-loop-i) where
  abbrev a : Start
  a = (goal.at.In-loop-i l).Start

  abbrev i : ℕ
  i = l.loop-i.i

  abbrev xs : After-words_of-x
  xs = (goal.at.In-loop-i l).After-words_of-x

  abbrev ys : After-words_of-y
  ys = (goal.at.In-loop-i l).After-words_of-y

  linear : LinearOf a.args.image.now.sizes a.args.image.now.bytes.now a.args.state.now a.args.target.now i xs.words_of-x.result ys.words_of-y.result
  linear =
      linear_of a.args.image.now.sizes a.args.image.now.bytes.now a.args.state.now a.args.target.now i xs.words_of-x.result ys.words_of-y.result xs.words_of-x.ensures.0 ys.words_of-y.ensures.0
      (a.requires.sums i (omega arith))

-- a turn's two sums, and that they are one
module _ (c : After-gain_sum-in-loop-i) where
  abbrev l : In-loop-i
  l = (goal.at.After-gain_sum-in-loop-i c).In-loop-i

  abbrev x : ℤ
  x = c.gain_sum.result

  abbrev y : ℤ
  y = c.gain_sum-in-loop-i.result

  abbrev whole : ℤ
  whole =
      sum_z (input_term (gain_row State (a l).args.image.now.sizes (a l).args.image.now.bytes.now (i l)) (xs l).words_of-x.result) 0 (a l).args.image.now.sizes.nx
      +ℤ sum_z (input_term (gain_row Target (a l).args.image.now.sizes (a l).args.image.now.bytes.now (i l)) (ys l).words_of-y.result) 0 (a l).args.image.now.sizes.nr

  one : x +ℤ y ≡ whole
  one = cc (c.gain_sum.ensures, c.gain_sum-in-loop-i.ensures)

  fits : SFits w64 (x +ℤ y)
  fits = fit_abs (x +ℤ y) (rw one (linear l).within)

pub gain_sum-requires : goal.gain_sum-requires
gain_sum-requires c = let l = c in (omega arith, ((xs (goal.at.gain_sum-requires c).In-loop-i).words_of-x.ensures.1, (linear (goal.at.gain_sum-requires c).In-loop-i).state_runs))

pub gain_sum-requires-in-loop-i : goal.gain_sum-requires-in-loop-i
gain_sum-requires-in-loop-i c = let l = c in (omega arith, ((ys (goal.at.gain_sum-requires-in-loop-i c).In-loop-i).words_of-y.ensures.1, (linear (goal.at.gain_sum-requires-in-loop-i c).In-loop-i).target_runs))

pub overflow_add-r : goal.overflow_add-r
overflow_add-r c = rw (back (x c) c.gain_sum.type_inv, back (y c) c.gain_sum-in-loop-i.type_inv) (fits c)

pub loop-i-preserved : goal.loop-i-preserved
loop-i-preserved c =
    let s = (a (l c)).args in
    filled_more (pos 0) (exact_at s.image.now.sizes s.image.now.bytes.now s.state.now s.target.now) _ (omega (arith, (a (l c)).requires.whole.sizes.n_high)) c.loop-i.invariant
    (rw (back (x c) c.gain_sum.type_inv, back (y c) c.gain_sum-in-loop-i.type_inv, to_z-of_z (fits c)) (one c ∙ (linear (l c)).undivided))
