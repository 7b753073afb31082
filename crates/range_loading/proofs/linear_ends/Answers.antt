use native.Mathlib.Omega.{arith}
use mathlib.Core.Path.{◌≡◌, refl, sym, ap, subst, ◌∙◌}
use mathlib.Core.List.{List}
use Prim.Native.Nat.{ℕ, ◌+◌, ◌^◌, ◌≤◌, ◌<◌}
use lib.IntN.{ℤ, pos, nat_abs, ◌+ℤ◌}
use mir.Syntax.{w64}
use mir.Val.{to_z, of_z, SFits}
use mir.Facts.{to_z-of_z}
use Rattle.integer.specs.Round.{floor}
use Rattle.integer.proofs.Machine.{back, fit_abs, sfits_add}
use Rattle.gradient.specs.Index.{sum_z}
use Rattle.image.specs.declared.Input.TheVariants.{Target}
use Rattle.image.specs.Layout.{gain_row}
use Rattle.array.proofs.Filling.{filled_more}
use Rattle.dot.specs.Sums.{input_term}
use Rattle.ranges.specs.Interval as end
use Rattle.range_sums.specs.Ends.{Ranged}
use Rattle.range_loading.specs.Tables.{gain_term, linear_end}
use Rattle.range_loading.proofs.Tables.{LowsHeld, HighsHeld, behind_lows, held_ranged, state_small, target_small, whole_small, linear_is}
use Rattle.range_loading.proofs.linear_ends.Goals.{After-gain_sum-g, In-loop-i, Start}
use Rattle.range_loading.proofs.linear_ends.Goals as goal

-- what a turn goes by: the arrays of the lows, of the highs and of the target
module _ (l : In-loop-i) where
  abbrev a : Start
  a = (goal.at.In-loop-i l).Start

  abbrev i : ℕ
  i = l.loop-i.i

  abbrev lows : List ℤ
  lows = l.words_of-lows.result

  abbrev highs : List ℤ
  highs = l.words_of-highs.result

  abbrev toward : List ℤ
  toward = l.words_of-goal.result

  lows-held : LowsHeld a.args.image.now.sizes a.args.ranges.now lows
  lows-held = l.words_of-lows.ensures.0

  highs-held : HighsHeld a.args.image.now.sizes a.args.ranges.now highs
  highs-held = behind_lows a.args.image.now.sizes a.args.ranges.now _ refl l.words_of-highs.ensures.0

  values : Ranged lows highs a.args.image.now.sizes.nx
  values = held_ranged a.args.image.now.sizes a.args.ranges.now lows-held highs-held a.requires.values

  -- an end's sum of the row, with the target's behind it
  abbrev sum : end.End → ℤ
  sum e = sum_z (gain_term e a.args.image.now.sizes a.args.image.now.bytes.now lows highs i) 0 a.args.image.now.sizes.nx

  abbrev whole : end.End → ℤ
  whole e = sum e +ℤ sum_z (input_term (gain_row Target a.args.image.now.sizes a.args.image.now.bytes.now i) toward) 0 a.args.image.now.sizes.nr

  sum-small : (e : end.End) (b k : ℕ) → b + k ≤ a.args.image.now.sizes.nx → nat_abs (sum_z (gain_term e a.args.image.now.sizes a.args.image.now.bytes.now lows highs i) b k) < 2 ^ 51
  sum-small e = state_small e a.args.image.now.sizes a.args.image.now.bytes.now a.args.ranges.now a.args.target.now i lows highs toward lows-held highs-held l.words_of-goal.ensures.0 (a.requires.sums i (omega arith) e)

  fits : (e : end.End) → SFits w64 (whole e)
  fits e = fit_abs (whole e) (omega (arith, whole_small e a.args.image.now.sizes a.args.image.now.bytes.now a.args.ranges.now a.args.target.now i lows highs toward lows-held highs-held l.words_of-goal.ensures.0 (a.requires.sums i (omega arith) e)))

  divided : (e : end.End) → floor (whole e) (2 ^ a.args.image.now.sizes.b) ≡ linear_end e a.args.image.now.sizes a.args.image.now.bytes.now a.args.ranges.now a.args.target.now i
  divided e = linear_is e a.args.image.now.sizes a.args.image.now.bytes.now a.args.ranges.now a.args.target.now i lows highs toward lows-held highs-held l.words_of-goal.ensures.0 (a.requires.sums i (omega arith) e)

-- a turn's sums, as they are read back
pair : {x s u v : ℤ} → x ≡ s → nat_abs s < 2 ^ 63 → u ≡ v → to_z w64 (of_z w64 x) +ℤ u ≡ s +ℤ v
pair {x} {s} {u} {v} p h q = ap (λ (z : ℤ). to_z w64 (of_z w64 z) +ℤ u) p ∙ ap (λ (z : ℤ). z +ℤ u) (to_z-of_z (fit_abs s h)) ∙ ap (λ (z : ℤ). s +ℤ z) q

near : (u v : ℤ) → nat_abs u ≤ 2 ^ 51 → nat_abs v ≤ 2 ^ 51 → SFits w64 (u +ℤ v)
near u v h k = sfits_add u v (2 ^ 51) (2 ^ 51) h k (omega arith)

module _ (c : After-gain_sum-g) where
  abbrev l : In-loop-i
  l = (goal.at.After-gain_sum-g c).In-loop-i

  read : {x : ℤ} (e : end.End) → x ≡ sum l e → to_z w64 (of_z w64 x) +ℤ to_z w64 (of_z w64 c.gain_sum-g.result) ≡ whole l e
  read e q = pair q (omega (arith, sum-small l e 0 (a l).args.image.now.sizes.nx (omega arith))) (back c.gain_sum-g.result c.gain_sum-g.type_inv ∙ c.gain_sum-g.ensures)

  low_read : to_z w64 (of_z w64 c.gain_ends-x.result.low) +ℤ to_z w64 (of_z w64 c.gain_sum-g.result) ≡ whole l end.low
  low_read = read end.low c.gain_ends-x.ensures.low_sum

  high_read : to_z w64 (of_z w64 c.gain_ends-x.result.high) +ℤ to_z w64 (of_z w64 c.gain_sum-g.result) ≡ whole l end.high
  high_read = read end.high c.gain_ends-x.ensures.high_sum

  -- the two parts of a sum are small
  ends-small : {x : ℤ} (e : end.End) → x ≡ sum l e → nat_abs (to_z w64 (of_z w64 x)) ≤ 2 ^ 51
  ends-small {x} e q =
      let h = sum-small l e 0 (a l).args.image.now.sizes.nx (omega arith) in
      rw (q, to_z-of_z (fit_abs (sum l e) (omega (arith, h)))) (omega (arith, h))

  goal-small : nat_abs (to_z w64 (of_z w64 c.gain_sum-g.result)) ≤ 2 ^ 51
  goal-small =
      let s = a l in
      let h = target_small end.low s.args.image.now.sizes s.args.image.now.bytes.now s.args.ranges.now s.args.target.now (i l) (lows l) (highs l) (toward l) (lows-held l) (highs-held l) l.words_of-goal.ensures.0 (s.requires.sums (i l) (omega arith) end.low) 0 s.args.image.now.sizes.nr (omega arith) in
      rw (back c.gain_sum-g.result c.gain_sum-g.type_inv, c.gain_sum-g.ensures) (omega (arith, h))

pub gain_ends-x-requires : goal.gain_ends-x-requires
gain_ends-x-requires c =
    let l = c in
    record { whole = (a (goal.at.gain_ends-x-requires c).In-loop-i).requires.whole; below = omega arith; values = values (goal.at.gain_ends-x-requires c).In-loop-i; sums = sum-small (goal.at.gain_ends-x-requires c).In-loop-i }

pub gain_sum-g-requires : goal.gain_sum-g-requires
gain_sum-g-requires c =
    let l = c in
    let s = a (goal.at.gain_sum-g-requires c).In-loop-i in
    (omega arith, (l.words_of-goal.ensures.1, λ b k h. omega (arith, target_small end.low s.args.image.now.sizes s.args.image.now.bytes.now s.args.ranges.now s.args.target.now (i (goal.at.gain_sum-g-requires c).In-loop-i) (lows (goal.at.gain_sum-g-requires c).In-loop-i) (highs (goal.at.gain_sum-g-requires c).In-loop-i) (toward (goal.at.gain_sum-g-requires c).In-loop-i) (lows-held (goal.at.gain_sum-g-requires c).In-loop-i) (highs-held (goal.at.gain_sum-g-requires c).In-loop-i) l.words_of-goal.ensures.0 (s.requires.sums (i (goal.at.gain_sum-g-requires c).In-loop-i) (omega arith) end.low) b k h)))

pub overflow_add-x : goal.overflow_add-x
overflow_add-x c =
    let g = (goal.at.overflow_add-x c).After-gain_sum-g in
    let x = ends-small g end.low c.gain_ends-x.ensures.low_sum in
    let y = goal-small g in
    search (arith, near)

pub overflow_add-x-in-loop-i : goal.overflow_add-x-in-loop-i
overflow_add-x-in-loop-i c = let d = c in subst (SFits w64) (sym (high_read (goal.at.overflow_add-x-in-loop-i c).After-gain_sum-g)) (fits (l (goal.at.overflow_add-x-in-loop-i c).After-gain_sum-g) end.high)

pub loop-i-preserved : goal.loop-i-preserved
loop-i-preserved c =
    let q = c in
    let d = c in
    let g = (a (l (goal.at.loop-i-preserved c).After-gain_sum-g)).args in
    let few = (a (l (goal.at.loop-i-preserved c).After-gain_sum-g)).requires.whole.sizes.n_high in (
      filled_more (pos 0) (linear_end end.low g.image.now.sizes g.image.now.bytes.now g.ranges.now g.target.now) _ (omega (arith, few)) c.loop-i.invariant.0
          (back q.floor_div.result q.floor_div.type_inv ∙ (rw (low_read (goal.at.loop-i-preserved c).After-gain_sum-g, to_z-of_z (fits (l (goal.at.loop-i-preserved c).After-gain_sum-g) end.low)) at q.floor_div.ensures) ∙ divided (l (goal.at.loop-i-preserved c).After-gain_sum-g) end.low),
      filled_more (pos 0) (linear_end end.high g.image.now.sizes g.image.now.bytes.now g.ranges.now g.target.now) _ (omega (arith, few)) c.loop-i.invariant.1
          (back c.floor_div-in-loop-i.result c.floor_div-in-loop-i.type_inv ∙ (rw (high_read (goal.at.loop-i-preserved c).After-gain_sum-g, to_z-of_z (fits (l (goal.at.loop-i-preserved c).After-gain_sum-g) end.high)) at c.floor_div-in-loop-i.ensures) ∙ divided (l (goal.at.loop-i-preserved c).After-gain_sum-g) end.high),
    )
