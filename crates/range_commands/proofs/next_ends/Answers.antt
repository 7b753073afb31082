use Rattle.std.proofs.Common.{arith, List, [], ℕ, ℤ, ◌≡◌, ◌≤◌, ◌∙◌, sym, ap, subst, get_or, pos, to_z, of_z, w64, to_z-of_z}
use Rattle.integer.proofs.Machine.{back, fit_abs}
use Rattle.array.proofs.Filling.{filled_more}
use Rattle.gradient.specs.Demand.{In64}
use Rattle.gradient.specs.Index.{sum_z}
use Rattle.commands.specs.Steps.{command_of}
use Rattle.ranges.specs.Interval as end
use Rattle.range_sums.specs.Ends.{end_term, EndsSmall}
use Rattle.range_sums.proofs.Halves.{row_ready, low_is, high_is}
use Rattle.range_commands.specs.Steps.{z_end}
use Rattle.range_commands.proofs.next_ends.Goals.{After-row_ends-x, In-loop-i, Start}
use Rattle.range_commands.proofs.next_ends.Goals as goal

-- what a turn goes by
module _ (l : In-loop-i) where
  abbrev a : Start
  a = (goal.at.In-loop-i l).Start

  abbrev i : ℕ
  i = l.loop-i.i

  abbrev row : List ℤ
  row = get_or a.args.m.now i []

  few : a.args.t.n ≤ 16
  few = a.requires.0.low_terms.few

  small : EndsSmall row a.args.y.now.low a.args.y.now.high a.args.t.n
  small = a.requires.0.rows i l.loop-i-test.true

  abbrev sum : end.End → ℤ
  sum e = sum_z (end_term e row a.args.y.now.low a.args.y.now.high) 0 a.args.t.n

  sum-small : (e : end.End) → In64 (sum e)
  sum-small e = omega (arith, small.sums e 0 a.args.t.n (omega arith))

kept : {x y : ℤ} → x ≡ y → In64 y → to_z w64 (of_z w64 x) ≡ y
kept {x} {y} e h = ap (λ (z : ℤ). to_z w64 (of_z w64 z)) e ∙ to_z-of_z (fit_abs y h)

-- a row's two sums, as they are read back: of each a command can be made
module _ (c : After-row_ends-x) where
  abbrev l : In-loop-i
  l = (goal.at.After-row_ends-x c).In-loop-i

  abbrev s : Start
  s = a l

  low_sum : to_z w64 (of_z w64 c.row_ends-x.result.low) ≡ sum l end.low
  low_sum = kept (low_is (row l) s.args.y.now.low s.args.y.now.high s.requires.0.values (small l) _ _ _ (s.requires.0.magnitude_rows (i l) l.loop-i-test.true) l.sums_of-sums.ensures l.widths_of-widths.ensures c.row_ends-x.ensures) (sum-small l end.low)

  high_sum : to_z w64 (of_z w64 c.row_ends-x.result.high) ≡ sum l end.high
  high_sum = kept (high_is (row l) s.args.y.now.low s.args.y.now.high s.requires.0.values (small l) _ _ _ (s.requires.0.magnitude_rows (i l) l.loop-i-test.true) l.sums_of-sums.ensures l.widths_of-widths.ensures c.row_ends-x.ensures) (sum-small l end.high)

  low-in : In64 (to_z w64 (of_z w64 c.row_ends-x.result.low))
  low-in = subst In64 (sym low_sum) (sum-small l end.low)

  high-in : In64 (to_z w64 (of_z w64 c.row_ends-x.result.high))
  high-in = subst In64 (sym high_sum) (sum-small l end.high)

pub row_ends-x-requires : goal.row_ends-x-requires
row_ends-x-requires c =
    let l = (goal.at.row_ends-x-requires c).In-loop-i in
    let s = a l in
    row_ready (row l) s.args.y.now.low s.args.y.now.high s.requires.0.values (small l) _ _ _ (s.requires.0.magnitude_rows (i l) l.loop-i-test.true) c.sums_of-sums.ensures c.widths_of-widths.ensures

pub command_at-requires : goal.command_at-requires
command_at-requires c =
    let x = (goal.at.command_at-requires c).After-row_ends-x in
    ((c.requires.0.low_terms, omega arith), omega (arith, low-in x, high-in x))

pub command_at-requires-in-loop-i : goal.command_at-requires-in-loop-i
command_at-requires-in-loop-i c =
    let x = (goal.at.command_at-requires-in-loop-i c).After-row_ends-x in
    ((c.requires.0.high_terms, omega (arith, c.requires.0.count)), omega (arith, low-in x, high-in x))

pub loop-i-preserved : goal.loop-i-preserved
loop-i-preserved c =
    let g = c.args in
    let i = c.loop-i.i in
    let x = (goal.at.loop-i-preserved c).After-row_ends-x in
    let n = c.requires.0.count in
    let few = c.requires.0.low_terms.few in
    let terms = end_term end.high (row (l x)) g.y.now.low g.y.now.high in (
      filled_more (pos 0) (z_end end.low g.m.now g.t g.y.now.low g.y.now.high) _ (omega (arith, few)) c.loop-i.invariant.0
          (back c.command_at.result c.command_at.type_inv ∙ c.command_at.ensures ∙ ap (command_of g.t i) (low_sum x)),
      filled_more (pos 0) (z_end end.high g.m.now g.u g.y.now.low g.y.now.high) _ (omega (arith, few)) c.loop-i.invariant.1
          (back c.command_at-in-loop-i.result c.command_at-in-loop-i.type_inv ∙ c.command_at-in-loop-i.ensures ∙ ap (command_of g.u i) (high_sum x) ∙ ap (λ (n : ℕ). command_of g.u i (sum_z terms 0 n)) (sym n)),
    )
