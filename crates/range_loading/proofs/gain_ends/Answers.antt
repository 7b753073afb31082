use mathlib.Core.Path.{ap, ◌∙◌}
use mathlib.Core.List.{List}
use Prim.Native.Nat.{ℕ, ◌*◌}
use native.Mathlib.Omega.{arith}
use lib.IntN.{ℤ, pos}
use Rattle.word.specs.Word.{word_at}
use Rattle.image.specs.declared.Input.TheVariants.{State}
use Rattle.image.specs.Layout.{gain_row}
use Rattle.array.specs.Arrays.{Filled}
use Rattle.ranges.specs.Interval.{low, high}
use Rattle.range_sums.specs.Ends.{EndsSmall}
use Rattle.range_sums.proofs.Halves.{row_ready, low_is, high_is}
use Rattle.range_loading.proofs.Tables.{terms_are, row_small}
use Rattle.range_loading.proofs.gain_ends.Goals.{After-words_of-r, Start}
use Rattle.range_loading.proofs.gain_ends.Goals as goal

-- the row as an array
module _ (c : After-words_of-r) where
  abbrev a : Start
  a = (goal.at.After-words_of-r c).Start

  abbrev r : List ℤ
  r = c.words_of-r.result

  held : Filled (pos 0) a.args.image.now.sizes.nx (λ (j : ℕ). word_at (gain_row State a.args.image.now.sizes a.args.image.now.bytes.now a.args.i) (4 * j)) r
  held = record {
    sized = c.words_of-r.ensures.0.sized;
    each = λ j h. c.words_of-r.ensures.0.each j h ∙ ap (λ (s : List ℕ). word_at s (4 * j)) c.gain_row.ensures.0;
  }

  small : EndsSmall r a.args.lows.now a.args.highs.now a.args.image.now.sizes.nx
  small = row_small a.args.image.now.sizes a.args.image.now.bytes.now a.args.i r a.args.lows.now a.args.highs.now held c.words_of-r.ensures.1 a.requires.sums

pub row_ends-requires : goal.row_ends-requires
row_ends-requires c =
    let w = c in
    let d = c in
    row_ready (r (goal.at.row_ends-requires c).After-words_of-r) (a (goal.at.row_ends-requires c).After-words_of-r).args.lows.now (a (goal.at.row_ends-requires c).After-words_of-r).args.highs.now (a (goal.at.row_ends-requires c).After-words_of-r).requires.values (small (goal.at.row_ends-requires c).After-words_of-r) _ _ _ w.magnitude_row-magnitudes.ensures w.sums_of-sums.ensures w.widths_of-widths.ensures

pub returns : goal.returns
returns c =
    let w = c in
    let d = c in
    let g = (a (goal.at.returns c).After-words_of-r).args in
    let n = g.image.now.sizes.nx in
    let are = terms_are g.image.now.sizes g.image.now.bytes.now g.i (r (goal.at.returns c).After-words_of-r) g.lows.now g.highs.now (held (goal.at.returns c).After-words_of-r) in
    record {
      low_sum = low_is (r (goal.at.returns c).After-words_of-r) g.lows.now g.highs.now (a (goal.at.returns c).After-words_of-r).requires.values (small (goal.at.returns c).After-words_of-r) _ _ _ w.magnitude_row-magnitudes.ensures w.sums_of-sums.ensures w.widths_of-widths.ensures c.row_ends.ensures ∙ are low 0 n (omega arith);
      high_sum = high_is (r (goal.at.returns c).After-words_of-r) g.lows.now g.highs.now (a (goal.at.returns c).After-words_of-r).requires.values (small (goal.at.returns c).After-words_of-r) _ _ _ w.magnitude_row-magnitudes.ensures w.sums_of-sums.ensures w.widths_of-widths.ensures c.row_ends.ensures ∙ are high 0 n (omega arith);
    }
