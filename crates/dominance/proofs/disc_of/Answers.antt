use Rattle.std.proofs.Common.{arith, ◌≡◌, List, ℕ, ◌*◌, ◌^◌, ◌≤◌, ℤ, ap, ◌∙◌}
use Rattle.std.proofs.lemmas.Int.{ints}
use Rattle.word.specs.Word.{word_at}
use Rattle.image.specs.Layout.{cost_at}
use Rattle.interface.specs.Tables.{others_of, others_at, margin_at, total_at}
use Rattle.dominance.proofs.disc_of.Goals.{After-row_others-radius}
use Rattle.dominance.proofs.disc_of.Goals as goal

module _ (c : After-row_others-radius) where
  abbrev d : ℤ
  d = c.word_at-diagonal.result

  abbrev n : ℕ
  n = c.row_others-radius.result

  diagonal : d ≡ cost_at c.args.image.now.sizes c.args.image.now.bytes.now c.args.i c.args.i
  diagonal = c.word_at-diagonal.ensures.0 ∙ ap (λ (l : List ℕ). word_at l (4 * c.args.i)) c.cost_row-row.ensures.0

  others : n ≡ others_at c.args.image.now.sizes c.args.image.now.bytes.now c.args.i
  unfolding others_at
  others = c.row_others-radius.ensures.0 ∙ (λ i. others_of (c.cost_row-row.ensures.0 i) c.args.i (c.command_count.ensures i))

  small : n ≤ 2 ^ 35
  small = c.row_others-radius.ensures.1

pub returns : goal.returns
unfolding margin_at total_at
returns c = (omega (arith, ints, diagonal c, others c, small c), omega (arith, ints, diagonal c, others c, small c))
