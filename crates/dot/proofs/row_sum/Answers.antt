use native.Mathlib.Omega.{arith}
use mathlib.Core.Path.{◌≡◌, ap, ◌∙◌}
use Prim.Native.Nat.{ℕ, ◌+◌, ◌≤◌}
use lib.ListN.{get_or}
use lib.IntN.{ℤ, pos, ◌*ℤ◌}
use Rattle.integer.proofs.Machine.{back}
use Rattle.gradient.specs.Index.{sum_z, product_at}
use Rattle.gradient.proofs.Index.{sum_z_cong}
use Rattle.dot.specs.Sums.{input_term}
use Rattle.dot.proofs.row_sum.Goals.{After-words_of-r, Start}
use Rattle.dot.proofs.row_sum.Goals as goal

-- the terms of the row that was loaded are those of the image's
module _ (c : After-words_of-r) where
  abbrev d : Start
  d = (goal.at.After-words_of-r c).Start

  terms-are : (a k : ℕ) → a + k ≤ d.args.n → sum_z (product_at c.words_of-r.result d.args.x.now) a k ≡ sum_z (input_term d.args.row.now d.args.x.now) a k
  unfolding product_at input_term
  terms-are a k h = sum_z_cong _ _ a k (λ i l u. ap (λ (w : ℤ). w *ℤ get_or d.args.x.now i (pos 0)) (c.words_of-r.ensures.0.each i (omega arith)))

pub dot-requires : goal.dot-requires
dot-requires c =
    let p = (d (goal.at.dot-requires c).After-words_of-r).requires in
    record {
      few = omega (arith, p.few);
      left = λ i h. c.words_of-r.ensures.1 i (omega arith);
      right = λ i h. omega (arith, p.right i (omega arith));
      runs = λ a k l. let h : a + k ≤ (d (goal.at.dot-requires c).After-words_of-r).args.n = omega arith in rw (terms-are (goal.at.dot-requires c).After-words_of-r a k h) (p.runs a k h);
    }

pub returns : goal.returns
returns c = rw (back c.dot.result c.dot.type_inv) (c.dot.ensures ∙ terms-are (goal.at.returns c).After-words_of-r 0 (d (goal.at.returns c).After-words_of-r).args.n (omega arith))
