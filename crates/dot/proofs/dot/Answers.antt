-- Each term stands behind the sum of those before it. Assumes nothing.
use native.Mathlib.Omega.{arith}
use mathlib.Core.Path.{◌≡◌, ap, ◌∙◌}
use Prim.Native.Nat.{ℕ, ◌+◌, ◌%◌, ◌<◌}
use lib.IntN.{ℤ, ◌+ℤ◌}
use mir.Syntax.{w64}
use mir.Val.{to_z}
use Rattle.gradient.specs.Index.{sum_z, product_at}
use Rattle.dot.proofs.Sums.{stored, IsSum, is_sum, single, join}
use Rattle.dot.proofs.dot.Goals.{After-product, After-product-in-loop-i, After-product-in-loop-i-2, After-product-in-loop-i-3, After-rest, In-loop-i, Start}
use Rattle.dot.proofs.dot.Goals as goal

-- where the terms of a turn start, a term of it, and that x is the sum of its first k
module _ (c : In-loop-i) where
  abbrev s : Start
  s = (goal.at.In-loop-i c).Start

  abbrev at : ℕ
  at = s.args.a + c.loop-i.i

  abbrev term : ℕ → ℤ
  term k = product_at s.args.r.now s.args.y.now (at + k)

  abbrev Sums : ℕ → ℤ → Type 0
  Sums k x = IsSum s.args.r.now s.args.y.now at k x

  -- one term more
  more : (k : ℕ) → k < 4 → {x y : ℤ} → Sums k x → y ≡ term k → Sums (k + 1) (stored x +ℤ stored y)
  more k h p e = join s.requires at k 1 (omega arith) p.is (single s.requires (at + k) (omega arith) e)

-- the sums of the terms of a turn, one after the other
one : (c : After-product) → Sums (goal.at.After-product c).In-loop-i 1 c.product.result
one c = single (s (goal.at.After-product c).In-loop-i).requires (at (goal.at.After-product c).In-loop-i) (omega arith) c.product.ensures

two : (c : After-product-in-loop-i) → Sums (goal.at.After-product-in-loop-i c).In-loop-i 2 (stored c.product.result +ℤ stored c.product-in-loop-i.result)
two c = more (goal.at.After-product-in-loop-i c).In-loop-i 1 (omega arith) (one (goal.at.After-product-in-loop-i c).After-product) c.product-in-loop-i.ensures

three : (c : After-product-in-loop-i-2) → Sums (goal.at.After-product-in-loop-i-2 c).In-loop-i 3 (stored (stored c.product.result +ℤ stored c.product-in-loop-i.result) +ℤ stored c.product-in-loop-i-2.result)
three c = more (goal.at.After-product-in-loop-i-2 c).In-loop-i 2 (omega arith) (two (goal.at.After-product-in-loop-i-2 c).After-product-in-loop-i) c.product-in-loop-i-2.ensures

pub overflow_add-x : goal.overflow_add-x
overflow_add-x c = (two c).fits

pub overflow_add-x-in-loop-i : goal.overflow_add-x-in-loop-i
overflow_add-x-in-loop-i c = (three c).fits

module _ (c : After-product-in-loop-i-3) where
  abbrev t : In-loop-i
  t = (goal.at.After-product-in-loop-i-3 c).In-loop-i

  abbrev x4 : ℤ
  x4 = stored (stored (stored c.product.result +ℤ stored c.product-in-loop-i.result) +ℤ stored c.product-in-loop-i-2.result) +ℤ stored c.product-in-loop-i-3.result

  four : Sums t 4 x4
  four = more t 3 (omega arith) (three (goal.at.After-product-in-loop-i-3 c).After-product-in-loop-i-2) c.product-in-loop-i-3.ensures

  all : IsSum (s t).args.r.now (s t).args.y.now (s t).args.a (t.before.loop-i.i + 4) (to_z w64 t.before.loop-i.x-bits +ℤ stored x4)
  all = join (s t).requires (s t).args.a t.before.loop-i.i 4 (omega arith) t.before.loop-i.invariant.0 four

pub overflow_add-x-in-loop-i-2 : goal.overflow_add-x-in-loop-i-2
overflow_add-x-in-loop-i-2 c = (four c).fits

pub overflow_add-x-in-loop-i-3 : goal.overflow_add-x-in-loop-i-3
overflow_add-x-in-loop-i-3 c = (all c).fits

pub loop-i-preserved : goal.loop-i-preserved
loop-i-preserved c = ((all c).is, omega arith, omega arith)

-- the fours, and the rest behind them
module _ (c : After-rest) where
  abbrev e : Start
  e = (goal.at.After-rest c).Start

  abbrev i : ℕ
  i = c.loop-i.i

  end : i + e.args.n % 4 ≡ e.args.n
  end = omega arith

  rest : IsSum e.args.r.now e.args.y.now (e.args.a + i) (e.args.n % 4) c.rest.result
  rest = is_sum e.requires (e.args.a + i) (e.args.n % 4) (omega arith) c.rest.ensures

  whole : IsSum e.args.r.now e.args.y.now e.args.a (i + e.args.n % 4) (to_z w64 c.loop-i.x-bits +ℤ stored c.rest.result)
  whole = join e.requires e.args.a i (e.args.n % 4) (omega arith) c.loop-i.invariant.0 rest

pub overflow_add-result : goal.overflow_add-result
overflow_add-result c = (whole c).fits

pub returns : goal.returns
returns c = (whole c).is ∙ ap (sum_z (product_at (e c).args.r.now (e c).args.y.now) (e c).args.a) (end c)
