use native.Mathlib.Omega.{arith}
use mathlib.Core.Path.{refl}
use lib.ListN.{get_or}
use lib.IntN.{ℤ, pos, ◌*ℤ◌}
use mir.Syntax.{w64}
use mir.Val.{SFits}
use mir.Facts.{to_z-of_z}
use Rattle.integer.proofs.Machine.{fit_abs}
use Rattle.gradient.specs.Index.{product_at}
use Rattle.gradient.proofs.Index.{sum_z_one}
use Rattle.dot.proofs.product.Goals.{After-result-2-1, Start}
use Rattle.dot.proofs.product.Goals as goal

-- the two factors, as they are read back
module _ (c : After-result-2-1) where
  abbrev a : Start
  a = (goal.at.After-result-2-1 c).Start

  abbrev x : ℤ
  x = get_or a.args.r.now a.args.i (pos 0)

  abbrev z : ℤ
  z = get_or a.args.y.now a.args.i (pos 0)

  fx : SFits w64 x
  fx = fit_abs x (omega (arith, a.requires.left a.args.i (omega arith)))

  fz : SFits w64 z
  fz = fit_abs z (omega (arith, a.requires.right a.args.i (omega arith)))

  whole : SFits w64 (x *ℤ z)
  unfolding product_at
  whole = fit_abs (x *ℤ z) (rw (sum_z_one (product_at a.args.r.now a.args.y.now) a.args.i) at (a.requires.runs a.args.i 1 (omega arith)))

pub overflow_mul-result : goal.overflow_mul-result
overflow_mul-result c = rw (to_z-of_z (fx c), to_z-of_z (fz c)) (whole c)

pub returns : goal.returns
unfolding product_at
returns c = rw (to_z-of_z (overflow_mul-result c), to_z-of_z (fx c), to_z-of_z (fz c)) refl
