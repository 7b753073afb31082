use Rattle.std.proofs.Common.{arith, ◌^◌, ℤ, SFits, w64, ◌*ℤ◌, refl}
use Rattle.std.proofs.lemmas.Int.{fits_signed_mul}
use mir.Facts.{to_z-of_z}
use native.Mathlib.Nat.{mul-le-mul}
use Rattle.integer.proofs.Laws.{abs_mul}
use Rattle.momentum.proofs.squared.Goals.{Start}
use Rattle.momentum.proofs.squared.Goals as goal

module _ (c : Start) where
  abbrev a : ℤ
  a = c.args.a

  once : SFits w64 (a *ℤ a)
  once = fits_signed_mul w64 a a (2 ^ 21) (2 ^ 21) c.requires.0 c.requires.0 (omega arith)

  twice : SFits w64 (a *ℤ a *ℤ c.args.c)
  twice = fits_signed_mul w64 (a *ℤ a) c.args.c (2 ^ 42) (2 ^ 20) (rw (abs_mul a a) (mul-le-mul {n₂ = 2 ^ 21} {m₂ = 2 ^ 21} c.requires.0 c.requires.0)) c.requires.1 (omega arith)

pub overflow_mul-result-2 : goal.overflow_mul-result-2
overflow_mul-result-2 c = rw (to_z-of_z c.ranges.a, to_z-of_z (once c), to_z-of_z c.ranges.c) (twice c)

pub returns : goal.returns
returns c = rw (to_z-of_z c.ranges.a, to_z-of_z (once c), to_z-of_z c.ranges.c, to_z-of_z (twice c)) refl
