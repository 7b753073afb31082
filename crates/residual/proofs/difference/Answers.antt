use native.Mathlib.Omega.{arith}
use mathlib.Core.Path.{◌≡◌, ◌∙◌}
use Prim.Native.Nat.{◌*◌, ◌^◌, ◌%◌, ◌≤◌}
use lib.IntN.{ℤ, pos, nat_abs, ◌-ℤ◌, ◌*ℤ◌}
use mir.Syntax.{w64}
use mir.Val.{to_z, of_z, SFits}
use mir.Facts.{to_z-of_z}
use Rattle.integer.specs.Round.{clamp}
use Rattle.integer.proofs.Laws.{abs_sub}
use Rattle.integer.proofs.Machine.{back, shl_to_z, fit_abs}
use Rattle.residual.specs.Terms.{difference_of}
use Rattle.residual.proofs.Scaled.{scaled_right, scaled_left, clamp_size}
use Rattle.residual.proofs.difference.Goals.{After-clamp-held, Start}
use Rattle.residual.proofs.difference.Goals as goal

-- 2^b, the scaled limits and the scaled command
module _ (a : Start) where
  abbrev f : ℤ
  f = pos (2 ^ a.args.b)

  one : to_z w64 ((1 * 2 ^ a.args.b) % 2 ^ 64) ≡ f
  one = shl_to_z a.args.b (omega arith)

  abbrev low : ℤ
  low = a.args.lower *ℤ f

  abbrev high : ℤ
  high = a.args.upper *ℤ f

  abbrev here : ℤ
  here = f *ℤ a.args.z

  size_low : nat_abs low ≤ 2 ^ 51
  size_low = scaled_right a.args.b a.requires.bits a.args.lower a.requires.low

  size-high : nat_abs high ≤ 2 ^ 51
  size-high = scaled_right a.args.b a.requires.bits a.args.upper a.requires.high

  size-here : nat_abs here ≤ 2 ^ 51
  size-here = scaled_left a.args.b a.requires.bits a.args.z a.requires.command

  fits_low : SFits w64 low
  fits_low = fit_abs low (omega (arith, size_low))

  fits-high : SFits w64 high
  fits-high = fit_abs high (omega (arith, size-high))

  fits-here : SFits w64 here
  fits-here = fit_abs here (omega (arith, size-here))

  abbrev apart : ℤ
  apart = clamp low high a.args.step -ℤ here

  size-apart : nat_abs apart ≤ 2 ^ 52
  size-apart =
      let s = clamp_size low high a.args.step (2 ^ 51) size_low size-high a.requires.step_size in
      omega (arith, abs_sub (clamp low high a.args.step) here, size-here)

  fits-apart : SFits w64 apart
  fits-apart = fit_abs apart (omega (arith, size-apart))

-- the held step
held : (c : After-clamp-held) → to_z w64 (of_z w64 c.clamp-held.result) ≡ clamp (low (goal.at.After-clamp-held c).Start) (high (goal.at.After-clamp-held c).Start) c.args.step
held c =
    let a = c in
    back c.clamp-held.result c.clamp-held.type_inv
    ∙ rw (one (goal.at.After-clamp-held c).Start, to_z-of_z a.ranges.lower, to_z-of_z a.ranges.upper, to_z-of_z a.ranges.step, to_z-of_z (fits_low (goal.at.After-clamp-held c).Start), to_z-of_z (fits-high (goal.at.After-clamp-held c).Start)) at c.clamp-held.ensures

pub overflow_mul-lower : goal.overflow_mul-lower
overflow_mul-lower c = rw (one c, to_z-of_z c.ranges.lower) (fits_low c)

pub overflow_mul-upper : goal.overflow_mul-upper
overflow_mul-upper c = rw (one c, to_z-of_z c.ranges.upper) (fits-high c)

pub overflow_mul-f : goal.overflow_mul-f
overflow_mul-f c = rw (one (goal.at.overflow_mul-f c).Start, to_z-of_z c.ranges.z) (fits-here (goal.at.overflow_mul-f c).Start)

pub overflow_sub-held : goal.overflow_sub-held
overflow_sub-held c = rw (held c, one (goal.at.overflow_sub-held c).Start, to_z-of_z c.ranges.z, to_z-of_z (fits-here (goal.at.overflow_sub-held c).Start)) (fits-apart (goal.at.overflow_sub-held c).Start)

pub returns : goal.returns
unfolding difference_of
returns c =
    rw (held (goal.at.returns c).After-clamp-held, one (goal.at.returns c).Start, to_z-of_z c.ranges.z, to_z-of_z (fits-here (goal.at.returns c).Start), to_z-of_z (fits-apart (goal.at.returns c).Start))
    at c.unsigned_abs.ensures.value
