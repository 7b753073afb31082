-- The tests of one range, each with the answer that it leaves. Assumes nothing.
use native.Mathlib.Omega.{arith}
use mathlib.Core.Path.{◌≡◌, refl}
use mathlib.Core.Bool.{Bool, true, false}
use Prim.Native.Nat.{ℕ, ◌≤◌, ◌<◌}
use lib.Dec.{leb}
use lib.IntN.{ℤ, nat_abs}
use lib.Signed.{le_z, lt_z}
use mir.Syntax.{w32, w64}
use mir.Val.{SFits, to_z, of_z}
use mir.Facts.{to_z-of_z}
use borrow.Author.Tests.{le-leb, lt-leb}
use Rattle.integer.proofs.Machine.{wide32}
use Rattle.integer.proofs.Tests.{lt_not_le, nlt_le}
use Rattle.ranges.specs.Interval.{interval}
use Rattle.ranges.specs.Claim.{interval_within}

-- the test of the order, on the ends themselves
plain : (low high : ℤ) (b : Bool) → SFits w32 low × SFits w32 high → lt_z (to_z w64 (of_z w64 high)) (to_z w64 (of_z w64 low)) ≡ b → lt_z high low ≡ b
plain low high b f t = rw (to_z-of_z (wide32 f.1), to_z-of_z (wide32 f.0)) at t

-- a magnitude, of the end itself
sized : (a : ℤ) (size : ℕ) → SFits w32 a → size ≡ nat_abs (to_z w64 (of_z w64 a)) → size ≡ nat_abs a
sized a size f s = rw (to_z-of_z (wide32 f)) at s

-- a low above its high
pub above : (low high : ℤ) (limit : ℕ) → SFits w32 low × SFits w32 high → lt_z (to_z w64 (of_z w64 high)) (to_z w64 (of_z w64 low)) ≡ true → false ≡ interval_within (interval low high) limit
unfolding interval_within
above low high limit f t = rw (lt_not_le high low (plain low high true f t)) refl

-- a low beyond the limit
pub beyond : (low high : ℤ) (limit size : ℕ) → SFits w32 low × SFits w32 high → lt_z (to_z w64 (of_z w64 high)) (to_z w64 (of_z w64 low)) ≡ false → size ≡ nat_abs (to_z w64 (of_z w64 low)) → limit < size → false ≡ interval_within (interval low high) limit
unfolding interval_within
beyond low high limit size f t s b =
    let e = sized low size f.0 s in
    rw (nlt_le high low (plain low high false f t), lt-leb (nat_abs low) limit (omega (arith, e, b))) refl

-- the high's magnitude decides
pub decides : (low high : ℤ) (limit size large : ℕ) → SFits w32 low × SFits w32 high → lt_z (to_z w64 (of_z w64 high)) (to_z w64 (of_z w64 low)) ≡ false → size ≡ nat_abs (to_z w64 (of_z w64 low)) → size ≤ limit → large ≡ nat_abs (to_z w64 (of_z w64 high)) → leb large limit ≡ interval_within (interval low high) limit
unfolding interval_within
decides low high limit size large f t s b g =
    let e = sized low size f.0 s in
    rw (nlt_le high low (plain low high false f t), le-leb (nat_abs low) limit (omega (arith, e, b)), sized high large f.1 g) refl
