use native.Mathlib.Nat.{mul-le-mul}
use native.Mathlib.Omega.{arith}
use lib.Pow.{pow_mono}
use Prim.Native.Nat.{◌-◌, ◌*◌, ◌^◌, ◌≤◌}
use Rattle.std.proofs.Common.{refl}
use Rattle.integer.proofs.Machine.{one_shl}
use Rattle.word.specs.Format.{top}
use Rattle.word.proofs.Format.{top_high}
use Rattle.headroom.proofs.sum_cap.Goals as goal

pub returns : goal.returns
returns c =
    let z = c.args.z in
    let most : 2 ^ z.b * top z.w ≤ 2 ^ 20 * (2 ^ 31 - 1) = mul-le-mul {m₂ = 2 ^ 31 - 1} (pow_mono c.requires.b_high) (omega (arith, top_high z.w c.requires.w_high)) in
    rw (one_shl z.b (omega arith), c.top_of.ensures) (refl, omega arith)
