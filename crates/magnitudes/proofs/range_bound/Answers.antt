use native.Mathlib.Nat.{mul-le-mul}
use native.Mathlib.Omega.{arith}
use lib.Pow.{pow_pos}
use Prim.Native.Nat.{◌*◌, ◌-◌, ◌^◌, ◌≤◌}
use Rattle.integer.proofs.Floor.{ceil_most}
use Rattle.magnitudes.proofs.range_bound.Goals as goal

pub overflow_add-result : goal.overflow_add-result
overflow_add-result c =
    let product : c.momentum_size-m.result * c.args.x ≤ 2 ^ 31 * (2 ^ 32 - 1) = mul-le-mul {m₂ = 2 ^ 32 - 1} c.momentum_size-m.ensures.1 (omega arith) in
    record { fits = omega (arith, product, c.ceil_div.ensures, ceil_most (c.momentum_size-m.result * c.args.x) (pow_pos c.args.image.now.sizes.b), c.largest_limit-l.ensures.1) }
