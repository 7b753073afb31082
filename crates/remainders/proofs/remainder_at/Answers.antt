use Rattle.std.proofs.Common.{arith, ◌≡◌, ◌≤◌, ◌^◌, ℤ, nat_abs, ◌*ℤ◌, ◌-ℤ◌, to_z, of_z, w64}
use Rattle.std.proofs.lemmas.Int.{ints}
use native.Mathlib.Nat.{mul-le-mul}
use Rattle.integer.proofs.Laws.{abs_mul}
use Rattle.integer.proofs.Machine.{back}
use Rattle.remainders.proofs.Entries.{remainder_is}
use Rattle.remainders.proofs.remainder_at.Goals.{After-difference_at-d, After-self_product}
use Rattle.remainders.proofs.remainder_at.Goals as goal

module _ (c : After-difference_at-d) where
  abbrev product : ℤ
  product = c.power-f.result *ℤ c.difference_at-d.result

  most : nat_abs product ≤ 2 ^ 52
  most = rw (abs_mul c.power-f.result c.difference_at-d.result) (mul-le-mul {n₂ = 2 ^ 20} {m₂ = 2 ^ 32} c.power-f.ensures.1 c.difference_at-d.ensures.1)

  -- as the code multiplies
  scaled : to_z w64 (of_z w64 c.power-f.result) *ℤ to_z w64 (of_z w64 c.difference_at-d.result) ≡ product
  scaled = rw (back c.power-f.result c.power-f.type_inv, back c.difference_at-d.result c.difference_at-d.type_inv)

pub overflow_mul-result : goal.overflow_mul-result
overflow_mul-result c = rw (scaled c) (omega (arith, ints, most c))

pub overflow_sub-result : goal.overflow_sub-result
overflow_sub-result c =
    let d = (goal.at.overflow_sub-result c).After-difference_at-d in
    rw (scaled d) (omega (arith, ints, most d, c.self_product.ensures))

pub returns : goal.returns
returns c =
    let d = (goal.at.returns c).After-difference_at-d in
    let a = c.args in
    let p = c.self_product in
    let less : to_z w64 (of_z w64 (to_z w64 (of_z w64 (product d)) -ℤ to_z w64 (of_z w64 p.result))) ≡ product d -ℤ p.result = omega (arith, ints, most d, p.ensures) in
    rw (scaled d, less) (remainder_is a.v a.image.now.sizes a.image.now.bytes.now a.factors.now a.i a.j c.power-f.result c.difference_at-d.result p.result c.power-f.ensures.0 c.difference_at-d.ensures.0 p.ensures.0, omega (arith, ints, most d, p.ensures))
