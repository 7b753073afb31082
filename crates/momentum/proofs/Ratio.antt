-- Check 11: how large β, the margins and the totals are once the checks before have passed. Assumes nothing.
use mathlib.Core.List.{List}
use Prim.Native.Nat.{ℕ, ◌+◌, ◌-◌, ◌^◌, ◌≤◌, ◌<◌}
use native.Mathlib.Omega.{arith}
use lib.IntN.{ℤ, pos, nat_abs}
use lib.Pow.{pow_mono}
use lib.Signed.{le_z, le_z_yes}
use Rattle.integer.specs.Parts.{up, dn, int, nat, ◌⊕◌, ◌⊖◌}
use Rattle.integer.proofs.Parts.{le?, abs! }
use Rattle.integer.proofs.Tests.{of_true, both}
use Rattle.gradient.proofs.Tests.{all_at}
use Rattle.image.specs.declared.Sizes.{Sizes}
use Rattle.image.specs.Sizes.{command_count}
use Rattle.image.specs.Layout.{cost_at, momentum_at}
use Rattle.interface.specs.Tables.{margin_test, total_test, others_at, margin_at, total_at, least_margin, largest_total, momentum_range}
use Rattle.momentum.specs.declared.Extremes.{Extremes}
use Rattle.momentum.specs.Ready.{MomentumReady}
use Rattle.momentum.proofs.Least.{least_one, largest_one}

module _ (z : Sizes) (s : List ℕ) (x : Extremes) (r : MomentumReady z s x) where
  power : 2 ^ z.b ≤ 2 ^ 20
  power = pow_mono {j = 20} r.whole.sizes.b_high

  pub momentum_most : nat_abs (momentum_at z s) ≤ 2 ^ 20
  unfolding momentum_range
  momentum_most =
      let m = momentum_at z s in
      let t = both (le_z (pos 0) m) (le_z m (pos (2 ^ z.b - 1))) r.range in
      abs! (int m) (omega (arith, power, le? (int m) (nat (2 ^ z.b - 1)) (le_z_yes (of_true t.1)))) (omega (arith, le? (nat 0) (int m) (le_z_yes (of_true t.0))))

  module _ (i : ℕ) (h : i < command_count z) where
    -- 9 and 10 of the row
    above : 1 + dn (cost_at z s i i) + others_at z s i ≤ up (cost_at z s i i)
    unfolding margin_at
    above = omega (arith, le? (nat 1) (int (cost_at z s i i) ⊖ nat (others_at z s i)) (le_z_yes (of_true (all_at (margin_test z s) (command_count z) i h r.margins))))

    below : up (cost_at z s i i) + others_at z s i ≤ 2 ^ z.b + dn (cost_at z s i i)
    unfolding total_at
    below = omega (arith, le? (int (cost_at z s i i) ⊕ nat (others_at z s i)) (nat (2 ^ z.b)) (le_z_yes (of_true (all_at (total_test z s) (command_count z) i h r.totals))))

    margin_most : nat_abs (margin_at z s i) ≤ 2 ^ 20
    unfolding margin_at
    margin_most = abs! (int (cost_at z s i i) ⊖ nat (others_at z s i)) (omega (arith, power, above, below)) (omega (arith, power, above, below))

    total_most : nat_abs (total_at z s i) ≤ 2 ^ 20
    unfolding total_at
    total_most = abs! (int (cost_at z s i i) ⊕ nat (others_at z s i)) (omega (arith, power, above, below)) (omega (arith, power, above, below))

  pub least_most : nat_abs x.margin ≤ 2 ^ 20
  unfolding least_margin
  least_most = rw r.least (least_one (λ (m : ℤ). nat_abs m ≤ 2 ^ 20) (margin_at z s) (command_count z - 1) (λ i l. margin_most i (omega (arith, r.whole.sizes.n_low))))

  pub largest_most : nat_abs x.total ≤ 2 ^ 20
  unfolding largest_total
  largest_most = rw r.largest (largest_one (λ (t : ℤ). nat_abs t ≤ 2 ^ 20) (total_at z s) (command_count z - 1) (λ i l. total_most i (omega (arith, r.whole.sizes.n_low))))
