-- D is 0 exactly where the commands are the optimum themselves. Assumes nothing.
use mathlib.Core.Path.{◌≡◌, sym, ap}
use mathlib.Core.List.{List}
use Prim.Native.Nat.{ℕ, ◌*◌, ◌≤◌}
use native.Mathlib.Omega.{arith}
use lib.IntN.{ℤ, pos, nat_abs, ◌-ℤ◌, ◌*ℤ◌}
use lib.ListN.{length}
use Rattle.integer.specs.Parts.{int, ◌⊖◌, ◌⊙◌}
use Rattle.integer.proofs.Parts.{eq!, abs!, abs?}
use Rattle.integer.proofs.Floor.{ceil_above, ceil_most}
use Rattle.gradient.specs.Vector.{zip_with, All2}
use Rattle.gradient.specs.Problem.{Command, Problem, F}
use Rattle.gradient.proofs.Vector.{weaken2}
use Rattle.optimum.specs.Optimum.{projected_step, difference, residual, optimum_bound, Optimal, ZeroAtOptimum}
use Rattle.optimum.proofs.Largest.{largest_all, largest_one, zip_pairs, pairs_zip}

-- two integers whose difference is 0
no_difference : (f : ℕ) (h z : ℤ) → nat_abs (h -ℤ pos f *ℤ z) ≤ 0 → h ≡ pos f *ℤ z
no_difference f h z l = let a = abs? (int h ⊖ f ⊙ int z) l in eq! (int h) (f ⊙ int z) (omega arith)

difference_none : (f : ℕ) (h z : ℤ) → h ≡ pos f *ℤ z → nat_abs (h -ℤ pos f *ℤ z) ≤ 0
difference_none f h z e = rw e (abs! (f ⊙ int z ⊖ f ⊙ int z) (omega arith) (omega arith))

pub zero_at_optimum : (p : Problem) (m : ℕ) (inputs zs : List ℤ) → 1 ≤ m → length zs ≡ length p.commands → ZeroAtOptimum p m inputs zs
unfolding optimum_bound residual Optimal difference
zero_at_optimum p m inputs zs h n = (to, from)
  where
    R : ℕ
    R = residual p inputs zs

    to : optimum_bound p m inputs zs ≡ 0 → Optimal p inputs 1 zs
    to e =
        let r : R ≤ 0 = omega (arith, ceil_above R h, ap (λ (k : ℕ). m * k) e) in
        let ds : All2 (λ (r : Command) (z : ℤ). difference p inputs zs r z ≤ R) p.commands zs =
        zip_pairs (λ (d : ℕ). d ≤ R) (difference p inputs zs) p.commands zs (sym n) (largest_all (zip_with (difference p inputs zs) p.commands zs)) in
        weaken2 (λ c z d. no_difference (F p) (projected_step p inputs 1 zs c) z (omega arith)) ds

    from : Optimal p inputs 1 zs → optimum_bound p m inputs zs ≡ 0
    from o =
        let r : R ≤ 0 = largest_one (λ (d : ℕ). d ≤ 0) (λ e. omega arith) (pairs_zip (λ (d : ℕ). d ≤ 0) (difference p inputs zs) (weaken2 (λ c z e. difference_none (F p) (projected_step p inputs 1 zs c) z e) o)) in
        omega (arith, ceil_most R h)
