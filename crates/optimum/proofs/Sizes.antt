-- How large R, D and the sums that make them become, for code that works in machine words of 64 bits. Assumes nothing.
use mathlib.Core.List.{List, map}
use Prim.Native.Nat.{ℕ, ◌+◌, ◌*◌, ◌-◌, ◌^◌, ◌≤◌, ◌<◌}
use native.Mathlib.Nat.{mul-le-mul_left, mul-le-mul_right, le_trans}
use native.Mathlib.Omega.{arith}
use lib.Dec.{T}
use lib.IntN.{ℤ, pos, nat_abs, ◌-ℤ◌, ◌*ℤ◌}
use lib.Signed.{◌≤ℤ◌}
use Rattle.integer.specs.Parts.{int, ◌⊖◌, ◌⊙◌, ◌⊡◌}
use Rattle.integer.proofs.Parts.{abs!, abs_both, le?}
use Rattle.integer.proofs.Laws.{≤ℤ-trans, abs_sub, abs_mul, scale_mono}
use Rattle.integer.proofs.Floor.{ceil_above, ceil_most}
use Rattle.integer.proofs.Clamping.{clamped, clamped_lower, clamped_upper}
use Rattle.word.specs.Format.{top}
use Rattle.gradient.specs.Vector.{total, All1, All2}
use Rattle.gradient.specs.Problem.{Command, Problem, F}
use Rattle.gradient.specs.Scheme.{products}
use Rattle.gradient.specs.Exact.{exact_linear}
use Rattle.gradient.specs.Bounds.{width, range_y, range_a, range_b, weight}
use Rattle.gradient.specs.Demand.{Inside, InWord, RunningSums, headroom, inputs_within}
use Rattle.gradient.specs.Sizes.{Sized, SizedCommand}
use Rattle.gradient.proofs.Vector.{abs_sum, total_abs_sum, part_abs_sum, weaken1, join1, second_map}
use Rattle.gradient.proofs.Terms.{products_abs_sum}
use Rattle.gradient.proofs.Tests.{RangesFit, headroom_all, inputs_all}
use Rattle.gradient.proofs.Range.{F_pos, F_top_most, inside_magnitude}
use Rattle.gradient.proofs.Sizes.{F_most, magnitude_most, width_fits}
use Rattle.optimum.specs.Optimum.{gradient_step, projected_step, difference, residual, optimum_bound, StepIn64}
use Rattle.optimum.proofs.Whole.{step_whole}
use Rattle.optimum.proofs.Largest.{largest_one, pairs_zip, with_all}

-- ---- R and D
-- a command and a held step, both inside the limits, are no further apart than these
inside_width : (f : ℕ) (lower upper z h : ℤ) → lower ≤ℤ z → z ≤ℤ upper → (lower *ℤ pos (f * 1)) ≤ℤ h → h ≤ℤ (upper *ℤ pos (f * 1))
    → nat_abs (h -ℤ pos f *ℤ z) ≤ f * nat_abs (upper -ℤ lower)
inside_width f lower upper z h a b c d =
    let w = abs_both (int upper ⊖ int lower) in
    let a' = mul-le-mul_left f (le? (int lower) (int z) a) in
    let b' = mul-le-mul_left f (le? (int z) (int upper) b) in
    let w' = mul-le-mul_left f w.0 in
    let c' = le? (int lower ⊡ (f * 1)) (int h) c in
    let d' = le? (int h) (int upper ⊡ (f * 1)) d in
    abs! (int h ⊖ f ⊙ int z) (omega arith) (omega arith)

module _ (p : Problem) (inputs zs : List ℤ) where
  difference_width : (r : Command) (z : ℤ) → Inside r z → difference p inputs zs r z ≤ F p * width r
  unfolding difference projected_step width
  difference_width r z i =
      let o = ≤ℤ-trans i.above i.below in
      let c = clamped (r.lower *ℤ pos (F p * 1)) (r.upper *ℤ pos (F p * 1)) (gradient_step inputs 1 zs r) in
      inside_width (F p) r.lower r.upper z _ i.above i.below (clamped_lower (scale_mono (F p * 1) o) c) (clamped_upper (scale_mono (F p * 1) o) c)

  -- R is at most F times the largest width
  residual_width : (w : ℕ) → All1 (λ (r : Command). width r ≤ w) p.commands → All2 Inside p.commands zs → residual p inputs zs ≤ F p * w
  unfolding residual
  residual_width w h i =
      largest_one (λ (d : ℕ). d ≤ F p * w) (λ e. omega arith)
      (pairs_zip (λ (d : ℕ). d ≤ F p * w) (difference p inputs zs) (with_all (λ r z k j. le_trans (difference_width r z j) (mul-le-mul_left (F p) k)) h i))

  pub residual_fits : Sized p → All2 Inside p.commands zs → residual p inputs zs < 2 ^ 52
  residual_fits s i =
      let w : All1 (λ (r : Command). width r ≤ 2 ^ 32 - 1) p.commands = weaken1 (λ r c. omega (arith, width_fits p s r c)) s.commands_sized in
      omega (arith, residual_width (2 ^ 32 - 1) w i, mul-le-mul_right (2 ^ 32 - 1) (F_most p s))

  -- D is at most R, so that it fits 64 bits in a sized problem
  bound_residual : (m : ℕ) → 1 ≤ m → optimum_bound p m inputs zs ≤ residual p inputs zs
  unfolding optimum_bound
  bound_residual m h = ceil_most (residual p inputs zs) h

  pub bound_fits : (m : ℕ) → 1 ≤ m → Sized p → All2 Inside p.commands zs → optimum_bound p m inputs zs < 2 ^ 52
  bound_fits m h s i = omega (arith, bound_residual m h, residual_fits s i)

-- ---- the sums M z and G of a command, undivided: check 12 bounds them, though what it speaks of is M y
module _ (p : Problem) (inputs zs : List ℤ) (k : T (inputs_within p inputs)) (i : All2 Inside p.commands zs) where
  row_abs_sum : (r : Command) → abs_sum (products r.row zs) ≤ F p * range_a p r
  unfolding range_a range_y
  row_abs_sum r =
      le_trans (products_abs_sum r.row (second_map (range_y p) (λ r z j. omega (arith, inside_magnitude j)) i))
      (ceil_above (weight r.row (map (range_y p) p.commands)) (F_pos p))

  linear_abs_sum : (r : Command) → abs_sum (products r.gains inputs) ≤ F p * range_b p r
  unfolding range_b
  linear_abs_sum r = le_trans (products_abs_sum r.gains (inputs_all p inputs k)) (ceil_above (weight r.gains p.input_limits) (F_pos p))

  -- of a command whose range bounds are words: every running sum, and the step's two parts together, are at most 2^b × top
  module _ (r : Command) (fit : RangesFit p r) where
    scaled_ranges : F p * range_a p r + F p * range_b p r ≤ F p * top p.W
    scaled_ranges = omega (arith, mul-le-mul_left (F p) fit.fits_ab)

    pub step_size : nat_abs (total (products r.row zs)) + nat_abs (exact_linear inputs r) ≤ F p * top p.W
    unfolding exact_linear
    step_size =
        omega (arith, total_abs_sum (products r.row zs), total_abs_sum (products r.gains inputs), row_abs_sum r, linear_abs_sum r, scaled_ranges)

    module _ (s : Sized p) where
      scaled_top : F p * top p.W < 2 ^ 51
      scaled_top = F_top_most p s.b_most s.W_most

      pub row_running : RunningSums (products r.row zs)
      unfolding RunningSums
      row_running a n = omega (arith, part_abs_sum a n (products r.row zs), row_abs_sum r, scaled_ranges, scaled_top)

      pub linear_running : RunningSums (products r.gains inputs)
      unfolding RunningSums
      linear_running a n = omega (arith, part_abs_sum a n (products r.gains inputs), linear_abs_sum r, scaled_ranges, scaled_top)

      -- all that makes the difference of a command inside its limits
      step_in_64 : (z : ℤ) → SizedCommand p r → Inside r z → StepIn64 p inputs zs r z
      unfolding InWord
      step_in_64 z c j = record {
        row_sums = row_running;
        linear_sums = linear_running;
        step = rw (step_whole inputs zs r) (omega (arith, abs_sub (total (products r.row zs)) (exact_linear inputs r), step_size, scaled_top));
        lower = rw (abs_mul r.lower (pos (F p))) (omega (arith, scaled (nat_abs r.lower) c.lower_word));
        upper = rw (abs_mul r.upper (pos (F p))) (omega (arith, scaled (nat_abs r.upper) c.upper_word));
        command = rw (abs_mul (pos (F p)) z) (omega (arith, scaled (nat_abs z) (le_trans (inside_magnitude j) (magnitude_most p s r c))));
        apart = omega (arith, difference_width p inputs zs r z j, mul-le-mul_left (F p) (width_fits p s r c), mul-le-mul_right (2 ^ 32 - 1) (F_most p s));
      }
        where
          scaled : (a : ℕ) → a ≤ top p.W → F p * a < 2 ^ 51
          scaled a h = omega (arith, mul-le-mul_left (F p) h, scaled_top)

-- of every command of a problem
pub steps_in_64 : (p : Problem) (inputs zs : List ℤ) → Sized p → T (headroom p) → T (inputs_within p inputs) → All2 Inside p.commands zs
    → All2 (StepIn64 p inputs zs) p.commands zs
steps_in_64 p inputs zs s h k i =
    with_all (λ r z (a : SizedCommand p r × RangesFit p r) j. step_in_64 p inputs zs k i r a.1 s z a.0 j) (join1 (λ r c f. (c, f)) s.commands_sized (headroom_all p h)) i
