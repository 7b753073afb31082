-- "Ranges of one value give that solve's commands twice", on bytes: the number for every input, and the commands. Assumes nothing.
use mathlib.Core.Path.{◌≡◌, refl, ap, ◌∙◌}
use mathlib.Core.Bool.{Bool, true, false}
use mathlib.Core.List.{List, ◌++◌, map}
use Prim.Native.Nat.{ℕ, ◌*◌}
use native.Mathlib.Omega.{arith}
use lib.Dec.{eqb}
use lib.ListN.{length, length-append}
use borrow.Author.Tests.{eqb-true, eqb-false, eq-eqb, ne_eqb}
use Rattle.image.specs.declared.Sizes.{Sizes}
use Rattle.image.specs.declared.Input.TheVariants.{State, Target}
use Rattle.image.specs.Layout.{sizes_of, problem_of, limits_of}
use Rattle.interface.specs.Calls.{values_of, inputs_of, start_of, values_within, input_passes, call_number, solvable_number, commands_after}
use Rattle.ranges.specs.Interval.{Interval, degenerate, input_intervals}
use Rattle.ranges.specs.Sweeps.{IntervalIterate, interval_iterate}
use Rattle.ranges.proofs.Same.{state_same}
use Rattle.ranges.proofs.Tests.{degenerates_within}
use Rattle.range_interface.specs.Calls.{ranges_of, ranges_within, ranges_pass, range_call_number, range_solvable_number, range_solve_number, ranges_after}
use Rattle.range_interface.specs.Claim.{OneValue}
use Rattle.range_interface.proofs.Words.{intervals_twice}

-- ---- both halves are the state
module _ (z : Sizes) (state : List ℕ) (e : length state ≡ 4 * z.nx) where
  ranges_are : ranges_of z (state ++ state) ≡ map degenerate (values_of State z state)
  unfolding values_of
  ranges_are = intervals_twice state z.nx e

  within_is : (image : List ℕ) → ranges_within z image (state ++ state) ≡ values_within State z image state
  unfolding ranges_within values_within
  within_is image = rw ranges_are (degenerates_within (values_of State z state) (limits_of State z image))

passes_is : (z : Sizes) (image state : List ℕ) → ranges_pass z image (state ++ state) ≡ input_passes State z image state
passes_is z image state = by (eqb (length state) (4 * z.nx)) refl
  where
    by : (t : Bool) → eqb (length state) (4 * z.nx) ≡ t → ranges_pass z image (state ++ state) ≡ input_passes State z image state
    by true q =
        let l = eqb-true (length state) (4 * z.nx) q in
        rw (q, eq-eqb (length (state ++ state)) (8 * z.nx) (omega (arith, length-append state state)), within_is z state l image)
    by false q = rw (q, ne_eqb (length (state ++ state)) (8 * z.nx) (λ h. eqb-false (length state) (4 * z.nx) q (omega (arith, length-append state state))))

-- ---- the carried lists
module _ (image state target start : List ℕ) where
  pub twice : length state ≡ 4 * (sizes_of image).nx → (k : ℕ) → ranges_after image (state ++ state) target start k ≡ map degenerate (commands_after image state target start k)
  unfolding ranges_after commands_after inputs_of
  twice e k =
      let p = problem_of image in
      let z = sizes_of image in
      ap (λ (xs : List Interval). (interval_iterate p (input_intervals xs (values_of Target z target)) (start_of z start) k).z) (ranges_are z state e)
      ∙ ap (λ (s : IntervalIterate). s.z) (state_same p (values_of State z state) (values_of Target z target) (start_of z start) k)

  -- the law, for every input
  pub one_value : OneValue image state target start
  unfolding range_solve_number range_solvable_number range_call_number solvable_number call_number
  one_value = record {
    number = λ room. rw (passes_is (sizes_of image) image state) refl;
    twice = twice;
  }
