-- "For every state inside the ranges, the ordinary solve's commands lie between the two sequences after each sweep", on bytes. Assumes nothing.
use mathlib.Core.Path.{◌≡◌, refl}
use mathlib.Core.Bool.{true}
use mathlib.Core.List.{List}
use Prim.Native.Nat.{ℕ, ◌*◌}
use lib.ListN.{length}
use borrow.Author.Tests.{eq-eqb}
use Rattle.gradient.specs.Vector.{All2}
use Rattle.image.specs.declared.Input.TheVariants.{State, Target}
use Rattle.image.specs.Layout.{sizes_of, problem_of, limits_of}
use Rattle.interface.specs.Calls.{values_of, inputs_of, start_of, values_within, call_number, answer_length, solvable_number, solve_number, commands_after}
use Rattle.ranges.specs.Interval.{Encloses}
use Rattle.ranges.proofs.Interval.{inputs_enclose}
use Rattle.ranges.proofs.Tests.{enclosed_within}
use Rattle.ranges.proofs.Enclosed as sweeps
use Rattle.range_interface.specs.Calls.{range_inputs_of, ranges_within, range_solvable_number, range_solve_number, ranges_after}
use Rattle.range_interface.specs.Claim.{StateInside, StateEnclosed}
use Rattle.range_interface.proofs.Accept.{range_passed, range_solvable, accepted_range_solve}

module _ {image ranges state : List ℕ} (i : StateInside image ranges state) where
  values_inside : ranges_within (sizes_of image) image ranges ≡ true → values_within State (sizes_of image) image state ≡ true
  unfolding values_within ranges_within
  values_inside h = enclosed_within (limits_of State (sizes_of image) image) h i.within

  module _ (target start : List ℕ) (e : range_solvable_number image ranges target start ≡ 0) where
    -- the ordinary solve passes 13, and so all that this one passed
    pub inside_solvable : solvable_number image state target start ≡ 0
    unfolding solvable_number call_number
    inside_solvable =
        let p = range_passed image ranges target start e in
        rw (p.image_passed, eq-eqb (length state) (4 * (sizes_of image).nx) i.size, values_inside p.ranges_within_lem, p.target_passes, p.start_size, p.start_within_lem)

    pub inside_accepted : solve_number image state target start (answer_length (sizes_of image)) ≡ 0
    unfolding solve_number
    inside_accepted = rw (inside_solvable, eq-eqb (answer_length (sizes_of image)) (answer_length (sizes_of image)) refl)

    pub commands_between : (k : ℕ) → All2 Encloses (ranges_after image ranges target start k) (commands_after image state target start k)
    unfolding ranges_after commands_after inputs_of
    commands_between k =
        (sweeps.enclosed (problem_of image) (range_solvable image ranges target start e).accepted.order (range_inputs_of (sizes_of image) ranges target) (inputs_of (sizes_of image) state target) (start_of (sizes_of image) start) (inputs_enclose (values_of Target (sizes_of image) target) i.within) k).z_between

-- the theorem: whatever a solve with ranges accepts, and whatever state inside them
pub enclosed : (image ranges target start : List ℕ) (room : ℕ) → range_solve_number image ranges target start room ≡ 0
    → (state : List ℕ) → StateInside image ranges state → StateEnclosed image ranges target start state
enclosed image ranges target start room e state i =
    let n = (accepted_range_solve image ranges target start room e).0 in
    record { accepted = inside_accepted i target start n; between = commands_between i target start n }
