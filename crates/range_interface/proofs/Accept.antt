-- Number 0 of a solve with ranges gives what its theorem and its code ask. Assumes nothing.
use mathlib.Core.Path.{◌≡◌, sym, ◌∙◌}
use mathlib.Core.Bool.{true}
use mathlib.Core.List.{List}
use Prim.Native.Nat.{ℕ, ◌*◌}
use lib.Dec.{eqb, lit<}
use lib.ListN.{length}
use borrow.Author.Tests.{eqb-true}
use Rattle.gradient.specs.Demand.{start_within}
use Rattle.gradient.proofs.Tests.{of_true}
use Rattle.image.specs.declared.Sizes.{Sizes}
use Rattle.image.specs.declared.Input.TheVariants.{State, Target}
use Rattle.image.specs.Sizes.{command_count}
use Rattle.image.specs.Layout.{sizes_of, problem_at, problem_of, limits_of}
use Rattle.image.proofs.Ordering.{passed, both, none, buffer_length}
use Rattle.interface.specs.Tables.{image_number}
use Rattle.interface.specs.Calls.{values_of, values_within, input_passes, start_of}
use Rattle.interface.proofs.Accept.{accepted, limits_count}
use Rattle.ranges.specs.Claim.{intervals_within}
use Rattle.ranges.proofs.Claim.{interval_claim}
use Rattle.ranges.proofs.Tests as tests
use Rattle.range_interface.specs.Calls.{ranges_of, range_inputs_of, ranges_within, ranges_pass, range_call_number, range_solvable_number, range_answer_length, range_solve_number}
use Rattle.range_interface.specs.Accepted.{RangeSolvable}
use Rattle.range_interface.specs.Claim.{RangeClaim}
use Rattle.range_interface.proofs.Words.{intervals_count}

-- ranges and target within their limits
inputs_within_lem : (z : Sizes) (image ranges target : List ℕ) → ranges_within z image ranges ≡ true → values_within Target z image target ≡ true
    → intervals_within (problem_at z image) (range_inputs_of z ranges target) ≡ true
unfolding intervals_within ranges_within values_within problem_at
inputs_within_lem z image ranges target h k =
    rw (tests.inputs_within_lem (ranges_of z ranges) (values_of Target z target) (limits_of State z image) (limits_of Target z image) (intervals_count z.nx ranges ∙ sym (limits_count z image State)), h) k

-- ---- each test that has passed
pub record RangePassed (image ranges target start : List ℕ) : Type 0 where
  pub image_passed : image_number image ≡ 0
  pub ranges_size : length ranges ≡ 8 * (sizes_of image).nx
  pub ranges_within_lem : ranges_within (sizes_of image) image ranges ≡ true
  pub target_passes : input_passes Target (sizes_of image) image target ≡ true
  pub start_size : eqb (length start) (4 * command_count (sizes_of image)) ≡ true
  pub start_within_lem : start_within (problem_of image) (start_of (sizes_of image) start) ≡ true

pub range_passed : (image ranges target start : List ℕ) → range_solvable_number image ranges target start ≡ 0 → RangePassed image ranges target start
unfolding range_solvable_number range_call_number
range_passed image ranges target start e =
    let a = none (image_number image) _ e in
    let z = sizes_of image in
    let p₁ = passed (ranges_pass z image ranges) 13 _ (lit< tt) a.1 in
    let p₂ = passed (input_passes Target z image target) 16 _ (lit< tt) p₁.1 in
    let p₃ = passed (eqb (length start) (4 * command_count z)) 14 _ (lit< tt) p₂.1 in
    let p₄ = passed (start_within (problem_of image) (start_of z start)) 14 _ (lit< tt) p₃.1 in
    let x = both (eqb (length ranges) (8 * z.nx)) (ranges_within z image ranges) p₁.0 in
    record {
      image_passed = a.0;
      ranges_size = eqb-true _ _ x.0;
      ranges_within_lem = x.1;
      target_passes = p₂.0;
      start_size = p₃.0;
      start_within_lem = p₄.0;
    }

-- number 0 but for the buffer: what the code requires
pub range_solvable : (image ranges target start : List ℕ) → range_solvable_number image ranges target start ≡ 0 → RangeSolvable image ranges target start
unfolding problem_of
range_solvable image ranges target start e =
    let p = range_passed image ranges target start e in
    let z = sizes_of image in
    let t = both (eqb (length target) (4 * z.nr)) (values_within Target z image target) p.target_passes in
    record {
      accepted = accepted image p.image_passed;
      ranges_size = p.ranges_size;
      target_size = eqb-true _ _ t.0;
      inputs = of_true (inputs_within_lem z image ranges target p.ranges_within_lem t.1);
      start_size = eqb-true _ _ p.start_size;
      starts = of_true p.start_within_lem;
    }

-- number 0
pub accepted_range_solve : (image ranges target start : List ℕ) (room : ℕ) → range_solve_number image ranges target start room ≡ 0
    → (range_solvable_number image ranges target start ≡ 0) × (room ≡ range_answer_length (sizes_of image))
unfolding range_solve_number
accepted_range_solve image ranges target start room e =
    let a = none (range_solvable_number image ranges target start) _ e in
    (a.0, buffer_length _ _ a.1)

-- ---- the theorem: whatever a solve with ranges accepts
pub range_claims : {image ranges target start : List ℕ} → RangeSolvable image ranges target start → RangeClaim image ranges target start
unfolding RangeClaim
range_claims {image} {ranges} {target} {start} s k l =
    interval_claim (problem_of image) (range_inputs_of (sizes_of image) ranges target) (start_of (sizes_of image) start) s.accepted.format s.accepted.order s.accepted.room s.inputs s.starts k

pub range_claim : (image ranges target start : List ℕ) (room : ℕ) → range_solve_number image ranges target start room ≡ 0 → RangeClaim image ranges target start
range_claim image ranges target start room e = range_claims (range_solvable image ranges target start (accepted_range_solve image ranges target start room e).0)
