-- Demand 3 on bytes, proved: for every image, state, target and start that a solve accepts. Assumes nothing.
use mathlib.Core.Path.{◌≡◌, sym, ◌∙◌}
use mathlib.Core.Bool.{true}
use mathlib.Core.List.{List}
use Prim.Native.Nat.{ℕ, ◌+◌, ◌*◌, ◌≤◌}
use native.Mathlib.Omega.{arith}
use lib.Dec.{eqb, lit<, lit≤}
use lib.ListN.{length, length-append}
use borrow.Author.Tests.{eqb-true}
use Rattle.word.proofs.Words.{length_words_at}
use Rattle.gradient.specs.Demand.{Demand3, FirstSweep, inputs_within, start_within}
use Rattle.gradient.proofs.Demand as theorem
use Rattle.gradient.proofs.Append.{every2_append}
use Rattle.gradient.proofs.Sizes.{matrix_sized}
use Rattle.gradient.proofs.Tests.{of_true}
use Rattle.image.specs.declared.Sizes.{Sizes}
use Rattle.image.specs.declared.Input.{Input}
use Rattle.image.specs.declared.Input.TheVariants.{State, Target}
use Rattle.image.specs.Sizes.{command_count, input_count}
use Rattle.image.specs.Layout.{sizes_of, problem_at, problem_of, limits_of}
use Rattle.image.proofs.Ordering.{passed, both, none, buffer_length}
use Rattle.interface.specs.Tables.{image_number}
use Rattle.interface.specs.Calls.{values_of, inputs_of, start_of, values_within, input_passes, call_number, solvable_number, answer_length, solve_number, cold_number}
use Rattle.interface.specs.Accepted.{Solvable}
use Rattle.interface.specs.Demand.{SolveClaim}
use Rattle.interface.proofs.Accept.{accepted, limits_count}

-- the values of an input, and both inputs within their limits
pub values_count : (v : Input) (z : Sizes) (values : List ℕ) → length (values_of v z values) ≡ input_count v z
unfolding values_of
values_count v z values = length_words_at values 0 (input_count v z)

pub inputs_length : (z : Sizes) (state target : List ℕ) → length (inputs_of z state target) ≡ z.nx + z.nr
unfolding inputs_of
inputs_length z state target = omega (arith, length-append (values_of State z state) (values_of Target z target), values_count State z state, values_count Target z target)

pub start_length : (z : Sizes) (start : List ℕ) → length (start_of z start) ≡ command_count z
unfolding start_of
start_length z start = length_words_at start 0 (command_count z)

inputs_within_lem : (z : Sizes) (image state target : List ℕ) → values_within State z image state ≡ true → values_within Target z image target ≡ true
    → inputs_within (problem_at z image) (inputs_of z state target) ≡ true
unfolding inputs_within inputs_of values_within problem_at
inputs_within_lem z image state target h k =
    rw (every2_append _ (values_of State z state) (values_of Target z target) (limits_of State z image) (limits_of Target z image) (values_count State z state ∙ sym (limits_count z image State)), h)
    k

-- number 0 of a solve but for its buffer: what its code requires
pub solvable : (image state target start : List ℕ) → solvable_number image state target start ≡ 0 → Solvable image state target start
unfolding solvable_number call_number problem_of
solvable image state target start e =
    let a = none (image_number image) _ e in
    let z = sizes_of image in
    let p = problem_of image in
    let p₁ = passed (input_passes State z image state) 13 _ (lit< tt) a.1 in
    let p₂ = passed (input_passes Target z image target) 16 _ (lit< tt) p₁.1 in
    let p₃ = passed (eqb (length start) (4 * command_count z)) 14 _ (lit< tt) p₂.1 in
    let p₄ = passed (start_within p (start_of z start)) 14 _ (lit< tt) p₃.1 in
    let x = both (eqb (length state) (4 * z.nx)) (values_within State z image state) p₁.0 in
    let t = both (eqb (length target) (4 * z.nr)) (values_within Target z image target) p₂.0 in
    record {
      accepted = accepted image a.0;
      state_size = eqb-true _ _ x.0;
      target_size = eqb-true _ _ t.0;
      inputs = of_true (inputs_within_lem z image state target x.1 t.1);
      start_size = eqb-true _ _ p₃.0;
      starts = of_true p₄.0;
    }

-- the image of such a solve
pub solvable_image : (image state target start : List ℕ) → solvable_number image state target start ≡ 0 → image_number image ≡ 0
unfolding solvable_number
solvable_image image state target start e = (none (image_number image) _ e).0

-- number 0 of a solve
pub accepted_solve : (image state target start : List ℕ) (room : ℕ) → solve_number image state target start room ≡ 0
    → (solvable_number image state target start ≡ 0) × (room ≡ answer_length (sizes_of image))
unfolding solve_number
accepted_solve image state target start room e =
    let a = none (solvable_number image state target start) _ e in
    (a.0, buffer_length (answer_length (sizes_of image)) room a.1)

-- number 0 of a cold start: the length of its buffer
pub cold_room : (image : List ℕ) (room : ℕ) → cold_number image room ≡ 0 → room ≡ 4 * command_count (sizes_of image)
unfolding cold_number
cold_room image room e = buffer_length (4 * command_count (sizes_of image)) room (none (image_number image) _ e).1

module _ (image state target start : List ℕ) (s : Solvable image state target start) where
  pub all_claims : Demand3 (problem_of image) (inputs_of (sizes_of image) state target) (start_of (sizes_of image) start)
  all_claims =
      theorem.demand3 (problem_of image) (inputs_of (sizes_of image) state target) (start_of (sizes_of image) start) s.accepted.format (matrix_sized (problem_of image) s.accepted.sized) s.accepted.order s.accepted.room s.inputs s.starts

  pub claims : SolveClaim image state target start
  unfolding SolveClaim Demand3
  claims k l h = all_claims k

-- the theorem: whatever a solve accepts
pub demand3 : (image state target start : List ℕ) (room : ℕ) → solve_number image state target start room ≡ 0 → SolveClaim image state target start
demand3 image state target start room e = claims image state target start (solvable image state target start (accepted_solve image state target start room e).0)

-- the first sweep, read off the claim on bytes
pub first_sweep : (image state target start : List ℕ) → 1 ≤ (sizes_of image).sweeps → SolveClaim image state target start → FirstSweep (problem_of image) (inputs_of (sizes_of image) state target) (start_of (sizes_of image) start)
unfolding SolveClaim
first_sweep image state target start h c =
    theorem.first_sweep (problem_of image) (inputs_of (sizes_of image) state target) (start_of (sizes_of image) start) 1 (lit≤ tt) (c 1 (lit≤ tt) h)
