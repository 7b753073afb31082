-- What acceptance says, as facts that the code of a solve and the law of a cold start ask for. Assumes nothing.
use Rattle.std.specs.Prelude.{List, ◌≡◌, ℕ, ◌*◌, pos, ◌≤ℤ◌, T, length}
use Rattle.gradient.specs.Problem.{cold_start}
use Rattle.gradient.specs.Sizes.{Sized}
use Rattle.gradient.specs.Demand.{formatted, ordered, headroom, inputs_within, start_within}
use Rattle.optimum.specs.Optimum.{contracting}
use Rattle.image.specs.Sizes.{Whole, command_count}
use Rattle.image.specs.Layout.{sizes_of, problem_of}
use Rattle.interface.specs.Tables.{least_margin, margin_of}
use Rattle.interface.specs.Calls.{inputs_of, start_of}

-- "an image is accepted when none of the checks on the image and its tables refuses it": what that gives
pub record Accepted (image : List ℕ) : Type 0 where
  pub whole : Whole (sizes_of image) image
  pub sized : Sized (problem_of image)
  pub format : T (formatted (problem_of image))
  pub order : T (ordered (problem_of image))
  pub stop : T (start_within (problem_of image) (cold_start (problem_of image)))
  pub room : T (headroom (problem_of image))

-- 13, 16 and 14 passed too
pub record Solvable (image state target start : List ℕ) : Type 0 where
  pub accepted : Accepted image
  pub state_size : length state ≡ 4 * (sizes_of image).nx
  pub target_size : length target ≡ 4 * (sizes_of image).nr
  pub inputs : T (inputs_within (problem_of image) (inputs_of (sizes_of image) state target))
  pub start_size : length start ≡ 4 * command_count (sizes_of image)
  pub starts : T (start_within (problem_of image) (start_of (sizes_of image) start))

-- 9 and 10 passed, as D of request 8 asks them; the rest of a solve, and demand 3, ask neither: m is at least 1 count, and a gradient step
-- brings any two sequences nearer by m of 2^b
pub record Dominant (image : List ℕ) : Type 0 where
  pub positive : pos 1 ≤ℤ least_margin (sizes_of image) image
  pub contracts : T (contracting (problem_of image) (margin_of image))
