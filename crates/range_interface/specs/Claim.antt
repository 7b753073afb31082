-- Request 12 on bytes, over the very definitions that the calls' promises cite. Assumes nothing.
use Rattle.std.specs.Prelude.{List, ◌++◌, map, ◌≡◌, ℕ, ◌*◌, ◌≤◌, length, take}
use Rattle.gradient.specs.Problem.{Command}
use Rattle.gradient.specs.Vector.{All2}
use Rattle.gradient.specs.Demand.{Inside}
use Rattle.image.specs.declared.Input.TheVariants.{State}
use Rattle.image.specs.Order.{or_else, buffer_number}
use Rattle.image.specs.Sizes.{command_count}
use Rattle.image.specs.Layout.{sizes_of, problem_of}
use Rattle.interface.specs.Calls.{values_of, start_of, commands_after, answer_length, solvable_number, solve_number, solve_answer}
use Rattle.interface.specs.Demand.{answered_commands}
use Rattle.ranges.specs.Interval.{degenerate, Encloses}
use Rattle.ranges.specs.Claim.{Ends, InOrder, IntervalClaim}
use Rattle.range_interface.specs.Calls.{intervals_at, ranges_of, range_inputs_of, range_answer_length, range_solve_number, ranges_after}

-- "for every state inside the ranges"
pub record StateInside (image ranges state : List ℕ) : Type 0 where
  pub size : length state ≡ 4 * (sizes_of image).nx
  pub within : All2 Encloses (ranges_of (sizes_of image) ranges) (values_of State (sizes_of image) state)

-- "start and target being the same", an "ordinary solve" of that state is accepted, and "after each sweep" its commands "lie between the two
-- sequences"
pub record StateEnclosed (image ranges target start state : List ℕ) : Type 0 where
  pub accepted : solve_number image state target start (answer_length (sizes_of image)) ≡ 0
  pub between : (k : ℕ) → All2 Encloses (ranges_after image ranges target start k) (commands_after image state target start k)

-- the whole claim for every number of sweeps up to the image's own, the start and the first sweep among it: carried values in the word,
-- undivided sums in 64 bits, both commands inside the limits, each lowest at most its highest, and every solve in between
unfoldable pub RangeClaim : List ℕ → List ℕ → List ℕ → List ℕ → Type 0
RangeClaim image ranges target start =
    (k : ℕ) → k ≤ (sizes_of image).sweeps → IntervalClaim (problem_of image) (range_inputs_of (sizes_of image) ranges target) (start_of (sizes_of image) start) k

-- "ranges of one value give that solve's commands twice": for every input the call has that solve's number but for the rooms, the answer's
-- own 15 in the place of its; and after every sweep the same commands
pub record OneValue (image state target start : List ℕ) : Type 0 where
  pub number : (room : ℕ) → range_solve_number image (state ++ state) target start room ≡ or_else (solvable_number image state target start) (buffer_number (range_answer_length (sizes_of image)) room)
  pub twice : length state ≡ 4 * (sizes_of image).nx → (k : ℕ) → ranges_after image (state ++ state) target start k ≡ map degenerate (commands_after image state target start k)

-- ---- of the bytes of an answer
-- the ordinary solve of a state is accepted, and the commands that it answers lie between the two that are answered here
pub record SolveBetween (image target start answer state : List ℕ) : Type 0 where
  pub accepted : solve_number image state target start (answer_length (sizes_of image)) ≡ 0
  pub between : All2 Encloses (intervals_at (command_count (sizes_of image)) answer) (answered_commands (command_count (sizes_of image)) (solve_answer image state target start))

-- the 4n bytes of the commands that an ordinary solve answers
abbrev pub command_bytes : List ℕ → List ℕ → List ℕ → List ℕ → List ℕ
command_bytes image state target start = take (4 * command_count (sizes_of image)) (solve_answer image state target start)

-- both commands are inside the limits, the lowest at most the highest; every state inside the ranges has its solve in between; and "ranges of
-- one value give that solve's commands twice"
pub record RangeGuarantee (image ranges target start answer : List ℕ) : Type 0 where
  pub limits : All2 (λ (r : Command). Ends (Inside r)) (problem_of image).commands (intervals_at (command_count (sizes_of image)) answer)
  pub in_order : InOrder (intervals_at (command_count (sizes_of image)) answer)
  pub enclosed : (state : List ℕ) → StateInside image ranges state → SolveBetween image target start answer state
  pub one_value : (state : List ℕ) → ranges ≡ state ++ state → answer ≡ command_bytes image state target start ++ command_bytes image state target start
