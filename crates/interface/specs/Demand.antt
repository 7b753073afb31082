-- Demand 3 on bytes, over the very definitions that the calls' promises cite. Assumes nothing.
use Rattle.std.specs.Prelude.{List, ◌≡◌, ℕ, ◌+◌, ◌*◌, ◌≤◌, ℤ}
use Rattle.word.specs.Buffer.{put_at}
use Rattle.word.specs.Word.{bytes_of, nat_at, pattern_at, words_at}
use Rattle.gradient.specs.Vector.{All2}
use Rattle.gradient.specs.Index.{tab}
use Rattle.gradient.specs.Exact.{exact_after}
use Rattle.gradient.specs.Demand.{Claim, Inside, Within}
use Rattle.optimum.specs.Optimum.{NearOptimum}
use Rattle.image.specs.Sizes.{command_count}
use Rattle.image.specs.Layout.{sizes_of, problem_of}
use Rattle.interface.specs.Tables.{image_number}
use Rattle.interface.specs.Calls.{inputs_of, start_of, answer_after, solve_number, solve_answer}

-- the whole claim for "every number of sweeps up to the image's own": after each of them, of the solve so far, the start and the first sweep
-- among it
unfoldable pub SolveClaim : List ℕ → List ℕ → List ℕ → List ℕ → Type 0
SolveClaim image state target start =
    (k : ℕ) → 1 ≤ k → k ≤ (sizes_of image).sweeps → Claim (problem_of image) (inputs_of (sizes_of image) state target) (start_of (sizes_of image) start) k

-- what an answer says: "n commands, then n bounds as unsigned 32-bit words", then "one unsigned 64-bit word holding D"
unfoldable pub answered_commands : ℕ → List ℕ → List ℤ
answered_commands n answer = words_at answer 0 n

unfoldable pub answered_bounds : ℕ → List ℕ → List ℕ
answered_bounds n answer = tab (λ (i : ℕ). nat_at answer (4 * n + 4 * i)) n

unfoldable pub answered_distance : ℕ → List ℕ → ℕ
answered_distance n answer = pattern_at answer (8 * n)

-- a label's two sentences, of the bytes of an answer. Each command "is inside its limits, and differs from the exact scheme's by at most its
-- bound"; "for every sequence of fractions .. that equals its own held gradient step .. each command is within D counts of it"
pub record Guarantee (image state target start answer : List ℕ) : Type 0 where
  pub limits : All2 Inside (problem_of image).commands (answered_commands (command_count (sizes_of image)) answer)
  pub from_exact : Within (exact_after (problem_of image) (inputs_of (sizes_of image) state target) (start_of (sizes_of image) start) (sizes_of image).sweeps) (answered_commands (command_count (sizes_of image)) answer) (answered_bounds (command_count (sizes_of image)) answer)
  pub from_optimum : NearOptimum (problem_of image) (inputs_of (sizes_of image) state target) (answered_commands (command_count (sizes_of image)) answer) (answered_distance (command_count (sizes_of image)) answer)

-- "the same image with s as its sweeps": word 5
unfoldable pub with_sweeps : ℕ → List ℕ → List ℕ
with_sweeps k image = put_at image 20 (bytes_of k)

-- "the commands and bounds after sweep s", and D with them, "are also what a solve answers for the same state and start", and target, "and
-- the same image with s as its sweeps": that image is accepted too, a call on it has the same number, and this is its answer
pub record Prefix (image state target start : List ℕ) (room k : ℕ) : Type 0 where
  pub accepted : image_number (with_sweeps k image) ≡ 0
  pub number : solve_number (with_sweeps k image) state target start room ≡ solve_number image state target start room
  pub answer : solve_answer (with_sweeps k image) state target start ≡ answer_after image state target start k
