-- The calls on an image: the number of each for every input, and the bytes that it answers. Assumes nothing.
use Rattle.std.specs.Prelude.{ℕ, ◌+◌, ◌*◌, Bool, ◌&&◌, List, [], ◌∷◌, ◌++◌, map, eqb, leb, length, ℤ, pos, nat_abs}
use Rattle.word.specs.Word.{words_at, words_out, pattern_bytes}
use Rattle.gradient.specs.Problem.{cold_start}
use Rattle.gradient.specs.Scheme.{iterate}
use Rattle.gradient.specs.Bounds.{error_after}
use Rattle.gradient.specs.Demand.{every2, start_within}
use Rattle.optimum.specs.Optimum.{optimum_bound}
use Rattle.image.specs.declared.Sizes.{Sizes}
use Rattle.image.specs.declared.Input.{Input}
use Rattle.image.specs.declared.Input.TheVariants.{State, Target}
use Rattle.image.specs.Order.{Check, check, first_fault, or_else, buffer_number}
use Rattle.image.specs.Sizes.{command_count, input_count}
use Rattle.image.specs.Layout.{sizes_of, problem_of, limits_of}
use Rattle.interface.specs.Tables.{margin_of, image_number}

-- "state and start are big-endian words as in the image", and so is a target: the values of an input
unfoldable pub values_of : Input → Sizes → List ℕ → List ℤ
values_of v z values = words_at values 0 (input_count v z)

-- one list of inputs: the state, then the target
unfoldable pub inputs_of : Sizes → List ℕ → List ℕ → List ℤ
inputs_of z state target = values_of State z state ++ values_of Target z target

unfoldable pub start_of : Sizes → List ℕ → List ℤ
start_of z start = words_at start 0 (command_count z)

-- ---- a cold start
-- "a cold start likewise without 13 and 14"
unfoldable pub cold_number : List ℕ → ℕ → ℕ
cold_number image room = or_else (image_number image) (buffer_number (4 * command_count (sizes_of image)) room)

-- "the cold start, 4n bytes", "all zeros"
unfoldable pub cold_answer : List ℕ → List ℕ
cold_answer image = words_out (cold_start (problem_of image))

-- ---- the number of a solve
-- no value of an input is "beyond plus or minus its limit"
unfoldable pub values_within : Input → Sizes → List ℕ → List ℕ → Bool
values_within v z image values = every2 (λ (x : ℤ) (b : ℕ). leb (nat_abs x) b) (values_of v z values) (limits_of v z image)

-- 13 of a state, 16 of a target: "not nx words", or "not nr words", or a value beyond its limit
abbrev pub input_passes : Input → Sizes → List ℕ → List ℕ → Bool
input_passes v z image values = eqb (length values) (4 * input_count v z) && values_within v z image values

-- 16 and 14, of target and start
abbrev pub target_and_start : List ℕ → List ℕ → List ℕ → List Check
target_and_start image target start =
    let z = sizes_of image in
    check 16 (input_passes Target z image target)
    ∷ check 14 (eqb (length start) (4 * command_count z))
    ∷ check 14 (start_within (problem_of image) (start_of z start))
    ∷ []

-- 13, "directly after" it 16, 14
unfoldable pub call_number : List ℕ → List ℕ → List ℕ → List ℕ → ℕ
call_number image state target start = first_fault (check 13 (input_passes State (sizes_of image) image state) ∷ target_and_start image target start)

-- "a solve is tested 6, 3, 6, 5, then 7 to" 14, with 17 after 7 and 16 after 13: all of it but its own buffer
unfoldable pub solvable_number : List ℕ → List ℕ → List ℕ → List ℕ → ℕ
solvable_number image state target start = or_else (image_number image) (call_number image state target start)

-- how long an answer is: "8n bytes", which request 8 lets grow "by one unsigned 64-bit word"
abbrev pub answer_length : Sizes → ℕ
answer_length z = 8 * command_count z + 8

-- then "15"
unfoldable pub solve_number : List ℕ → List ℕ → List ℕ → List ℕ → ℕ → ℕ
solve_number image state target start room = or_else (solvable_number image state target start) (buffer_number (answer_length (sizes_of image)) room)

-- ---- the answer of a solve
-- the commands and the bounds after k sweeps
unfoldable pub commands_after : List ℕ → List ℕ → List ℕ → List ℕ → ℕ → List ℤ
commands_after image state target start k = (iterate (problem_of image) (inputs_of (sizes_of image) state target) (start_of (sizes_of image) start) k).z

unfoldable pub bounds_after : List ℕ → ℕ → List ℕ
bounds_after image k = (error_after (problem_of image) k).e

-- D of the commands after k sweeps; after the image's own these are "the last commands z"
unfoldable pub distance_after : List ℕ → List ℕ → List ℕ → List ℕ → ℕ → ℕ
distance_after image state target start k =
    optimum_bound (problem_of image) (margin_of image) (inputs_of (sizes_of image) state target) (commands_after image state target start k)

-- "8n bytes: n commands, then n bounds as unsigned 32-bit words, big-endian too"
abbrev pub commands_and_bounds : List ℕ → List ℕ → List ℕ → List ℕ → ℕ → List ℕ
commands_and_bounds image state target start k = words_out (commands_after image state target start k) ++ words_out (map pos (bounds_after image k))

-- the answer of k sweeps: behind them "one unsigned 64-bit word holding D, most significant byte first"
abbrev pub answer_after : List ℕ → List ℕ → List ℕ → List ℕ → ℕ → List ℕ
answer_after image state target start k = commands_and_bounds image state target start k ++ pattern_bytes (distance_after image state target start k)

-- "the answer" of a solve: after the image's own sweeps
unfoldable pub solve_answer : List ℕ → List ℕ → List ℕ → List ℕ → List ℕ
solve_answer image state target start = answer_after image state target start (sizes_of image).sweeps
