-- Request 12: the number of a solve with ranges for every input, and the bytes that it answers. Assumes nothing.
use Rattle.std.specs.Prelude.{ℕ, ◌*◌, Bool, ◌&&◌, List, ◌∷◌, ◌++◌, map, eqb, length}
use Rattle.word.specs.Word.{words_at, words_out}
use Rattle.gradient.specs.Vector.{zip_with}
use Rattle.gradient.specs.Demand.{every2}
use Rattle.image.specs.declared.Sizes.{Sizes}
use Rattle.image.specs.declared.Input.TheVariants.{State, Target}
use Rattle.image.specs.Order.{check, first_fault, or_else, buffer_number}
use Rattle.image.specs.Sizes.{command_count}
use Rattle.image.specs.Layout.{sizes_of, problem_of, limits_of}
use Rattle.interface.specs.Tables.{image_number}
use Rattle.interface.specs.Calls.{values_of, start_of, target_and_start}
use Rattle.ranges.specs.Interval.{Interval, interval, low, high, end_of, input_intervals}
use Rattle.ranges.specs.Sweeps.{interval_iterate}
use Rattle.ranges.specs.Claim.{interval_within}

-- ---- ranges as bytes, lent and answered
-- "low words and then .. high words", n of each: "a low and a high for each"
unfoldable pub intervals_at : ℕ → List ℕ → List Interval
intervals_at n bytes = zip_with interval (words_at bytes 0 n) (words_at bytes (4 * n) n)

-- "the lowest .., then the highest"
unfoldable pub intervals_out : List Interval → List ℕ
intervals_out xs = words_out (map (end_of low) xs) ++ words_out (map (end_of high) xs)

-- "a low and a high for each state value"
abbrev pub ranges_of : Sizes → List ℕ → List Interval
ranges_of z ranges = intervals_at z.nx ranges

-- the ranges, then the target
abbrev pub range_inputs_of : Sizes → List ℕ → List ℕ → List Interval
range_inputs_of z ranges target = input_intervals (ranges_of z ranges) (values_of Target z target)

-- ---- the number
-- no "low above its high, or an end beyond the state limit"
unfoldable pub ranges_within : Sizes → List ℕ → List ℕ → Bool
ranges_within z image ranges = every2 interval_within (ranges_of z ranges) (limits_of State z image)

-- 13 of ranges: "another length is 13", and so are these
abbrev pub ranges_pass : Sizes → List ℕ → List ℕ → Bool
ranges_pass z image ranges = eqb (length ranges) (8 * z.nx) && ranges_within z image ranges

-- 13, 16, 14, in the order of a solve
unfoldable pub range_call_number : List ℕ → List ℕ → List ℕ → List ℕ → ℕ
range_call_number image ranges target start = first_fault (check 13 (ranges_pass (sizes_of image) image ranges) ∷ target_and_start image target start)

-- the image's own before them
unfoldable pub range_solvable_number : List ℕ → List ℕ → List ℕ → List ℕ → ℕ
range_solvable_number image ranges target start = or_else (image_number image) (range_call_number image ranges target start)

-- "the answer is 8n bytes"
abbrev pub range_answer_length : Sizes → ℕ
range_answer_length z = 8 * command_count z

-- then 15
unfoldable pub range_solve_number : List ℕ → List ℕ → List ℕ → List ℕ → ℕ → ℕ
range_solve_number image ranges target start room = or_else (range_solvable_number image ranges target start) (buffer_number (range_answer_length (sizes_of image)) room)

-- ---- the answer
-- the carried commands after k sweeps
unfoldable pub ranges_after : List ℕ → List ℕ → List ℕ → List ℕ → ℕ → List Interval
ranges_after image ranges target start k = (interval_iterate (problem_of image) (range_inputs_of (sizes_of image) ranges target) (start_of (sizes_of image) start) k).z

-- "8n bytes, the lowest commands, then the highest", after the image's own sweeps
unfoldable pub range_answer : List ℕ → List ℕ → List ℕ → List ℕ → List ℕ
range_answer image ranges target start = intervals_out (ranges_after image ranges target start (sizes_of image).sweeps)
