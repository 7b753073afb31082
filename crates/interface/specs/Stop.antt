-- "Stop must be possible", request 6: what check 17 and a cold start of all zeros come to, as statements; accepted starts. Definitions only.
use Rattle.std.specs.Prelude.{true, List, ◌≡◌, ℕ, ◌*◌, leb, length, take, replicate}
use Rattle.word.specs.Format.{top}
use Rattle.gradient.specs.Index.{all_to}
use Rattle.gradient.specs.Problem.{cold_start}
use Rattle.gradient.specs.Bounds.{range_y}
use Rattle.gradient.specs.Demand.{start_within}
use Rattle.image.specs.declared.Sizes.{Sizes}
use Rattle.image.specs.Sizes.{command_count}
use Rattle.image.specs.Layout.{sizes_of, command_at, problem_at, problem_of}
use Rattle.interface.specs.Tables.{stop_test, range_test}
use Rattle.interface.specs.Calls.{start_of, cold_answer}

-- "a drive must always be able to command zero", "zero at a limit is allowed": 17 passes exactly where all zeros are within the limits, as
-- 14 asks of a start
abbrev pub StopsExactly : Sizes → List ℕ → Type 0
StopsExactly z s = all_to (stop_test z s) (command_count z) ≡ start_within (problem_at z s) (cold_start (problem_at z s))

-- "the cold start is then all zeros": 4n bytes, each 0
abbrev pub AllZeros : List ℕ → Type 0
AllZeros image = cold_answer image ≡ replicate (4 * command_count (sizes_of image)) 0

-- an accepted start, which no solve refuses with 14
pub record AcceptedStart (image start : List ℕ) : Type 0 where
  pub size : length start ≡ 4 * command_count (sizes_of image)
  pub within : start_within (problem_of image) (start_of (sizes_of image) start) ≡ true

-- the "n commands" of an answer, its first 4n bytes, are an accepted start: the next solve can go on from them
abbrev pub StartsAgain : List ℕ → List ℕ → Type 0
StartsAgain image answer = AcceptedStart image (take (4 * command_count (sizes_of image)) answer)

-- of P and Y in 12, Y alone decides
abbrev pub YDecides : Sizes → List ℕ → ℕ → Type 0
YDecides z s i = range_test z s i ≡ leb (range_y (problem_at z s) (command_at z s i)) (top z.w)
