-- Request 12: solves with ranges, worked out by hand, over the definitions that the call's promise cites. Assumes nothing.
use Rattle.std.specs.Prelude.{Bool, ◌&&◌, List, [], ◌∷◌, ◌++◌, map, ℕ, eqb, ℤ, pos, neg_ℤ, length}
use Rattle.word.specs.Word.{words_out}
use Rattle.gradient.specs.Demand.{every2}
use Rattle.interface.specs.Demand.{with_sweeps}
use Rattle.range_interface.specs.Calls.{range_solve_number, range_answer}

pub data Case : Type 0 where
  -- an image with ranges, a target and a start has number 0, and answers these commands, the lowest and then the highest
  answers : List ℕ → List ℤ → List ℤ → List ℤ → List ℤ → Case
  -- an image with the bytes of ranges, of a target and of a start, and an answer of that many bytes, has this number
  numbers : List ℕ → List ℕ → List ℕ → List ℕ → ℕ → ℕ → Case

unfoldable pub holds : Case → Bool
holds (answers image ranges target start commands) =
    let answer = words_out commands in
    eqb (range_solve_number image (words_out ranges) (words_out target) (words_out start) (length answer)) 0
    && every2 eqb (range_answer image (words_out ranges) (words_out target) (words_out start)) answer
holds (numbers image ranges target start room number) = eqb (range_solve_number image ranges target start room) number

abbrev minus : ℕ → ℤ
minus n = neg_ℤ (pos n)

-- ---- the images
-- document 01's S: M 1/2, Φ 1, limits −20 and 20, state limit 10
unfoldable pub S : List ℕ
S = words_out (map pos (1 ∷ 1 ∷ 1 ∷ 4 ∷ 8 ∷ 3 ∷ 0 ∷ 0 ∷ 8 ∷ 16 ∷ []) ++ (minus 20 ∷ map pos (20 ∷ 0 ∷ 10 ∷ [])))

-- one motor, two steps, two state values and a target value, β 4 counts: M has rows (6, −3), (−3, 7), Φ rows (5, −7), (−4, 9), and the
-- target table 3, −2, in counts; the limits are −20 to 20 and −15 to 12, those of the inputs 10
unfoldable pub pair : List ℕ
pair =
    words_out
    (map pos (1 ∷ 2 ∷ 2 ∷ 4 ∷ 8 ∷ 4 ∷ 1 ∷ 0 ∷ 10 ∷ 3 ∷ 3 ∷ 9 ∷ [])
    ++ (pos 5 ∷ minus 7 ∷ minus 4 ∷ pos 9 ∷ minus 20 ∷ minus 15 ∷ pos 20 ∷ pos 12 ∷ pos 4 ∷ pos 10 ∷ pos 10 ∷ pos 3 ∷ minus 2 ∷ pos 10 ∷ []))

abbrev zero : List ℕ
zero = words_out (pos 0 ∷ [])

abbrev wide : List ℕ
wide = words_out (minus 10 ∷ pos 10 ∷ [])

-- ---- the table
unfoldable pub table : List Case
table =
    -- the state of S anywhere within its limit: t is half of y less h, whose ends change places; −15 / 2 is rounded down, and so is 15 / 2
    answers (with_sweeps 1 S) (minus 10 ∷ pos 10 ∷ []) [] (pos 0 ∷ []) (minus 10 ∷ pos 10 ∷ [])
    ∷ answers (with_sweeps 2 S) (minus 10 ∷ pos 10 ∷ []) [] (pos 0 ∷ []) (minus 15 ∷ pos 15 ∷ [])
    ∷ answers S (minus 10 ∷ pos 10 ∷ []) [] (pos 0 ∷ []) (minus 18 ∷ pos 17 ∷ [])
    -- from a start at the high limit, where the highest stays
    ∷ answers (with_sweeps 1 S) (minus 10 ∷ pos 4 ∷ []) [] (pos 20 ∷ []) (pos 6 ∷ pos 20 ∷ [])
    ∷ answers (with_sweeps 2 S) (minus 10 ∷ pos 4 ∷ []) [] (pos 20 ∷ []) (minus 1 ∷ pos 20 ∷ [])
    -- a range of one value, 10: document 01's commands of S, twice
    ∷ answers (with_sweeps 1 S) (pos 10 ∷ pos 10 ∷ []) [] (pos 0 ∷ []) (minus 10 ∷ minus 10 ∷ [])
    ∷ answers S (pos 10 ∷ pos 10 ∷ []) [] (pos 0 ∷ []) (minus 18 ∷ minus 18 ∷ [])
    -- factors of both signs, a target, and a β that is not 0, so that the y step crosses the ends; the fourth sweep meets a limit
    ∷ answers (with_sweeps 1 pair) (minus 6 ∷ pos 2 ∷ pos 3 ∷ pos 9 ∷ []) (pos 5 ∷ []) (pos 3 ∷ minus 2 ∷ []) (pos 0 ∷ minus 7 ∷ pos 6 ∷ minus 1 ∷ [])
    ∷ answers (with_sweeps 2 pair) (minus 6 ∷ pos 2 ∷ pos 3 ∷ pos 9 ∷ []) (pos 5 ∷ []) (pos 3 ∷ minus 2 ∷ []) (minus 1 ∷ minus 10 ∷ pos 9 ∷ pos 0 ∷ [])
    ∷ answers pair (minus 6 ∷ pos 2 ∷ pos 3 ∷ pos 9 ∷ []) (pos 5 ∷ []) (pos 3 ∷ minus 2 ∷ []) (minus 5 ∷ minus 15 ∷ pos 13 ∷ pos 4 ∷ [])
    -- 13: another length, a low above its high, an end beyond the state limit
    ∷ numbers S [] [] zero 8 13
    ∷ numbers S (words_out (pos 0 ∷ [])) [] zero 8 13
    ∷ numbers S (words_out (pos 0 ∷ pos 0 ∷ pos 0 ∷ [])) [] zero 8 13
    ∷ numbers S (wide ++ (0 ∷ [])) [] zero 8 13
    ∷ numbers S (words_out (pos 1 ∷ pos 0 ∷ [])) [] zero 8 13
    ∷ numbers S (words_out (minus 11 ∷ pos 0 ∷ [])) [] zero 8 13
    ∷ numbers S (words_out (pos 0 ∷ pos 11 ∷ [])) [] zero 8 13
    ∷ numbers S (words_out (pos 10 ∷ minus 10 ∷ [])) [] zero 8 13
    -- the lows before the highs: in turn, −6 to 2 and 3 to 9 would have −6 and 3 as lows
    ∷ numbers pair (words_out (minus 6 ∷ pos 3 ∷ pos 2 ∷ pos 9 ∷ [])) (words_out (pos 5 ∷ [])) (words_out (pos 3 ∷ minus 2 ∷ [])) 16 0
    ∷ numbers pair (words_out (pos 3 ∷ minus 6 ∷ pos 2 ∷ pos 9 ∷ [])) (words_out (pos 5 ∷ [])) (words_out (pos 3 ∷ minus 2 ∷ [])) 16 13
    -- the order: the image's own before 13, 13 before 16, 16 before 14, 14 before 15; a solve's room is 15
    ∷ numbers (S ++ (0 ∷ [])) [] [] zero 8 6
    ∷ numbers S (words_out (pos 1 ∷ pos 0 ∷ [])) (0 ∷ []) [] 0 13
    ∷ numbers S wide (0 ∷ []) [] 0 16
    ∷ numbers S wide [] [] 0 14
    ∷ numbers S wide [] (words_out (pos 21 ∷ [])) 8 14
    ∷ numbers S wide [] zero 16 15
    ∷ numbers S wide [] zero 8 0
    ∷ []
