-- Requests 9 to 11: runs of calls on a drive, worked out by hand, over the definitions that the calls' promises cite. Assumes nothing.
use Rattle.std.specs.Prelude.{Bool, ◌&&◌, List, [], ◌∷◌, ◌++◌, map, ℕ, ◌+◌, ◌*◌, eqb, ℤ, pos, neg_ℤ, length, take, replicate}
use Rattle.word.specs.Buffer.{put_at}
use Rattle.word.specs.Word.{words_out, bytes_of, pattern_bytes}
use Rattle.gradient.specs.Index.{tab}
use Rattle.gradient.specs.Demand.{every2}
use Rattle.interface.specs.Demand.{with_sweeps}
use Rattle.device.specs.Call.{Call, make, new_image, ask, commit, period, done}
use Rattle.device.specs.Run.{Event}
use Rattle.drive.specs.Layout.{waiting_place, count_place, drive_length, held_start, held_heads, held_own, held_common}
use Rattle.drive.specs.Calls.{make_drive}
use Rattle.drive.specs.Run.{number_on, written_by, after_call}

-- calls on the bytes of a drive, the first one first, have their numbers and write their bytes
pub data Case : Type 0 where
  -- and leave the starts of head 0 and head 1
  runs : List ℕ → List Event → List ℤ → List ℤ → Case
  -- and leave the common sweeps, and the share of each head
  shares : List ℕ → List Event → List ℕ → Case

abbrev minus : ℕ → ℤ
minus n = neg_ℤ (pos n)

-- a buffer of `size` bytes that is no drive yet
abbrev buffer : ℕ → List ℕ
buffer size = replicate size 255

-- a call that writes to the drive alone is accepted
abbrev takes : Call → Event
takes c = record { call = c; number = 0; answer = [] }

-- an ask of a head with a state of one value answers commands, bounds and D
abbrev asks : ℕ → ℤ → List ℤ → List ℕ → ℕ → Event
asks k x zs es d = record { call = ask k (words_out (x ∷ [])) [] (8 * length zs + 8); number = 0; answer = words_out zs ++ words_out (map pos es) ++ pattern_bytes d }

-- a commit of a head issues commands
abbrev commits : ℕ → List ℤ → Event
commits k zs = record { call = commit k (4 * length zs); number = 0; answer = words_out zs }

abbrev refuses : Call → ℕ → Event
refuses c number = record { call = c; number = number; answer = [] }

-- each call has its number and its bytes, and the drive after them is as it is to be
unfoldable pub runs_from : (List ℕ → Bool) → List ℕ → List Event → Bool
runs_from left d [] = left d
runs_from left d (e ∷ later) = eqb (number_on d e.call) e.number && every2 eqb (written_by d e.call) e.answer && runs_from left (after_call d e.call) later

unfoldable pub holds : Case → Bool
holds (runs d events start other) = runs_from (λ (e : List ℕ). every2 eqb (held_start e 0) (words_out start) && every2 eqb (held_start e 1) (words_out other)) d events
holds (shares d events words) = runs_from (λ (e : List ℕ). every2 eqb (held_common e ∷ tab (held_own e) (held_heads e)) words) d events

-- ---- the images
-- document 01's S, with its limits of −20 and 20, or another state limit
unfoldable pub S : ℕ → List ℕ
S stateLimit = words_out (map pos (1 ∷ 1 ∷ 1 ∷ 4 ∷ 8 ∷ 3 ∷ 0 ∷ 0 ∷ 8 ∷ 16 ∷ []) ++ (minus 20 ∷ map pos (20 ∷ 0 ∷ stateLimit ∷ [])))

-- one motor, two steps, H diagonal, state limit 30: step 0 has S's limits, step 1 twice these
unfoldable pub widening : List ℕ
widening =
    words_out (map pos (1 ∷ 2 ∷ 1 ∷ 4 ∷ 8 ∷ 3 ∷ 0 ∷ 0 ∷ 8 ∷ 0 ∷ 0 ∷ 8 ∷ 16 ∷ 16 ∷ []) ++ (minus 20 ∷ minus 40 ∷ map pos (20 ∷ 40 ∷ 0 ∷ 30 ∷ [])))

-- two motors, two steps, H diagonal, Φ 1, 1/2, 1/4, 1/8, all limits −40 and 40, state limit 16
unfoldable pub paired : List ℕ
paired =
    words_out
    (map pos (2 ∷ 2 ∷ 1 ∷ 4 ∷ 8 ∷ 3 ∷ 0 ∷ 0 ∷ 8 ∷ 0 ∷ 0 ∷ 0 ∷ 0 ∷ 8 ∷ 0 ∷ 0 ∷ 0 ∷ 0 ∷ 8 ∷ 0 ∷ 0 ∷ 0 ∷ 0 ∷ 8 ∷ 16 ∷ 8 ∷ 4 ∷ 2 ∷ [])
    ++ (minus 40 ∷ minus 40 ∷ minus 40 ∷ minus 40 ∷ map pos (40 ∷ 40 ∷ 40 ∷ 40 ∷ 0 ∷ 16 ∷ [])))

-- ---- the tables, one for each request
-- request 9: ask first, then commit
unfoldable pub commit_runs : List Case
commit_runs =
    -- request 9: S as a drive; 18 before the first ask, and 15 before 18; a refused ask, and a refused make, leave the answer waiting; after
    -- the commit it is used up
    runs (buffer drive_length) (takes (make (S 10) 2) ∷ refuses (commit 0 4) 18 ∷ refuses (commit 0 8) 15 ∷ []) (pos 0 ∷ []) (pos 0 ∷ [])
    ∷ runs (buffer drive_length)
    (takes (make (S 10) 2)
    ∷ takes (period 400)
    ∷ asks 0 (pos 10) (minus 18 ∷ []) (3 ∷ []) 2
    ∷ refuses (ask 0 (words_out (pos 11 ∷ [])) [] 16) 13
    ∷ refuses (ask 0 (words_out (pos 10 ∷ [])) (words_out (pos 0 ∷ [])) 16) 16
    ∷ refuses (ask 0 (words_out (pos 10 ∷ [])) [] 8) 15
    ∷ refuses (make (S 118) 2) 12
    ∷ refuses (commit 0 8) 15
    ∷ commits 0 (minus 18 ∷ [])
    ∷ refuses (commit 0 4) 18
    ∷ [])
    (minus 18 ∷ []) (pos 0 ∷ [])
    -- N 1: the next start is the answer, from which an ask goes on, twice the same; the second of two asks is committed
    ∷ runs (buffer drive_length)
    (takes (make (S 10) 2)
    ∷ takes (period 400)
    ∷ asks 1 (pos 10) (minus 18 ∷ []) (3 ∷ []) 2
    ∷ commits 1 (minus 18 ∷ [])
    ∷ asks 1 (pos 10) (minus 20 ∷ []) (3 ∷ []) 0
    ∷ asks 1 (pos 10) (minus 20 ∷ []) (3 ∷ []) 0
    ∷ asks 1 (minus 3) (pos 3 ∷ []) (3 ∷ []) 3
    ∷ commits 1 (pos 3 ∷ [])
    ∷ [])
    (pos 0 ∷ []) (pos 3 ∷ [])
    -- step 1's −35 moves to step 0 and is held to −20, its new step's low; step 1 is repeated, and the next ask goes on from there
    ∷ runs (buffer drive_length) (takes (make widening 2) ∷ takes (period 400) ∷ asks 0 (pos 20) (minus 20 ∷ minus 35 ∷ []) (3 ∷ 3 ∷ []) 5 ∷ commits 0 (minus 20 ∷ []) ∷ [])
    (minus 20 ∷ minus 35 ∷ []) (pos 0 ∷ pos 0 ∷ [])
    ∷ runs (buffer drive_length)
    (takes (make widening 2)
    ∷ takes (period 400)
    ∷ asks 0 (pos 20) (minus 20 ∷ minus 35 ∷ []) (3 ∷ 3 ∷ []) 5
    ∷ commits 0 (minus 20 ∷ [])
    ∷ asks 0 (pos 20) (minus 20 ∷ minus 40 ∷ []) (3 ∷ 3 ∷ []) 0
    ∷ [])
    (minus 20 ∷ minus 35 ∷ []) (pos 0 ∷ pos 0 ∷ [])
    -- two motors: both commands of step 0 are issued, and those of step 1 move there; a make in between begins anew, from zeros
    ∷ runs (buffer drive_length)
    (takes (make paired 2) ∷ takes (period 400) ∷ asks 1 (pos 16) (minus 28 ∷ minus 14 ∷ minus 7 ∷ minus 4 ∷ []) (3 ∷ 3 ∷ 3 ∷ 3 ∷ []) 4 ∷ commits 1 (minus 28 ∷ minus 14 ∷ []) ∷ [])
    (pos 0 ∷ pos 0 ∷ pos 0 ∷ pos 0 ∷ []) (minus 7 ∷ minus 4 ∷ minus 7 ∷ minus 4 ∷ [])
    ∷ runs (buffer drive_length) (takes (make widening 2) ∷ takes (period 400) ∷ asks 0 (pos 20) (minus 20 ∷ minus 35 ∷ []) (3 ∷ 3 ∷ []) 5 ∷ takes (make paired 2) ∷ refuses (commit 0 8) 18 ∷ [])
    (pos 0 ∷ pos 0 ∷ pos 0 ∷ pos 0 ∷ []) (pos 0 ∷ pos 0 ∷ pos 0 ∷ pos 0 ∷ [])
    -- bytes that no make wrote are tested by the heads and the image that they hold
    ∷ runs (buffer drive_length) (refuses (ask 0 [] [] 0) 3 ∷ refuses (commit 1 4) 3 ∷ []) (tab (λ (i : ℕ). minus 1) 209) (tab (λ (i : ℕ). minus 1) 158)
    ∷ runs (replicate drive_length 0) (refuses (ask 0 [] [] 0) 3 ∷ refuses (commit 0 4) 3 ∷ refuses (done 0) 3 ∷ refuses (period 1) 3 ∷ []) [] []
    ∷ runs (put_at (replicate drive_length 0) count_place (bytes_of 2)) (refuses (ask 1 [] [] 0) 6 ∷ refuses (commit 0 4) 6 ∷ []) [] []
    ∷ []

-- request 10: more than one head
unfoldable pub head_runs : List Case
head_runs =
    -- request 10: pen and knife in turns, each with its own answer and its own start; 19 "while either head has a waiting answer", and an image
    -- that is itself refused has its own number; then each goes on from where it is
    runs (buffer drive_length)
    (takes (make (S 10) 2)
    ∷ takes (period 400)
    ∷ asks 0 (pos 10) (minus 18 ∷ []) (3 ∷ []) 2
    ∷ refuses (commit 1 4) 18
    ∷ refuses (new_image paired) 19
    ∷ asks 1 (minus 3) (pos 5 ∷ []) (3 ∷ []) 1
    ∷ commits 0 (minus 18 ∷ [])
    ∷ refuses (commit 0 4) 18
    ∷ refuses (new_image paired) 19
    ∷ refuses (new_image (S 118)) 12
    ∷ commits 1 (pos 5 ∷ [])
    ∷ asks 0 (pos 10) (minus 20 ∷ []) (3 ∷ []) 0
    ∷ asks 1 (minus 3) (pos 5 ∷ []) (3 ∷ []) 1
    ∷ [])
    (minus 18 ∷ []) (pos 5 ∷ [])
    -- a new image of other sizes, larger and then smaller: both starts are zeros again, and are counted from it
    ∷ runs (buffer drive_length)
    (takes (make (S 10) 2)
    ∷ takes (period 400)
    ∷ asks 0 (pos 10) (minus 18 ∷ []) (3 ∷ []) 2
    ∷ commits 0 (minus 18 ∷ [])
    ∷ takes (new_image widening)
    ∷ refuses (commit 0 4) 18
    ∷ asks 1 (pos 20) (minus 20 ∷ minus 35 ∷ []) (3 ∷ 3 ∷ []) 5
    ∷ commits 1 (minus 20 ∷ [])
    ∷ [])
    (pos 0 ∷ pos 0 ∷ []) (minus 20 ∷ minus 35 ∷ [])
    ∷ runs (buffer drive_length)
    (takes (make widening 2)
    ∷ takes (period 400)
    ∷ asks 1 (pos 20) (minus 20 ∷ minus 35 ∷ []) (3 ∷ 3 ∷ []) 5
    ∷ commits 1 (minus 20 ∷ [])
    ∷ takes (new_image (S 10))
    ∷ asks 1 (pos 10) (minus 18 ∷ []) (3 ∷ []) 2
    ∷ [])
    (pos 0 ∷ []) (pos 0 ∷ [])
    -- a drive of another length is 15, behind the number of heads and the image's; "a head count outside 1 to 4" and a head that no drive has are
    -- 3 "before all else"
    ∷ runs (take 3119 (make_drive (S 10) 2))
    (refuses (make (S 10) 2) 15
    ∷ refuses (make [] 4) 6
    ∷ refuses (make [] 0) 3
    ∷ refuses (make [] 5) 3
    ∷ refuses (make (S 10) 257) 3
    ∷ refuses (new_image (S 10)) 15
    ∷ refuses (new_image []) 6
    ∷ refuses (ask 3 [] [] 0) 15
    ∷ refuses (ask 4 [] [] 0) 3
    ∷ refuses (commit 3 4) 15
    ∷ refuses (commit 4 4) 3
    ∷ refuses (commit 4294967295 4) 3
    ∷ refuses (period 7) 15
    ∷ refuses (done 3) 15
    ∷ refuses (done 4) 3
    ∷ [])
    (pos 0 ∷ []) (pos 0 ∷ [])
    -- "or a head number not below it": by the drive's own count
    ∷ runs (make_drive (S 10) 2)
    (refuses (ask 2 (words_out (pos 10 ∷ [])) [] 16) 3
    ∷ refuses (ask 256 (words_out (pos 10 ∷ [])) [] 16) 3
    ∷ refuses (commit 2 4) 3
    ∷ refuses (done 2) 3
    ∷ [])
    (pos 0 ∷ []) (pos 0 ∷ [])
    -- any other word than 0 says that an answer waits: that of the bytes
    ∷ runs (put_at (make_drive (S 10) 2) (waiting_place 1) (bytes_of 256)) (refuses (new_image (S 10)) 19 ∷ commits 1 (pos 0 ∷ []) ∷ takes (new_image (S 10)) ∷ [])
    (pos 0 ∷ []) (pos 0 ∷ [])
    ∷ []

-- request 11: a sweep allowance per period
unfoldable pub sweep_runs : List Case
sweep_runs =
    -- request 11: an ask of S costs 3 sweeps. Before the first period there are none, and 13, 16 and 15 come before 20
    shares (buffer drive_length)
    (takes (make (S 10) 3)
    ∷ refuses (ask 2 (words_out (pos 10 ∷ [])) [] 16) 20
    ∷ refuses (ask 2 (words_out (pos 11 ∷ [])) [] 16) 13
    ∷ refuses (ask 2 (words_out (pos 10 ∷ [])) (words_out (pos 0 ∷ [])) 16) 16
    ∷ refuses (ask 2 (words_out (pos 10 ∷ [])) [] 8) 15
    ∷ [])
    (0 ∷ 0 ∷ 0 ∷ 0 ∷ [])
    -- with 6 sweeps for three heads no head has 3; with 7 the remainder of 1 lets one ask, whoever comes first; with 8 it lets two
    ∷ shares (make_drive (S 10) 3) (takes (period 6) ∷ refuses (ask 0 (words_out (pos 10 ∷ [])) [] 16) 20 ∷ []) (0 ∷ 2 ∷ 2 ∷ 2 ∷ [])
    ∷ shares (make_drive (S 10) 3) (takes (period 7) ∷ asks 1 (pos 10) (minus 18 ∷ []) (3 ∷ []) 2 ∷ refuses (ask 0 (words_out (pos 10 ∷ [])) [] 16) 20 ∷ []) (0 ∷ 2 ∷ 0 ∷ 2 ∷ [])
    ∷ shares (make_drive (S 10) 3)
    (takes (period 8)
    ∷ asks 2 (pos 10) (minus 18 ∷ []) (3 ∷ []) 2
    ∷ asks 0 (pos 10) (minus 18 ∷ []) (3 ∷ []) 2
    ∷ refuses (ask 1 (words_out (pos 10 ∷ [])) [] 16) 20
    ∷ [])
    (0 ∷ 0 ∷ 2 ∷ 0 ∷ [])
    -- "from its own share first": the common 2 of 11 stay; a refused ask takes nothing; head 2, done, gives its 3 once; what is left lapses
    ∷ shares (make_drive (S 10) 3)
    (takes (period 11)
    ∷ asks 0 (pos 10) (minus 18 ∷ []) (3 ∷ []) 2
    ∷ refuses (ask 0 (words_out (pos 10 ∷ [])) [] 16) 20
    ∷ refuses (ask 1 (words_out (pos 11 ∷ [])) [] 16) 13
    ∷ [])
    (2 ∷ 0 ∷ 3 ∷ 3 ∷ [])
    ∷ shares (make_drive (S 10) 3)
    (takes (period 11)
    ∷ asks 0 (pos 10) (minus 18 ∷ []) (3 ∷ []) 2
    ∷ takes (done 2)
    ∷ takes (done 2)
    ∷ asks 0 (pos 10) (minus 18 ∷ []) (3 ∷ []) 2
    ∷ refuses (ask 2 (words_out (pos 10 ∷ [])) [] 16) 20
    ∷ [])
    (2 ∷ 0 ∷ 3 ∷ 0 ∷ [])
    ∷ shares (make_drive (S 10) 3) (takes (period 11) ∷ takes (done 2) ∷ takes (period 4) ∷ []) (1 ∷ 1 ∷ 1 ∷ 1 ∷ [])
    -- a head that is done may still ask from the common part
    ∷ shares (make_drive (S 10) 3) (takes (period 11) ∷ takes (done 2) ∷ asks 2 (pos 10) (minus 18 ∷ []) (3 ∷ []) 2 ∷ []) (2 ∷ 3 ∷ 3 ∷ 0 ∷ [])
    -- head 3 of four goes on from its own commits, until a new image sets its start to zero
    ∷ shares (make_drive (S 10) 4)
    (takes (period 36)
    ∷ asks 3 (pos 10) (minus 18 ∷ []) (3 ∷ []) 2
    ∷ commits 3 (minus 18 ∷ [])
    ∷ asks 3 (pos 10) (minus 20 ∷ []) (3 ∷ []) 0
    ∷ commits 3 (minus 20 ∷ [])
    ∷ takes (new_image (S 10))
    ∷ asks 3 (pos 10) (minus 18 ∷ []) (3 ∷ []) 2
    ∷ [])
    (0 ∷ 9 ∷ 9 ∷ 9 ∷ 0 ∷ [])
    -- a new image leaves the sweeps, and its own are what later asks cost; a make leaves none
    ∷ shares (make_drive (S 10) 2)
    (takes (period 5)
    ∷ takes (new_image (with_sweeps 1 (S 10)))
    ∷ asks 1 (pos 10) (minus 10 ∷ []) (1 ∷ []) 10
    ∷ asks 1 (pos 10) (minus 10 ∷ []) (1 ∷ []) 10
    ∷ asks 1 (pos 10) (minus 10 ∷ []) (1 ∷ []) 10
    ∷ refuses (ask 1 (words_out (pos 10 ∷ [])) [] 16) 20
    ∷ [])
    (0 ∷ 2 ∷ 0 ∷ [])
    ∷ shares (make_drive (S 10) 4) (takes (period 65535) ∷ []) (3 ∷ 16383 ∷ 16383 ∷ 16383 ∷ 16383 ∷ [])
    ∷ shares (make_drive (S 10) 4) (takes (period 65535) ∷ takes (make (S 10) 1) ∷ refuses (ask 0 (words_out (pos 10 ∷ [])) [] 16) 20 ∷ []) (0 ∷ 0 ∷ [])
    -- 19 for every head made, and for no other
    ∷ shares (make_drive (S 10) 4) (takes (period 12) ∷ asks 3 (pos 10) (minus 18 ∷ []) (3 ∷ []) 2 ∷ refuses (new_image paired) 19 ∷ []) (0 ∷ 3 ∷ 3 ∷ 3 ∷ 0 ∷ [])
    ∷ shares (put_at (make_drive (S 10) 3) (waiting_place 3) (bytes_of 1)) (takes (new_image paired) ∷ []) (0 ∷ 0 ∷ 0 ∷ 0 ∷ [])
    -- bytes that no make wrote: of the sum of two words the last 32 bits are kept
    ∷ shares (buffer drive_length) (refuses (period 8) 3 ∷ takes (done 3) ∷ []) (4294967294 ∷ 4294967295 ∷ 4294967295 ∷ 4294967295 ∷ 0 ∷ [])
    ∷ []
