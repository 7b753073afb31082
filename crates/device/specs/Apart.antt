-- Request 10: "asks, commits and refused calls of one head, taken at will, leave the other's answers and starts the same"; request 11: this
-- "continues for a head whose asks all stay within" what it has left of its own share. Assumes nothing.
use Rattle.std.specs.Prelude.{ℕ, Bool, true, false, cond, not, ◌&&◌, ◌||◌, List, [], ◌∷◌, ◌≡◌, eqb, leb}
use Rattle.std.proofs.Math.Option.{none}
use Rattle.device.specs.Solver.{Solver}
use Rattle.device.specs.Device.{Device, head_count, head_at}
use Rattle.device.specs.Call.{Call, make, new_image, ask, commit, period, done}
use Rattle.device.specs.Run.{Event, after, log}
use Rattle.device.specs.Log.{accepted, image_now, own_now}

-- what concerns head k: its own asks, commits and dones, refused ones too, and of the calls for all heads the accepted ones. A new image that
-- another head's waiting answer refuses is none
abbrev pub concerns_by : ℕ → Call → Bool → Bool
concerns_by k (make image n) accepted = accepted
concerns_by k (new_image image) accepted = accepted
concerns_by k (ask j state target room) accepted = eqb j k
concerns_by k (commit j room) accepted = eqb j k
concerns_by k (period total) accepted = accepted
concerns_by k (done j) accepted = eqb j k

abbrev pub concerns : ℕ → Event → Bool
concerns k e = concerns_by k e.call (accepted e)

-- what is left of a log without the rest
abbrev pub only : ℕ → List Event → List Event
only k [] = []
only k (e ∷ es) = cond (concerns k e) (e ∷ only k es) (only k es)

abbrev pub calls_of : List Event → List Call
calls_of [] = []
calls_of (e ∷ es) = e.call ∷ calls_of es

-- "between accepted new images": none among the calls
abbrev pub is_new_image : Call → Bool
is_new_image (make image n) = false
is_new_image (new_image image) = true
is_new_image (ask j state target room) = false
is_new_image (commit j room) = false
is_new_image (period total) = false
is_new_image (done j) = false

abbrev pub no_new_image : List Call → Bool
no_new_image [] = true
no_new_image (c ∷ cs) = not (is_new_image c) && no_new_image cs

-- an ask that comes to the check of its sweeps, which is the last, has 0 or 20
abbrev pub reaches : ℕ → Bool
reaches number = eqb number 0 || eqb number 20

-- "a head whose asks all stay within that": each such ask of head k costs at most what the head then has left of its own share. Counted from
-- the log and from the drive before it
module _ (s : Solver) (k : ℕ) (d : Device) where
  abbrev pub stays_by : Call → ℕ → List Event → Bool
  stays_by (make image n) number log = true
  stays_by (new_image image) number log = true
  stays_by (ask j state target room) number log = cond (eqb j k && reaches number) (leb (s.sweeps (image_now d log)) (own_now s d k log)) true
  stays_by (commit j room) number log = true
  stays_by (period total) number log = true
  stays_by (done j) number log = true

  abbrev pub stays : List Event → Bool
  stays [] = true
  stays (e ∷ log) = stays_by e.call e.number log && stays log

-- two drives that are the same to head k
pub record Same (k : ℕ) (d e : Device) : Type 0 where
  pub image : d.image ≡ e.image
  pub count_is : head_count d ≡ head_count e
  pub head : head_at d k ≡ head_at e k

-- no answer waits but that of head k
abbrev pub Quiet : ℕ → Device → Type 0
Quiet k d = (j : ℕ) → (j ≡ k → ⊥) → (head_at d j).waiting ≡ none

module _ (s : Solver) (k : ℕ) (d e : Device) where
  -- a run from d, and the run from e of the calls that concern head k alone
  pub record Alone (cs : List Call) : Type 0 where
    -- "answers": each of these calls has the number and the bytes that it has there
    pub outcomes : only k (log s d cs) ≡ log s e (calls_of (only k (log s d cs)))
    -- "and starts": so has the head that is left, with its waiting answer and its share
    pub left : Same k (after s d cs) (after s e (calls_of (only k (log s d cs))))

  -- two runs, from d and from e
  pub record Apart (cs others : List Call) : Type 0 where
    pub outcomes : only k (log s d cs) ≡ only k (log s e others)
    pub left : Same k (after s d cs) (after s e others)
