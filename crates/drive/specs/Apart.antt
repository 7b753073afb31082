-- Requests 10 and 11 on bytes: "asks, commits and refused calls of one head, taken at will, leave the other's answers and starts the same",
-- "for a head whose asks all stay within" what it has left of its own share, as statements. Definitions only.
use Rattle.std.specs.Prelude.{ℕ, ◌<◌, true, List, ◌≡◌}
use Rattle.device.specs.Call.{Call}
use Rattle.device.specs.Log.{device_now}
use Rattle.device.specs.Apart.{only, calls_of, stays}
use Rattle.drive.specs.Layout.{held_image, held_waiting, held_count, held_heads}
use Rattle.drive.specs.Held.{head_of, solver}
use Rattle.drive.specs.Run.{after_run, log_of, new_device, drive_now, log_now}

-- of the calls of a run those that concern head k
abbrev pub concerning : ℕ → List ℕ → List Call → List Call
concerning k d cs = calls_of (only k (log_of d cs))

-- two drives that are the same to head k: its image, the number of heads and, where it is one of them, its start, waiting answer and share
pub record SameHead (k : ℕ) (d e : List ℕ) : Type 0 where
  pub image : held_image d ≡ held_image e
  pub count_is : held_count d ≡ held_count e
  pub head : k < held_heads d → head_of d k ≡ head_of e k

-- no answer waits but that of head k
abbrev pub QuietBeside : ℕ → List ℕ → Type 0
QuietBeside k d = (j : ℕ) → j < held_heads d → (j ≡ k → ⊥) → held_waiting d j ≡ 0

-- a run from d, and the run from e of the calls that concern head k alone: these calls have the numbers and bytes that they have there, and
-- the head that is left is the same
pub record RunAlone (k : ℕ) (d e : List ℕ) (cs : List Call) : Type 0 where
  pub outcomes : only k (log_of d cs) ≡ log_of e (concerning k d cs)
  pub left : SameHead k (after_run d cs) (after_run e (concerning k d cs))

-- a run from d, and one from e that agrees with it on the calls that concern head k: these have the same numbers and bytes in both, and the
-- head that is left is the same
pub record RunsApart (k : ℕ) (d e : List ℕ) (cs others : List Call) : Type 0 where
  pub outcomes : only k (log_of d cs) ≡ only k (log_of e others)
  pub left : SameHead k (after_run d cs) (after_run e others)

-- "a head whose asks all stay within that": of the calls cs behind the calls `earlier` on a new drive, counted from the calls alone
abbrev pub StaysWithin : ℕ → List ℕ → ℕ → List Call → List Call → Type 0
StaysWithin k image n earlier cs = stays solver k (device_now solver (new_device image n) (log_now image n earlier)) (log_of (drive_now image n earlier) cs) ≡ true
