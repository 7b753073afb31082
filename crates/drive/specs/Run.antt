-- "Any run of calls from a new drive that only they write", on bytes, and what is said of it, as statements. In a run and in its log the
-- last call comes first. Definitions only.
use Rattle.std.specs.Prelude.{ℕ, ◌+◌, ◌-◌, ◌/◌, ◌^◌, ◌<◌, ◌≤◌, true, cond, not, List, [], ◌∷◌, ◌≡◌, eqb, leb, ltb, length, take}
use Rattle.std.proofs.Math.Option.{some}
use Rattle.gradient.specs.Index.{sum_n, all_to}
use Rattle.image.specs.declared.Input.TheVariants.{State, Target}
use Rattle.image.specs.Order.{check, first_fault, or_else}
use Rattle.image.specs.Layout.{sizes_of}
use Rattle.interface.specs.Tables.{image_number}
use Rattle.interface.specs.Calls.{input_passes, answer_length, solve_answer}
use Rattle.interface.specs.Stop.{AcceptedStart}
use Rattle.device.specs.Device.{Device, waits}
use Rattle.device.specs.Call.{Call, make, new_image, ask, commit, period, done, count_number, index_number, unsigned16, made, step}
use Rattle.device.specs.Run.{Event}
use Rattle.device.specs.Log.{brought_by, image_now, count_now, waiting_now, start_now, own_now, common_now, device_now, all_keep_start}
use Rattle.device.specs.Period.{total_now, running_now, granted_now, Balanced, granted_to, all_leave_share}
use Rattle.drive.specs.Layout.{held_image, held_start, held_count, held_heads, held_own, held_common}
use Rattle.drive.specs.Move.{next_start, first_length}
use Rattle.drive.specs.Calls.{make_number, make_drive, imaged, new_number, place_number, ask_number, ask_answer, ask_drive, commit_number, commit_answer, commit_drive, period_number, period_drive, done_drive}
use Rattle.drive.specs.Held.{device_of, zero_start, solver}
use Rattle.drive.specs.Parts.{Counted}

-- ---- a call, as the promises of the six calls have it; a period's S is an argument of 16 bits
unfoldable pub number_on : List ℕ → Call → ℕ
number_on d (make image n) = make_number image n (length d)
number_on d (new_image image) = new_number d image
number_on d (ask k state target room) = ask_number d k state target room
number_on d (commit k room) = commit_number d k room
number_on d (period total) = period_number d
number_on d (done k) = place_number d k

-- what it writes to the caller's buffer, where the number is 0
unfoldable pub answer_on : List ℕ → Call → List ℕ
answer_on d (make image n) = []
answer_on d (new_image image) = []
answer_on d (ask k state target room) = ask_answer d k state target
answer_on d (commit k room) = commit_answer d k
answer_on d (period total) = []
answer_on d (done k) = []

-- the drive after it, where the number is 0
unfoldable pub drive_on : List ℕ → Call → List ℕ
drive_on d (make image n) = make_drive image n
drive_on d (new_image image) = imaged d image
drive_on d (ask k state target room) = ask_drive d k state target
drive_on d (commit k room) = commit_drive d k
drive_on d (period total) = period_drive d (unsigned16 total)
drive_on d (done k) = done_drive d k

-- "a refused call leaves the drive untouched", and writes nothing
unfoldable pub after_call : List ℕ → Call → List ℕ
after_call d c = cond (eqb (number_on d c) 0) (drive_on d c) d

unfoldable pub written_by : List ℕ → Call → List ℕ
written_by d c = cond (eqb (number_on d c) 0) (answer_on d c) []

-- ---- a run, and what the caller sees of it
abbrev pub after_run : List ℕ → List Call → List ℕ
after_run d [] = d
after_run d (c ∷ cs) = after_call (after_run d cs) c

abbrev pub log_of : List ℕ → List Call → List Event
log_of d [] = []
log_of d (c ∷ cs) = record { call = c; number = number_on (after_run d cs) c; answer = written_by (after_run d cs) c } ∷ log_of d cs

-- ---- statements
-- all calls of head k are 3, whatever the other buffers
pub record NoSuchHead (d : List ℕ) (k : ℕ) : Type 0 where
  pub ask_number_lem : (state target : List ℕ) (room : ℕ) → ask_number d k state target room ≡ 3
  pub commit_number_lem : (room : ℕ) → commit_number d k room ≡ 3
  pub done_number : place_number d k ≡ 3

-- what is left of the own shares of the heads made and of the common part
abbrev pub held_left : List ℕ → ℕ
held_left d = sum_n (held_own d) (held_heads d) + held_common d

-- a drive as the calls leave it: of its exact length and of 1 to 4 heads, with an accepted image, of each head a start that this accepts, and
-- no more sweeps than a period can give
pub record Valid (d : List ℕ) : Type 0 where
  pub counted : Counted d
  pub image : image_number (held_image d) ≡ 0
  pub starts : (k : ℕ) → k < held_count d → AcceptedStart (held_image d) (held_start d k)
  pub sweeps : held_left d < 2 ^ 16

-- a call on the bytes is a step of the drive that they hold
abbrev pub HeldStep : List ℕ → Call → Type 0
HeldStep d c = step solver (device_of d) c ≡ record { number = number_on d c; answer = written_by d c; next = device_of (after_call d c) }

-- after any run from a new drive of n heads, with nothing read but the log of its calls
module _ (image : List ℕ) (n : ℕ) where
  abbrev pub new_device : Device
  new_device = made solver image n

  module _ (cs : List Call) where
    abbrev pub drive_now : List ℕ
    drive_now = after_run (make_drive image n) cs

    abbrev pub log_now : List Event
    log_now = log_of (make_drive image n) cs

    -- counted from the calls: the image, the number of heads, what head k has left of its own share
    abbrev pub image_then : List ℕ
    image_then = image_now new_device log_now

    abbrev pub count_then : ℕ
    count_then = count_now new_device log_now

    abbrev pub own_then : ℕ → ℕ
    own_then k = own_now solver new_device k log_now

    pub record EveryRun : Type 0 where
      -- "counted when the drive is made"
      pub held_count_lem : held_count drive_now ≡ count_then
      -- of each head "the held start is zeros until the first commit, then the last committed answer so moved and held", "counted from the
      -- last" new image
      pub held_start_lem : (k : ℕ) → k < count_then → held_start drive_now k ≡ start_now solver new_device k log_now
      -- what each "has left of its own share", and what is left of the common part
      pub held_own_lem : (k : ℕ) → k < count_then → held_own drive_now k ≡ own_then k
      pub held_common_lem : held_common drive_now ≡ common_now solver new_device log_now
      -- a make is tested by its number of heads and its image alone
      pub make_number_lem : (other : List ℕ) (m : ℕ) → make_number other m (length drive_now) ≡ or_else (count_number m) (image_number other)
      -- "19 a new image, itself acceptable", where some head made has an accepted ask behind which neither a commit of this head nor a make
      -- has been accepted
      pub new_number_lem : (other : List ℕ) → new_number drive_now other ≡ or_else (image_number other) (first_fault (check 19 (all_to (λ (k : ℕ). not (waits (waiting_now new_device k log_now))) count_then) ∷ []))
      -- "an ask solves from the held start, writes the solve's answer": refused with 3 by its head, with 13, 16 or 15, with "20 an ask whose
      -- own and common sweeps together fall short", or not at all
      pub ask_number_lem : (k : ℕ) (state target : List ℕ) (room : ℕ) →
          ask_number drive_now k state target room
          ≡ first_fault
          (check 3 (ltb k count_then)
          ∷ check 13 (input_passes State (sizes_of image_then) image_then state)
          ∷ check 16 (input_passes Target (sizes_of image_then) image_then target)
          ∷ check 15 (eqb room (answer_length (sizes_of image_then)))
          ∷ check 20 (leb (sizes_of image_then).sweeps (own_then k + common_now solver new_device log_now))
          ∷ [])
      pub ask_answer_lem : (k : ℕ) (state target : List ℕ) → k < count_then → ask_answer drive_now k state target ≡ solve_answer image_then state target (start_now solver new_device k log_now)
      -- "18 a commit without a waiting answer, as its only check after those on the buffers": where no accepted ask of this head has come
      -- since its last commit, or since the drive is new
      pub commit_number_lem : (k room : ℕ) →
          commit_number drive_now k room
          ≡ first_fault
          (check 3 (ltb k count_then)
          ∷ check 15 (eqb room (first_length image_then))
          ∷ check 18 (waits (waiting_now new_device k log_now))
          ∷ [])
      -- "a commit issues the waiting answer's first nu commands, 4nu bytes": those of this head's last accepted ask
      pub commit_answer_lem : (k : ℕ) (answer : List ℕ) → k < count_then → waiting_now new_device k log_now ≡ some answer → commit_answer drive_now k ≡ take (first_length image_then) answer
      -- a period is never refused, and a done by its head alone
      pub period_number_lem : period_number drive_now ≡ 0
      pub done_number : (k : ℕ) → place_number drive_now k ≡ index_number count_then k

    -- "no ask within what its head then has left of its own share is turned down for want of sweeps": 3, 13, 16 and 15 are left
    abbrev pub OwnShareServes : ℕ → Type 0
    OwnShareServes k =
        (sizes_of image_then).sweeps ≤ own_then k
        → (state target : List ℕ) (room : ℕ)
        → ask_number drive_now k state target room
        ≡ first_fault
        (check 3 (ltb k count_then)
        ∷ check 13 (input_passes State (sizes_of image_then) image_then state)
        ∷ check 16 (input_passes Target (sizes_of image_then) image_then target)
        ∷ check 15 (eqb room (answer_length (sizes_of image_then)))
        ∷ [])

    -- "the sweeps of one period's granted asks, counted from the calls, never pass that period's S", and with what the bytes hold of the
    -- shares and the common part they are S
    abbrev pub PeriodHolds : Type 0
    PeriodHolds = Balanced (held_left drive_now) (granted_now solver new_device log_now) (total_now log_now) (running_now log_now)

  -- in words, of head k: the calls `earlier`, a period, and calls `later`, none of them an accepted period, make or done of this head. It has
  -- left "S divided by their number, rounded down", less what its granted asks cost
  abbrev pub ShareSpent : ℕ → List Call → ℕ → List Call → Type 0
  ShareSpent k earlier total later =
      let begun = drive_now (period total ∷ earlier) in
      k < count_then earlier
      → all_leave_share k (log_of begun later) ≡ true
      → held_own (after_run begun later) k ≡ unsigned16 total / count_then earlier - granted_to solver (device_now solver new_device (log_now (period total ∷ earlier))) k (log_of begun later)

  -- "the held start is zeros until the first commit"
  abbrev pub ZerosUntilCommit : ℕ → List Call → Type 0
  ZerosUntilCommit k cs = all_keep_start k (log_now cs) ≡ true → held_start (drive_now cs) k ≡ zero_start image

  -- "sets both starts to zero, and starts are counted from the last one": the calls `earlier`, an accepted make or new image `c` that brings
  -- the image `other`, and calls `later`, none of them an accepted commit of head k, make or new image
  abbrev pub ZerosFromImage : ℕ → List Call → Call → List ℕ → List Call → Type 0
  ZerosFromImage k earlier c other later =
      brought_by c ≡ some other
      → number_on (drive_now earlier) c ≡ 0
      → k < count_then (c ∷ earlier)
      → all_keep_start k (log_of (drive_now (c ∷ earlier)) later) ≡ true
      → held_start (after_run (drive_now (c ∷ earlier)) later) k ≡ zero_start other

  -- "then the last committed answer so moved and held": the calls `earlier`, an accepted commit of head k, and calls `later`, none of them an
  -- accepted commit of it, make or new image. That answer is the one of its last accepted ask before the commit
  pub record LastCommit (k : ℕ) (earlier : List Call) (room : ℕ) (later : List Call) : Type 0 where
    pub answer : List ℕ
    pub asked : waiting_now new_device k (log_now earlier) ≡ some answer
    pub start : held_start (after_run (drive_now (commit k room ∷ earlier)) later) k ≡ next_start (image_then earlier) answer
