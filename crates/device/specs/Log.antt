-- A drive as the log of the calls on it tells it: of the drive d as it was before them, a new one or any other, and of nothing but the
-- log, in which the last call comes first. Assumes nothing.
use Rattle.std.specs.Prelude.{ℕ, ◌+◌, ◌-◌, ◌/◌, ◌%◌, Bool, true, false, cond, not, ◌&&◌, List, [], ◌∷◌, ◌≡◌, eqb}
use Rattle.std.proofs.Math.Option.{Option, none, some}
use Rattle.gradient.specs.Index.{tab}
use Rattle.device.specs.Solver.{Solver}
use Rattle.device.specs.Device.{Head, Device, head_count, head_at, answer_of}
use Rattle.device.specs.Call.{Call, make, new_image, ask, commit, period, done, unsigned16}
use Rattle.device.specs.Run.{Event, after, log}

-- not "a refused call"
abbrev pub accepted : Event → Bool
accepted e = eqb e.number 0

-- the image that a call brings
abbrev pub brought_by : Call → Option (List ℕ)
brought_by (make image n) = some image
brought_by (new_image image) = some image
brought_by (ask k state target room) = none
brought_by (commit k room) = none
brought_by (period total) = none
brought_by (done k) = none

abbrev or_old : Option (List ℕ) → List ℕ → List ℕ
or_old none old = old
or_old (some image) old = image

-- heads are "counted when the drive is made"
abbrev pub count_by : Call → ℕ → ℕ
count_by (make image n) old = n
count_by (new_image image) old = old
count_by (ask k state target room) old = old
count_by (commit k room) old = old
count_by (period total) old = old
count_by (done k) old = old

module _ (d : Device) where
  -- the image of the last accepted make or new image
  unfoldable pub image_now : List Event → List ℕ
  image_now [] = d.image
  image_now (e ∷ log) = cond (accepted e) (or_old (brought_by e.call) (image_now log)) (image_now log)

  -- the number of heads of the last accepted make
  unfoldable pub count_now : List Event → ℕ
  count_now [] = head_count d
  count_now (e ∷ log) = cond (accepted e) (count_by e.call (count_now log)) (count_now log)

  module _ (k : ℕ) where
    -- "a waiting answer" of head k: that of its last accepted ask, where no commit of this head has used it up, and no make has come since
    abbrev pub waiting_by : Call → List ℕ → Option (List ℕ) → Option (List ℕ)
    waiting_by (make image n) answer old = none
    waiting_by (new_image image) answer old = old
    waiting_by (ask j state target room) answer old = cond (eqb j k) (some answer) old
    waiting_by (commit j room) answer old = cond (eqb j k) none old
    waiting_by (period total) answer old = old
    waiting_by (done j) answer old = old

    unfoldable pub waiting_now : List Event → Option (List ℕ)
    waiting_now [] = (head_at d k).waiting
    waiting_now (e ∷ log) = cond (accepted e) (waiting_by e.call e.answer (waiting_now log)) (waiting_now log)

module _ (s : Solver) (d : Device) where
  module _ (k : ℕ) where
    -- "the held start is zeros until the first commit, then the last committed answer so moved and held", and "starts are counted from the
    -- last" new image
    abbrev pub start_by : Call → List Event → List ℕ → List ℕ
    start_by (make image n) log old = s.zeros image
    start_by (new_image image) log old = s.zeros image
    start_by (ask j state target room) log old = old
    start_by (commit j room) log old = cond (eqb j k) (s.next_start (image_now d log) (answer_of (waiting_now d k log))) old
    start_by (period total) log old = old
    start_by (done j) log old = old

    unfoldable pub start_now : List Event → List ℕ
    start_now [] = (head_at d k).start
    start_now (e ∷ log) = cond (accepted e) (start_by e.call log (start_now log)) (start_now log)

    -- "what its head then has left of its own share": "S divided by their number, rounded down", less what its granted asks cost, and
    -- nothing once it is done
    abbrev pub own_by : Call → List Event → ℕ → ℕ
    own_by (make image n) log old = 0
    own_by (new_image image) log old = old
    own_by (ask j state target room) log old = cond (eqb j k) (old - s.sweeps (image_now d log)) old
    own_by (commit j room) log old = old
    own_by (period total) log old = unsigned16 total / count_now d log
    own_by (done j) log old = cond (eqb j k) 0 old

    unfoldable pub own_now : List Event → ℕ
    own_now [] = (head_at d k).own
    own_now (e ∷ log) = cond (accepted e) (own_by e.call log (own_now log)) (own_now log)

  -- what is left of the "common part": "the remainder", and the unused share of each head done, less what granted asks cost beyond their
  -- heads' own shares
  abbrev pub common_by : Call → List Event → ℕ → ℕ
  common_by (make image n) log old = 0
  common_by (new_image image) log old = old
  common_by (ask j state target room) log old = old - (s.sweeps (image_now d log) - own_now j log)
  common_by (commit j room) log old = old
  common_by (period total) log old = unsigned16 total % count_now d log
  common_by (done j) log old = old + own_now j log

  unfoldable pub common_now : List Event → ℕ
  common_now [] = d.common
  common_now (e ∷ log) = cond (accepted e) (common_by e.call log (common_now log)) (common_now log)

  abbrev pub head_now : List Event → ℕ → Head
  head_now log k = record { start = start_now k log; waiting = waiting_now d k log; own = own_now k log }

  abbrev pub device_now : List Event → Device
  device_now log = record { image = image_now d log; heads = tab (head_now log) (count_now d log); common = common_now log }

  -- "over any run of calls": the drive is what the log tells
  abbrev pub ByLog : List Call → Type 0
  ByLog cs = after s d cs ≡ device_now (log s d cs)

-- ---- in words
-- an event that leaves the held start of head k: a refused call, or another than a make, a new image and a commit of this head
abbrev pub leaves_start : ℕ → Call → Bool
leaves_start k (make image n) = false
leaves_start k (new_image image) = false
leaves_start k (ask j state target room) = true
leaves_start k (commit j room) = not (eqb j k)
leaves_start k (period total) = true
leaves_start k (done j) = true

abbrev pub keeps_start : ℕ → Event → Bool
keeps_start k e = cond (accepted e) (leaves_start k e.call) true

abbrev pub all_keep_start : ℕ → List Event → Bool
all_keep_start k [] = true
all_keep_start k (e ∷ es) = keeps_start k e && all_keep_start k es
