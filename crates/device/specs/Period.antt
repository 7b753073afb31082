-- Request 11: the sweeps of a period, counted from the calls. Assumes nothing.
use Rattle.std.specs.Prelude.{ℕ, ◌+◌, ◌≤◌, Bool, true, false, cond, not, ◌&&◌, List, [], ◌∷◌, ◌≡◌, eqb}
use Rattle.gradient.specs.Index.{sum_n}
use Rattle.device.specs.Solver.{Solver}
use Rattle.device.specs.Device.{Device, head_count, head_at}
use Rattle.device.specs.Call.{Call, make, new_image, ask, commit, period, done, unsigned16}
use Rattle.device.specs.Run.{Event}
use Rattle.device.specs.Log.{accepted, image_now}

-- "that period's S": of the last accepted period, 0 before the first. A make on a drive in use leaves it
abbrev pub total_by : Call → ℕ → ℕ
total_by (make image n) old = old
total_by (new_image image) old = old
total_by (ask k state target room) old = old
total_by (commit k room) old = old
total_by (period total) old = unsigned16 total
total_by (done k) old = old

unfoldable pub total_now : List Event → ℕ
total_now [] = 0
total_now (e ∷ log) = cond (accepted e) (total_by e.call (total_now log)) (total_now log)

-- whether the drive is in a period: one has been accepted, and no make since
abbrev pub running_by : Call → Bool → Bool
running_by (make image n) old = false
running_by (new_image image) old = old
running_by (ask k state target room) old = old
running_by (commit k room) old = old
running_by (period total) old = true
running_by (done k) old = old

unfoldable pub running_now : List Event → Bool
running_now [] = false
running_now (e ∷ log) = cond (accepted e) (running_by e.call (running_now log)) (running_now log)

module _ (s : Solver) (d : Device) where
  -- "the sweeps of one period's granted asks, counted from the calls": of all asks, of whichever head, since the last accepted period
  abbrev pub granted_by : Call → List Event → ℕ → ℕ
  granted_by (make image n) log old = old
  granted_by (new_image image) log old = old
  granted_by (ask k state target room) log old = old + s.sweeps (image_now d log)
  granted_by (commit k room) log old = old
  granted_by (period total) log old = 0
  granted_by (done k) log old = old

  unfoldable pub granted_now : List Event → ℕ
  granted_now [] = 0
  granted_now (e ∷ log) = cond (accepted e) (granted_by e.call log (granted_now log)) (granted_now log)

-- what is left of the heads' own shares and of the common part
abbrev pub left_of : Device → ℕ
left_of d = sum_n (λ (k : ℕ). (head_at d k).own) (head_count d) + d.common

-- of a drive with the log of its calls
pub record Balanced (left granted total : ℕ) (running : Bool) : Type 0 where
  -- they "never pass that period's S"
  pub within : granted ≤ total
  -- own shares, common part and granted asks are together S: no sweep is lost, and none is there twice
  pub whole : running ≡ true → left + granted ≡ total
  -- "before the first period all of these are 0", also of a drive made anew
  pub none_left : running ≡ false → left ≡ 0

-- ---- in words, of one head
module _ (s : Solver) (d : Device) (k : ℕ) where
  -- what its granted asks cost
  abbrev pub cost_by : Call → List Event → ℕ
  cost_by (make image n) log = 0
  cost_by (new_image image) log = 0
  cost_by (ask j state target room) log = cond (eqb j k) (s.sweeps (image_now d log)) 0
  cost_by (commit j room) log = 0
  cost_by (period total) log = 0
  cost_by (done j) log = 0

  unfoldable pub granted_to : List Event → ℕ
  granted_to [] = 0
  granted_to (e ∷ log) = granted_to log + cond (accepted e) (cost_by e.call log) 0

-- an event within the period of its share: a refused call, or another than a make, a period and a done of this head
abbrev pub leaves_share : ℕ → Call → Bool
leaves_share k (make image n) = false
leaves_share k (new_image image) = true
leaves_share k (ask j state target room) = true
leaves_share k (commit j room) = true
leaves_share k (period total) = false
leaves_share k (done j) = not (eqb j k)

abbrev pub all_leave_share : ℕ → List Event → Bool
all_leave_share k [] = true
all_leave_share k (e ∷ es) = cond (accepted e) (leaves_share k e.call) true && all_leave_share k es
