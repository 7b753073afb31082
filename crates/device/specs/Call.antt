-- The calls on a drive: the number of each, what it writes, and the drive that it leaves. Assumes nothing.
use Rattle.std.specs.Prelude.{ℕ, ◌+◌, ◌-◌, ◌/◌, ◌%◌, ◌^◌, Bool, cond, ◌&&◌, List, [], ◌∷◌, map, eqb, leb, ltb, set, replicate}
use Rattle.std.proofs.Math.Option.{none, some}
use Rattle.image.specs.Order.{check, first_fault, or_else}
use Rattle.device.specs.Solver.{Solver}
use Rattle.device.specs.Device.{Head, Device, most_heads, head_count, head_at, waits, answer_of, idle}

pub data Call : Type 0 where
  -- the image, the number of heads
  make : List ℕ → ℕ → Call
  -- the image
  new_image : List ℕ → Call
  -- the head, the state, the target, the length of the answer's buffer
  ask : ℕ → List ℕ → List ℕ → ℕ → Call
  -- the head, the length of the commands' buffer
  commit : ℕ → ℕ → Call
  -- S, by its last 16 bits
  period : ℕ → Call
  -- the head
  done : ℕ → Call

-- what comes of a call: its number, the bytes that it writes, the drive after it
pub record Outcome : Type 0 where
  pub number : ℕ
  pub answer : List ℕ
  pub next : Device

-- "a head count outside 1 to 4, or a head number not below it, is 3 as before"
abbrev pub is_count : ℕ → Bool
is_count n = leb 1 n && leb n most_heads

abbrev pub count_number : ℕ → ℕ
count_number n = first_fault (check 3 (is_count n) ∷ [])

-- of a drive of n heads
abbrev pub index_number : ℕ → ℕ → ℕ
index_number n k = first_fault (check 3 (ltb k n) ∷ [])

-- "S unsigned 16-bit": the last 16 bits of a number, which are what such an argument holds
abbrev pub unsigned16 : ℕ → ℕ
unsigned16 total = total % 2 ^ 16

-- a head with another share
abbrev pub owning : ℕ → Head → Head
owning own h = record { start = h.start; waiting = h.waiting; own = own }

-- a head that is done "moves its unused share to the common part"
abbrev pub finished : Device → ℕ → Head
finished d k = owning 0 (head_at d k)

module _ (s : Solver) where
  -- "all other checks of the ask": the head's, then those of a solve "from the held start"
  unfoldable pub ask_checks : Device → ℕ → List ℕ → List ℕ → ℕ → ℕ
  ask_checks d k state target room = or_else (index_number (head_count d) k) (s.solve_number d.image state target (head_at d k).start room)

  -- "an image tested as by a solve up to 12"; "19 a new image, itself acceptable, while either head has a waiting answer", which "now goes for
  -- every head made"; "20 an ask whose own and common sweeps together fall short, after all other checks of the ask"; "18 a commit without
  -- a waiting answer, as its only check after those on the buffers". A period is refused where the heads are not 1 to 4: of no drive that
  -- was made
  unfoldable pub call_number : Device → Call → ℕ
  call_number d (make image n) = or_else (count_number n) (s.image_number image)
  call_number d (new_image image) = or_else (s.image_number image) (first_fault (check 19 (idle d.heads) ∷ []))
  call_number d (ask k state target room) = or_else (ask_checks d k state target room) (first_fault (check 20 (leb (s.sweeps d.image) ((head_at d k).own + d.common)) ∷ []))
  call_number d (commit k room) = or_else (index_number (head_count d) k) (first_fault (check 15 (eqb room (s.first_length d.image)) ∷ check 18 (waits (head_at d k).waiting) ∷ []))
  call_number d (period total) = count_number (head_count d)
  call_number d (done k) = index_number (head_count d) k

  -- the bytes, where the number is 0: an ask "writes the solve's answer", a commit "issues the waiting answer's first nu commands"
  unfoldable pub call_answer : Device → Call → List ℕ
  call_answer d (make image n) = []
  call_answer d (new_image image) = []
  call_answer d (ask k state target room) = s.solve_answer d.image state target (head_at d k).start
  call_answer d (commit k room) = s.first_commands d.image (answer_of (head_at d k).waiting)
  call_answer d (period total) = []
  call_answer d (done k) = []

  -- a new drive: each head has "a start, first zeros", and no waiting answer; "before the first period all of these are 0"
  abbrev pub fresh : List ℕ → Head
  fresh image = record { start = s.zeros image; waiting = none; own = 0 }

  unfoldable pub made : List ℕ → ℕ → Device
  made image n = record { image = image; heads = replicate n (fresh image); common = 0 }

  -- "a new image replaces the tables for both and sets both starts to zero": for every head made
  abbrev pub restarted : List ℕ → Head → Head
  restarted image h = record { start = s.zeros image; waiting = h.waiting; own = h.own }

  -- an ask "replaces the waiting one", and costs the image's sweeps, "from its own share first and then from the common part"
  abbrev pub asked : Device → ℕ → List ℕ → List ℕ → Head
  asked d k state target = record { start = (head_at d k).start; waiting = some (s.solve_answer d.image state target (head_at d k).start); own = (head_at d k).own - s.sweeps d.image }

  abbrev pub common_after : Device → ℕ → ℕ
  common_after d k = d.common - (s.sweeps d.image - (head_at d k).own)

  -- a commit leaves "the next start; the waiting answer is then used up"
  abbrev pub committed : Device → ℕ → Head
  committed d k = record { start = s.next_start d.image (answer_of (head_at d k).waiting); waiting = none; own = (head_at d k).own }

  -- the drive after it, where the number is 0. A period: "each of the heads owns S divided by their number, rounded down; the remainder is
  -- common"
  unfoldable pub call_next : Device → Call → Device
  call_next d (make image n) = made image n
  call_next d (new_image image) = record { image = image; heads = map (restarted image) d.heads; common = d.common }
  call_next d (ask k state target room) = record { image = d.image; heads = set d.heads k (asked d k state target); common = common_after d k }
  call_next d (commit k room) = record { image = d.image; heads = set d.heads k (committed d k); common = d.common }
  call_next d (period total) = record { image = d.image; heads = map (owning (unsigned16 total / head_count d)) d.heads; common = unsigned16 total % head_count d }
  call_next d (done k) = record { image = d.image; heads = set d.heads k (finished d k); common = d.common + (head_at d k).own }

  -- a call: "a refused call leaves the drive untouched", and writes nothing
  unfoldable pub step : Device → Call → Outcome
  step d c =
      let accepted = eqb (call_number d c) 0 in
      record { number = call_number d c; answer = cond accepted (call_answer d c) []; next = cond accepted (call_next d c) d }
