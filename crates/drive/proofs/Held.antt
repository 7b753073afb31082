-- What the bytes of a drive hold after an ask, a commit and a done: one head is another, and the common part may be. Assumes nothing.
use mathlib.Core.Path.{◌≡◌, refl, sym, ap, ◌∙◌}
use mathlib.Core.List.{List, [], ◌∷◌}
use mathlib.Core.Logic.{inl, inr}
use mathlib.Core.Option.{none, some}
use Prim.Native.Nat.{ℕ, ◌+◌, ◌-◌, ◌*◌, ◌^◌, ◌<◌, ◌≤◌}
use native.Mathlib.Omega.{arith}
use lib.Dec.{lit<}
use lib.ListN.{length, take, drop}
use Rattle.word.specs.Word.{nat_at, bytes_of}
use Rattle.word.proofs.Words.{length_bytes}
use Rattle.word.proofs.Beside.{nat_of}
use Rattle.image.specs.Sizes.{command_count}
use Rattle.image.specs.Layout.{sizes_of}
use Rattle.interface.specs.Calls.{answer_length}
use Rattle.interface.proofs.Guaranteed.{solve_length}
use Rattle.device.specs.Device.{Head, most_heads}
use Rattle.drive.specs.Layout.{head_room, head_place, waiting_place, start_place, answer_place, count_place, common_place, own_place, drive_length, held_image, held_command_count, held_start, held_answer, held_waiting, held_count, held_own, held_common, held_sweeps}
use Rattle.drive.specs.Move.{next_start}
use Rattle.drive.specs.Calls.{put_shares, ask_answer, charged, put_answer, ask_drive, commit_drive, done_drive}
use Rattle.drive.specs.Held.{head_of}
use Rattle.drive.specs.Parts.{Found, Placed, Askable}
use Rattle.drive.proofs.Next.{next_length}
use Rattle.drive.proofs.Writes.{Write, write, puts, clear, aside, puts_there, puts_nat}
use Rattle.drive.proofs.OneHead.{Spot, in_head, in_common, in_own, Own, nothing, also, own_fits, own_length, own_part, own_image, own_count, own_other, same_head}

-- the drive e is d with another head k and another common part
pub record Replaced (d e : List ℕ) (k : ℕ) (head : Head) (common : ℕ) : Type 0 where
  pub size : length e ≡ drive_length
  pub image : held_image e ≡ held_image d
  pub count_is : held_count e ≡ held_count d
  pub common_is : held_common e ≡ common
  pub here : head_of e k ≡ head
  pub others : (j : ℕ) → j < most_heads → (j ≡ k → ⊥) → head_of e j ≡ head_of d j

-- from the writes of head k
replaced : (d : List ℕ) (k : ℕ) → Placed d k → held_command_count d ≤ 16 → (ws : List Write) → Own k ws → (x : Head) (common : ℕ) → head_of (puts d ws) k ≡ x → held_common (puts d ws) ≡ common → Replaced d (puts d ws) k x common
replaced d k p few ws own x common h c = record {
  size = own_length k p.inside d p.size ws own;
  image = own_image k p.inside d p.size ws own;
  count_is = own_count k p.inside d p.size ws own;
  common_is = c;
  here = h;
  others = own_other k p.inside d p.size ws own few;
}

-- ---- the share of head k and the common part
module _ (d : List ℕ) (k own common : ℕ) (p : Placed d k) (few : held_command_count d ≤ 16) (own-small : own < 256 ^ 4) (common-small : common < 256 ^ 4) where
  abbrev put_common : Write
  put_common = write common_place (bytes_of common)

  abbrev put_own : Write
  put_own = write (own_place k) (bytes_of own)

  common_spot : Spot k common_place (length (bytes_of common))
  common_spot = in_common refl (length_bytes 4 common)

  own_spot : Spot k (own_place k) (length (bytes_of own))
  own_spot = in_own refl (length_bytes 4 own)

  abbrev shares : List Write
  shares = put_common ∷ put_own ∷ []

  shares_own : Own k shares
  shares_own = also put_common common_spot (also put_own own_spot nothing)

  abbrev shared : List ℕ
  shared = put_shares d k own common

  shared_common : held_common shared ≡ common
  unfolding held_common put_shares
  shared_common = puts_nat drive_length common_place common (put_own ∷ []) d p.size (own_fits k p.inside shares_own) (aside put_own (inl (omega arith)) clear) common-small

  shared_own : held_own shared k ≡ own
  unfolding held_own put_shares
  shared_own =
      puts_nat drive_length (own_place k) own [] (puts d (put_common ∷ [])) (own_length k p.inside d p.size (put_common ∷ []) (also put_common common_spot nothing))
      (own_fits k p.inside (also put_own own_spot nothing)) clear own-small

  shared_head : head_of shared k ≡ record { start = (head_of d k).start; waiting = (head_of d k).waiting; own = own }
  unfolding put_shares
  shared_head =
      same_head d shared (own_image k p.inside d p.size shares shares_own) few k
      (own_part k p.inside d p.size shares shares_own (head_place k) head_room (aside put_common (inl (omega (arith, p.inside))) (aside put_own (inl (omega (arith, p.inside))) clear)))
      own shared_own

  shares_replace : Replaced d shared k (record { start = (head_of d k).start; waiting = (head_of d k).waiting; own = own }) common
  unfolding put_shares
  shares_replace = replaced d k p few shares shares_own (record { start = (head_of d k).start; waiting = (head_of d k).waiting; own = own }) common shared_head shared_common

-- "moves its unused share to the common part"
pub done_replaces : (d : List ℕ) (k : ℕ) → Placed d k → held_command_count d ≤ 16 → held_own d k + held_common d < 256 ^ 4 → Replaced d (done_drive d k) k (record { start = (head_of d k).start; waiting = (head_of d k).waiting; own = 0 }) (held_common d + held_own d k)
unfolding done_drive
done_replaces d k p few small = shares_replace d k 0 (held_common d + held_own d k) p few (lit< tt) (omega arith)

-- ---- a part of head k, and whether an answer waits: what an ask and a commit write
module _ (d : List ℕ) (k at : ℕ) (bs : List ℕ) (n : ℕ) (p : Placed d k) (low : start_place k ≤ at) (high : at + length bs ≤ head_place k + head_room) where
  abbrev part : Write
  part = write at bs

  abbrev flag : Write
  flag = write (waiting_place k) (bytes_of n)

  abbrev head_writes : List Write
  head_writes = part ∷ flag ∷ []

  part_spot : Spot k at (length bs)
  part_spot = in_head (omega arith) high

  flag_spot : Spot k (waiting_place k) (length (bytes_of n))
  flag_spot = in_head (omega arith) (omega (arith, length_bytes 4 n))

  head_own : Own k head_writes
  head_own = also part part_spot (also flag flag_spot nothing)

  abbrev written : List ℕ
  written = puts d head_writes

  written_image : held_image written ≡ held_image d
  written_image = own_image k p.inside d p.size head_writes head_own

  written_part : take (length bs) (drop at written) ≡ bs
  written_part = puts_there drive_length part (flag ∷ []) d p.size (own_fits k p.inside head_own) (aside flag (inr (omega (arith, length_bytes 4 n))) clear)

  written_waiting : n < 256 ^ 4 → held_waiting written k ≡ n
  unfolding held_waiting
  written_waiting small =
      puts_nat drive_length (waiting_place k) n [] (puts d (part ∷ [])) (own_length k p.inside d p.size (part ∷ []) (also part part_spot nothing))
      (own_fits k p.inside (also flag flag_spot nothing)) clear small

  -- the sweeps stay
  written_word : (q : ℕ) → count_place ≤ q → nat_at written q ≡ nat_at d q
  written_word q h =
      nat_of written d q (own_part k p.inside d p.size head_writes head_own q 4 (aside part (inr (omega (arith, high, p.inside))) (aside flag (inr (omega (arith, length_bytes 4 n, p.inside))) clear)))

  head_replaces : held_command_count d ≤ 16 → (x : Head) → head_of written k ≡ x → Replaced d written k x (held_common d)
  unfolding held_common
  head_replaces few x h = replaced d k p few head_writes head_own x (held_common d) h (written_word common_place (omega arith))

-- ---- an answer, and an ask
module _ (d : List ℕ) (k : ℕ) (answer : List ℕ) (p : Placed d k) (few : held_command_count d ≤ 16) (long : length answer ≡ answer_length (sizes_of (held_image d))) where
  answer_fits : answer_place k + length answer ≤ head_place k + head_room
  answer_fits = omega (arith, long, few)

  abbrev kept : List ℕ
  kept = put_answer d k answer

  kept_image : held_image kept ≡ held_image d
  unfolding put_answer
  kept_image = written_image d k (answer_place k) answer 1 p (omega arith) answer_fits

  kept_start : held_start kept k ≡ held_start d k
  unfolding held_start put_answer
  kept_start =
      ap (λ (i : List ℕ). take (4 * command_count (sizes_of i)) (drop (start_place k) kept)) kept_image
      ∙ own_part k p.inside d p.size _ (head_own d k (answer_place k) answer 1 p (omega arith) answer_fits) (start_place k) (4 * held_command_count d)
      (aside (write (answer_place k) answer) (inl (omega (arith, few))) (aside (write (waiting_place k) (bytes_of 1)) (inr (omega (arith, length_bytes 4 1))) clear))

  kept_answer : held_answer kept k ≡ answer
  unfolding held_answer put_answer
  kept_answer =
      ap (λ (n : ℕ). take n (drop (answer_place k) kept)) (ap (λ (i : List ℕ). answer_length (sizes_of i)) kept_image ∙ sym long)
      ∙ written_part d k (answer_place k) answer 1 p (omega arith) answer_fits

  kept_waiting : held_waiting kept k ≡ 1
  unfolding put_answer
  kept_waiting = written_waiting d k (answer_place k) answer 1 p (omega arith) answer_fits (lit< tt)

  kept_own : held_own kept k ≡ held_own d k
  unfolding held_own put_answer
  kept_own = written_word d k (answer_place k) answer 1 p (omega arith) answer_fits (own_place k) (omega arith)

  kept_head : head_of kept k ≡ record { start = (head_of d k).start; waiting = some answer; own = (head_of d k).own }
  unfolding head_of
  kept_head = rw (kept_start, kept_answer, kept_waiting, kept_own)

  answer_replaces : Replaced d kept k (record { start = (head_of d k).start; waiting = some answer; own = (head_of d k).own }) (held_common d)
  unfolding put_answer
  answer_replaces = head_replaces d k (answer_place k) answer 1 p (omega arith) answer_fits few (record { start = (head_of d k).start; waiting = some answer; own = (head_of d k).own }) kept_head

-- "writes the solve's answer and replaces the waiting one", and costs the image's sweeps, "from its own share first and then from the common
-- part"
module _ (d : List ℕ) (k : ℕ) (state target : List ℕ) (room : ℕ) (a : Askable d k state target room) (small : held_own d k + held_common d < 256 ^ 4) where
  abbrev own : ℕ
  own = held_own d k - held_sweeps d

  abbrev common : ℕ
  common = held_common d - (held_sweeps d - held_own d k)

  paid : Replaced d (charged d k) k (record { start = (head_of d k).start; waiting = (head_of d k).waiting; own = own }) common
  unfolding charged
  paid = shares_replace d k own common a.placed a.solves.accepted.whole.sizes.n_high (omega arith) (omega arith)

  pub ask_replaces : Replaced d (ask_drive d k state target) k (record { start = (head_of d k).start; waiting = some (ask_answer d k state target); own = own }) common
  unfolding ask_drive ask_answer
  ask_replaces =
      let e = charged d k in
      let p : Placed e k = record { inside = a.placed.inside; size = paid.size; counted = rw paid.count_is a.placed.counted } in
      let few : held_command_count e ≤ 16 = rw paid.image a.solves.accepted.whole.sizes.n_high in
      let answer = ask_answer d k state target in
      let r = answer_replaces e k answer p few (solve_length (held_image d) state target _ ∙ ap (λ (i : List ℕ). answer_length (sizes_of i)) (sym paid.image)) in
      record {
        size = r.size;
        image = r.image ∙ paid.image;
        count_is = r.count_is ∙ paid.count_is;
        common_is = r.common_is ∙ paid.common_is;
        here = r.here ∙ ap {B = Head} (λ (x : Head). record { start = x.start; waiting = some answer; own = x.own }) paid.here;
        others = λ j h n. r.others j h n ∙ paid.others j h n;
      }

-- ---- a commit
module _ (d : List ℕ) (k : ℕ) (p : Placed d k) (f : Found d) where
  abbrev next : List ℕ
  next = next_start (held_image d) (held_answer d k)

  next_fits : start_place k + length next ≤ head_place k + head_room
  next_fits = omega (arith, next_length (held_image d) (held_answer d k), f.whole.sizes.n_high)

  abbrev committed : List ℕ
  committed = commit_drive d k

  committed_image : held_image committed ≡ held_image d
  unfolding commit_drive
  committed_image = written_image d k (start_place k) next 0 p (omega arith) next_fits

  pub committed_start : held_start committed k ≡ next
  unfolding held_start commit_drive
  committed_start =
      ap (λ (n : ℕ). take n (drop (start_place k) committed)) (ap (λ (i : List ℕ). 4 * command_count (sizes_of i)) committed_image ∙ sym (next_length (held_image d) (held_answer d k)))
      ∙ written_part d k (start_place k) next 0 p (omega arith) next_fits

  committed_waiting : held_waiting committed k ≡ 0
  unfolding commit_drive
  committed_waiting = written_waiting d k (start_place k) next 0 p (omega arith) next_fits (lit< tt)

  committed_own : held_own committed k ≡ held_own d k
  unfolding held_own commit_drive
  committed_own = written_word d k (start_place k) next 0 p (omega arith) next_fits (own_place k) (omega arith)

  committed_head : head_of committed k ≡ record { start = next; waiting = none; own = held_own d k }
  unfolding head_of
  committed_head = rw (committed_start, committed_waiting, committed_own)

  -- "the next start; the waiting answer is then used up"
  pub commit_replaces : Replaced d committed k (record { start = next; waiting = none; own = held_own d k }) (held_common d)
  unfolding commit_drive
  commit_replaces = head_replaces d k (start_place k) next 0 p (omega arith) next_fits f.whole.sizes.n_high (record { start = next; waiting = none; own = held_own d k }) committed_head
