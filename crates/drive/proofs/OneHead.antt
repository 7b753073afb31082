-- Writes that belong to one head: to its own bytes, to its share, to the common part. All else of the drive is the same. Assumes nothing.
use mathlib.Core.Bool.{Bool, true, false, cond}
use mathlib.Core.Path.{◌≡◌, refl, sym, ap, ◌∙◌}
use mathlib.Core.List.{List, [], ◌∷◌}
use mathlib.Core.Logic.{◌⊎◌, inl, inr, ⊎_elim}
use mathlib.Core.Option.{none, some}
use Prim.Native.Nat.{ℕ, ◌+◌, ◌*◌, ◌<◌, ◌≤◌, min}
use native.Mathlib.Nat.{eq-or-lt_of_le}
use native.Mathlib.Omega.{arith}
use lib.Dec.{eqb, ltb}
use lib.ListN.{length, take, drop}
use borrow.Author.Tests.{ltb-true, ltb-false}
use Rattle.word.proofs.Buffer.{part_within}
use Rattle.word.proofs.Beside.{nat_of}
use Rattle.image.specs.Sizes.{command_count}
use Rattle.image.specs.Layout.{sizes_of}
use Rattle.interface.specs.Calls.{answer_length}
use Rattle.device.specs.Device.{most_heads}
use Rattle.drive.specs.Layout.{word_room, image_room, head_room, start_offset, answer_offset, length_place, image_place, heads_place, head_place, waiting_place, start_place, answer_place, count_place, common_place, own_place, drive_length, held_length, held_image, held_command_count, held_start, held_waiting, held_answer, held_count, held_own}
use Rattle.drive.specs.Held.{head_of}
use Rattle.drive.proofs.Writes as writes
use Rattle.drive.proofs.Writes.{Write, puts, Fits, Beside, clear, aside, puts_length, puts_beside}

-- ---- parts that are the same
abbrev pub SamePart : ℕ → ℕ → List ℕ → List ℕ → Type 0
SamePart p m d e = take m (drop p e) ≡ take m (drop p d)

module _ (d e : List ℕ) where
  same_within : (at n j m : ℕ) → j + m ≤ n → SamePart at n d e → SamePart (at + j) m d e
  same_within at n j m h s = sym (part_within e at n j m h) ∙ ap (λ (l : List ℕ). take m (drop j l)) s ∙ part_within d at n j m h

  -- all in front of the heads
  pub same_image : SamePart length_place heads_place d e → held_image e ≡ held_image d
  unfolding held_image
  same_image s =
      let n = nat_of e d length_place (same_within length_place heads_place 0 word_room (omega arith) s) in
      ap (λ (k : ℕ). take (min k image_room) (drop image_place e)) n ∙ same_within length_place heads_place image_place (held_length d) (omega arith) s

  -- all of head k
  module _ (image : held_image e ≡ held_image d) (few : held_command_count d ≤ 16) (k : ℕ) (head : SamePart (head_place k) head_room d e) where
    same_start : held_start e k ≡ held_start d k
    unfolding held_start
    same_start = ap (λ (i : List ℕ). take (4 * command_count (sizes_of i)) (drop (start_place k) e)) image ∙ same_within (head_place k) head_room start_offset (4 * held_command_count d) (omega arith) head

    same_answer : held_answer e k ≡ held_answer d k
    unfolding held_answer
    same_answer = ap (λ (i : List ℕ). take (answer_length (sizes_of i)) (drop (answer_place k) e)) image ∙ same_within (head_place k) head_room answer_offset (answer_length (sizes_of (held_image d))) (omega arith) head

    same_waiting : held_waiting e k ≡ held_waiting d k
    unfolding held_waiting
    same_waiting =
        let z : head_place k + 0 ≡ waiting_place k = omega arith in
        nat_of e d (waiting_place k) (rw z at (same_within (head_place k) head_room 0 word_room (omega arith) head))

    -- but for its share
    pub same_head : (own : ℕ) → held_own e k ≡ own → head_of e k ≡ record { start = (head_of d k).start; waiting = (head_of d k).waiting; own = own }
    unfolding head_of
    same_head own o = λ t. record { start = same_start t; waiting = cond (eqb (same_waiting t) 0) none (some (same_answer t)); own = o t }

-- ---- the writes of head k
pub data Spot (k at m : ℕ) : Type 0 where
  in_head : head_place k ≤ at → at + m ≤ head_place k + head_room → Spot k at m
  in_common : at ≡ common_place → m ≡ word_room → Spot k at m
  in_own : at ≡ own_place k → m ≡ word_room → Spot k at m

pub data Own (k : ℕ) : List Write → Type 0 where
  nothing : Own k []
  also : (w : Write) {ws : List Write} → Spot k w.at (length w.bytes) → Own k ws → Own k (w ∷ ws)

-- another head's places are apart
either_side : (j k : ℕ) → (j ≡ k → ⊥) → (j < k) ⊎ (k < j)
either_side j k h = by (ltb j k) refl
  where
    by : (t : Bool) → ltb j k ≡ t → (j < k) ⊎ (k < j)
    by true e = inl (ltb-true j k e)
    by false e = ⊎_elim (λ (q : k ≡ j). absurd (h (sym q))) (λ (l : k < j). inr l) (eq-or-lt_of_le (ltb-false j k e))

module _ (k : ℕ) (inside : k < most_heads) where
  spot_fits : (at m : ℕ) → Spot k at m → at + m ≤ drive_length
  spot_fits at m (in_head l u) = omega arith
  spot_fits at m (in_common p q) = omega arith
  spot_fits at m (in_own p q) = omega arith

  pub own_fits : {ws : List Write} → Own k ws → Fits drive_length ws
  own_fits nothing = writes.none
  own_fits (also w s l) = writes.more w (spot_fits w.at (length w.bytes) s) (own_fits l)

  -- what lies beside each of its places lies beside its writes
  own_beside : (p m : ℕ) → ((at n : ℕ) → Spot k at n → (p + m ≤ at) ⊎ (at + n ≤ p)) → {ws : List Write} → Own k ws → Beside p m ws
  own_beside p m f nothing = clear
  own_beside p m f (also w s l) = aside w (f w.at (length w.bytes) s) (own_beside p m f l)

  -- all in front of the heads; their number; another head, and its share
  spot_front : (at m : ℕ) → Spot k at m → (length_place + heads_place ≤ at) ⊎ (at + m ≤ length_place)
  spot_front at m (in_head l u) = inl (omega arith)
  spot_front at m (in_common p q) = inl (omega arith)
  spot_front at m (in_own p q) = inl (omega arith)

  spot_count : (at m : ℕ) → Spot k at m → (count_place + 4 ≤ at) ⊎ (at + m ≤ count_place)
  spot_count at m (in_head l u) = inr (omega arith)
  spot_count at m (in_common p q) = inl (omega arith)
  spot_count at m (in_own p q) = inl (omega arith)

  spot_head : (j : ℕ) → j < most_heads → (j < k) ⊎ (k < j) → (at m : ℕ) → Spot k at m → (head_place j + head_room ≤ at) ⊎ (at + m ≤ head_place j)
  spot_head j h (inl b) at m (in_head l u) = inl (omega arith)
  spot_head j h (inr b) at m (in_head l u) = inr (omega arith)
  spot_head j h b at m (in_common p q) = inl (omega arith)
  spot_head j h b at m (in_own p q) = inl (omega arith)

  spot_own : (j : ℕ) → j < most_heads → (j < k) ⊎ (k < j) → (at m : ℕ) → Spot k at m → (own_place j + 4 ≤ at) ⊎ (at + m ≤ own_place j)
  spot_own j h b at m (in_head l u) = inr (omega arith)
  spot_own j h b at m (in_common p q) = inr (omega arith)
  spot_own j h (inl b) at m (in_own p q) = inl (omega arith)
  spot_own j h (inr b) at m (in_own p q) = inr (omega arith)

  -- ---- so all but head k and the common part is the same
  module _ (d : List ℕ) (size : length d ≡ drive_length) (ws : List Write) (l : Own k ws) where
    pub own_length : length (puts d ws) ≡ drive_length
    own_length = puts_length drive_length ws d size (own_fits l)

    -- the bytes beside its writes
    pub own_part : (p m : ℕ) → Beside p m ws → SamePart p m d (puts d ws)
    own_part p m b = puts_beside drive_length p m ws d size (own_fits l) b

    pub own_image : held_image (puts d ws) ≡ held_image d
    own_image = same_image d (puts d ws) (own_part length_place heads_place (own_beside length_place heads_place spot_front l))

    pub own_count : held_count (puts d ws) ≡ held_count d
    unfolding held_count
    own_count = nat_of (puts d ws) d count_place (own_part count_place 4 (own_beside count_place 4 spot_count l))

    pub own_other : held_command_count d ≤ 16 → (j : ℕ) → j < most_heads → (j ≡ k → ⊥) → head_of (puts d ws) j ≡ head_of d j
    unfolding head_of held_own
    own_other few j h n =
        let b = either_side j k n in
        let share = nat_of (puts d ws) d (own_place j) (own_part (own_place j) 4 (own_beside (own_place j) 4 (spot_own j h b) l)) in
        same_head d (puts d ws) own_image few j (own_part (head_place j) head_room (own_beside (head_place j) head_room (spot_head j h b) l)) (held_own d j) share
