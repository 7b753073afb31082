-- What the bytes of a drive hold after a make, a new image and a period: the calls for all heads. Assumes nothing.
use mathlib.Core.Bool.{Bool, true, false}
use mathlib.Core.Path.{◌≡◌, refl, sym, ap, ◌∙◌}
use mathlib.Core.List.{List, [], ◌∷◌}
use mathlib.Core.Logic.{◌⊎◌, inl, inr, ⊎_elim}
use mathlib.Core.Option.{none}
use Prim.Native.Nat.{ℕ, zero, suc, ◌+◌, ◌*◌, ◌/◌, ◌%◌, ◌^◌, ◌<◌, ◌≤◌, min}
use native.Mathlib.Nat.{zero-add, mod-lt, div-le_self, eq-or-lt_of_le}
use native.Mathlib.Omega.{arith}
use lib.Dec.{eqb, lit<}
use lib.ListN.{length, take, drop, replicate, length-replicate}
use borrow.Author.Tests.{eqb-true, eqb-false}
use Rattle.word.specs.Buffer.{put_at}
use Rattle.word.specs.Digits.{digits_be}
use Rattle.word.specs.Word.{nat_at, bytes_be, bytes_of}
use Rattle.word.proofs.Buffer.{length_put, part_put, part_within}
use Rattle.word.proofs.Words.{length_bytes, nat_back}
use Rattle.word.proofs.Beside.{nat_of, part_beside, nat_beside, nat_put, part_zeros}
use Rattle.image.specs.Sizes.{command_count}
use Rattle.image.specs.Layout.{sizes_of}
use Rattle.interface.specs.Tables.{image_number}
use Rattle.interface.proofs.Accept.{accepted}
use Rattle.device.specs.Device.{Head, most_heads}
use Rattle.drive.specs.Layout.{image_room, head_room, length_place, image_place, heads_place, head_place, waiting_place, start_place, count_place, common_place, own_place, drive_length, held_image, held_command_count, held_start, held_waiting, held_count, held_own, held_common}
use Rattle.drive.specs.Calls.{imaged, blank_drive, make_drive, put_owns, period_drive}
use Rattle.drive.specs.Held.{head_of, zero_start}
use Rattle.drive.specs.Parts.{Counted}
use Rattle.drive.proofs.Cleared.{front}
use Rattle.drive.proofs.Writes as writes
use Rattle.drive.proofs.Writes.{Write, write, puts, Fits, clear, aside, puts_length, puts_beside, puts_there, puts_nat}
use Rattle.drive.proofs.OneHead.{SamePart, same_image, same_head}

-- what a drive e holds
pub record Renewed (e image : List ℕ) (n common : ℕ) (head : ℕ → Head) : Type 0 where
  pub size : length e ≡ drive_length
  pub image_is : held_image e ≡ image
  pub count_is : held_count e ≡ n
  pub common_is : held_common e ≡ common
  pub heads : (k : ℕ) → k < most_heads → k < n → head_of e k ≡ head k

abbrev zeros : ℕ → List ℕ
zeros n = replicate n 0

-- ---- an image, in front of the heads' number
pub image_fits : (image : List ℕ) → image_number image ≡ 0 → length image ≤ image_room
image_fits image e = let w = (accepted image e).whole in omega (arith, w.size, w.sizes)

module _ (d image : List ℕ) (size : length d ≡ drive_length) (e : image_number image ≡ 0) where
  image_small : length image ≤ image_room
  image_small = image_fits image e

  zeros_long : length (zeros front) ≡ front
  zeros_long = length-replicate {A = ℕ} front 0

  abbrev cleared : Write
  cleared = write length_place (zeros front)

  abbrev sized : Write
  sized = write length_place (bytes_of (length image))

  abbrev filled : Write
  filled = write image_place image

  filled_fits : Fits drive_length (filled ∷ [])
  filled_fits = writes.more filled (omega (arith, image_small)) writes.none

  sized_fits : Fits drive_length (sized ∷ filled ∷ [])
  sized_fits = writes.more sized (omega (arith, length_bytes 4 (length image))) filled_fits

  all_fit : Fits drive_length (cleared ∷ sized ∷ filled ∷ [])
  all_fit = writes.more cleared (omega (arith, zeros_long)) sized_fits

  clean : List ℕ
  clean = puts d (cleared ∷ [])

  clean_length : length clean ≡ drive_length
  unfolding clean
  clean_length = puts_length drive_length (cleared ∷ []) d size (writes.more cleared (omega (arith, zeros_long)) writes.none)

  imaged_is : imaged d image ≡ puts clean (sized ∷ filled ∷ [])
  unfolding imaged clean
  imaged_is = refl

  imaged_length : length (imaged d image) ≡ drive_length
  imaged_length = rw imaged_is (puts_length drive_length (sized ∷ filled ∷ []) clean clean_length sized_fits)

  length_word : nat_at (imaged d image) length_place ≡ length image
  length_word =
      rw imaged_is (puts_nat drive_length length_place (length image) (filled ∷ []) clean clean_length sized_fits (aside filled (inl (omega arith)) clear) (omega (arith, image_small)))

  imaged_image : held_image (imaged d image) ≡ image
  unfolding held_image
  imaged_image =
      let n : min (nat_at (imaged d image) length_place) image_room ≡ length image = omega (arith, length_word, image_small) in
      let before = puts_length drive_length (sized ∷ []) clean clean_length (writes.more sized (omega (arith, length_bytes 4 (length image))) writes.none) in
      ap (λ (k : ℕ). take k (drop image_place (imaged d image))) n
      ∙ rw imaged_is (puts_there drive_length filled [] (puts clean (sized ∷ [])) before filled_fits clear)

  -- between the image and the heads' number all is zeros
  zeros_at : (p m : ℕ) → heads_place ≤ p → p + m ≤ count_place → take m (drop p (imaged d image)) ≡ zeros m
  unfolding clean
  zeros_at p m l u =
      let whole : take front (drop length_place clean) ≡ zeros front = ap (λ (k : ℕ). take k (drop length_place clean)) (sym zeros_long) ∙ part_put d length_place (zeros front) (omega (arith, size, zeros_long)) in
      rw imaged_is (puts_beside drive_length p m (sized ∷ filled ∷ []) clean clean_length sized_fits (aside sized (inr (omega (arith, length_bytes 4 (length image)))) (aside filled (inr (omega (arith, image_small))) clear)))
      ∙ ap (λ (k : ℕ). take m (drop k clean)) (sym (zero-add p))
      ∙ sym (part_within clean length_place front p m (omega arith))
      ∙ ap (λ (s : List ℕ). take m (drop p s)) whole
      ∙ part_zeros front p m (omega arith)

  -- behind it all is the same
  imaged_word : (p : ℕ) → count_place ≤ p → nat_at (imaged d image) p ≡ nat_at d p
  unfolding imaged
  imaged_word p h =
      nat_of (imaged d image) d p
      (puts_beside drive_length p 4 (cleared ∷ sized ∷ filled ∷ []) d size all_fit (aside cleared (inr (omega (arith, zeros_long))) (aside sized (inr (omega (arith, length_bytes 4 (length image)))) (aside filled (inr (omega (arith, image_small))) clear))))

  -- of each head "a start, first zeros", and no waiting answer
  module _ (k : ℕ) (h : k < most_heads) where
    imaged_start : held_start (imaged d image) k ≡ zero_start image
    unfolding held_start zero_start
    imaged_start =
        ap (λ (i : List ℕ). take (4 * command_count (sizes_of i)) (drop (start_place k) (imaged d image))) imaged_image
        ∙ zeros_at (start_place k) (4 * command_count (sizes_of image)) (omega arith) (omega (arith, (accepted image e).whole.sizes.n_high))

    imaged_waiting : held_waiting (imaged d image) k ≡ 0
    unfolding held_waiting bytes_be digits_be
    imaged_waiting = nat_back 4 0 (lit< tt) (imaged d image) (waiting_place k) (zeros_at (waiting_place k) 4 (omega arith) (omega arith))

    imaged_head : head_of (imaged d image) k ≡ record { start = zero_start image; waiting = none; own = held_own d k }
    unfolding head_of held_own
    imaged_head = rw (imaged_start, imaged_waiting, imaged_word (own_place k) (omega arith))

  -- "a new image replaces the tables for both and sets both starts to zero"
  pub image_renews : Renewed (imaged d image) image (held_count d) (held_common d) (λ (k : ℕ). record { start = zero_start image; waiting = none; own = held_own d k })
  unfolding held_count held_common
  image_renews = record {
    size = imaged_length;
    image_is = imaged_image;
    count_is = imaged_word count_place (omega arith);
    common_is = imaged_word common_place (omega arith);
    heads = λ k h _. imaged_head k h;
  }

-- ---- a new drive
blank_length : length blank_drive ≡ drive_length
unfolding blank_drive
blank_length = length-replicate {A = ℕ} drive_length 0

blank_word : (p : ℕ) → p + 4 ≤ drive_length → nat_at blank_drive p ≡ 0
unfolding blank_drive bytes_be digits_be
blank_word p h = nat_back 4 0 (lit< tt) blank_drive p (part_zeros drive_length p 4 h)

module _ (image : List ℕ) (n : ℕ) (high : n ≤ most_heads) (e : image_number image ≡ 0) where
  abbrev base : List ℕ
  base = imaged blank_drive image

  base_length : length base ≡ drive_length
  base_length = imaged_length blank_drive image blank_length e

  number_fits : count_place + length (bytes_of n) ≤ length base
  number_fits = omega (arith, base_length, length_bytes 4 n)

  made_beside : (p m : ℕ) → (p + m ≤ count_place) ⊎ (common_place ≤ p) → SamePart p m base (make_drive image n)
  unfolding make_drive
  made_beside p m s = part_beside base count_place (bytes_of n) number_fits p m (rw (length_bytes 4 n) s)

  -- "before the first period all of these are 0"
  made_word : (p : ℕ) → common_place ≤ p → p + 4 ≤ drive_length → nat_at (make_drive image n) p ≡ 0
  made_word p l u = nat_of (make_drive image n) base p (made_beside p 4 (inr l)) ∙ imaged_word blank_drive image blank_length e p (omega arith) ∙ blank_word p u

  made_image : held_image (make_drive image n) ≡ held_image base
  made_image = same_image base (make_drive image n) (made_beside length_place heads_place (inl (omega arith)))

  made_head : (k : ℕ) → k < most_heads → head_of (make_drive image n) k ≡ record { start = zero_start image; waiting = none; own = 0 }
  unfolding held_own
  made_head k h =
      let few : held_command_count base ≤ 16 = rw (imaged_image blank_drive image blank_length e) (accepted image e).whole.sizes.n_high in
      same_head base (make_drive image n) made_image few k (made_beside (head_place k) head_room (inl (omega arith))) 0 (made_word (own_place k) (omega arith) (omega arith))
      ∙ ap {B = Head} (λ (x : Head). record { start = x.start; waiting = x.waiting; own = 0 }) (imaged_head blank_drive image blank_length e k h)

  pub make_renews : Renewed (make_drive image n) image n 0 (λ (k : ℕ). record { start = zero_start image; waiting = none; own = 0 })
  unfolding held_count held_common make_drive
  make_renews = record {
    size = length_put base count_place (bytes_of n) number_fits ∙ base_length;
    image_is = made_image ∙ imaged_image blank_drive image blank_length e;
    count_is = nat_put base count_place n (omega (arith, base_length)) (omega arith);
    common_is = made_word common_place (omega arith) (omega arith);
    heads = λ k h _. made_head k h;
  }

-- ---- a period
-- the shares of the first n heads
module _ (own : ℕ) (small : own < 256 ^ 4) (d : List ℕ) (size : length d ≡ drive_length) where
  owns_length : (n : ℕ) → n ≤ most_heads → length (put_owns d own n) ≡ drive_length
  owns_length zero h = size
  owns_length (suc n) h =
      let l = owns_length n (omega arith) in
      length_put (put_owns d own n) (own_place n) (bytes_of own) (omega (arith, l, length_bytes 4 own)) ∙ l

  owns_before : (n : ℕ) → n ≤ most_heads → (p m : ℕ) → p + m ≤ own_place 0 → SamePart p m d (put_owns d own n)
  owns_before zero h p m l = refl
  owns_before (suc n) h p m l =
      part_beside (put_owns d own n) (own_place n) (bytes_of own) (omega (arith, owns_length n (omega arith), length_bytes 4 own)) p m (inl (omega arith))
      ∙ owns_before n (omega arith) p m l

  owns_at : (n : ℕ) → n ≤ most_heads → (k : ℕ) → k < n → nat_at (put_owns d own n) (own_place k) ≡ own
  owns_at zero h k l = absurd (omega arith)
  owns_at (suc n) h k l = by (eqb k n) refl (λ b. owns_at n (omega arith) k b)
    where
      before : length (put_owns d own n) ≡ drive_length
      before = owns_length n (omega arith)

      by : (t : Bool) → eqb k n ≡ t → (k < n → nat_at (put_owns d own n) (own_place k) ≡ own) → nat_at (put_owns d own (suc n)) (own_place k) ≡ own
      by true q earlier = rw (eqb-true k n q) (nat_put (put_owns d own n) (own_place n) own (omega (arith, before)) small)
      by false q earlier =
          let b : k < n = lt_of (eqb-false k n q) in
          nat_beside (put_owns d own n) (own_place n) (bytes_of own) (omega (arith, before, length_bytes 4 own)) (own_place k) (inl (omega arith)) ∙ earlier b
        where
          lt_of : (k ≡ n → ⊥) → k < n
          lt_of r = ⊎_elim (λ (i : k ≡ n). absurd (r i)) (λ (b : k < n). b) (eq-or-lt_of_le (omega arith))

module _ (d : List ℕ) (total : ℕ) (c : Counted d) (few : held_command_count d ≤ 16) (small : total < 2 ^ 16) where
  abbrev rest : ℕ
  rest = total % held_count d

  abbrev each : ℕ
  each = total / held_count d

  rest_small : rest < 256 ^ 4
  rest_small = omega (arith, mod-lt total c.low, c.high)

  each_small : each < 256 ^ 4
  each_small = omega (arith, div-le_self total (held_count d))

  abbrev shared : List ℕ
  shared = put_at d common_place (bytes_of rest)

  shared_fits : common_place + length (bytes_of rest) ≤ length d
  shared_fits = omega (arith, c.size, length_bytes 4 rest)

  shared_length : length shared ≡ drive_length
  shared_length = length_put d common_place (bytes_of rest) shared_fits ∙ c.size

  begun_before : (p m : ℕ) → p + m ≤ common_place → SamePart p m d (period_drive d total)
  unfolding period_drive
  begun_before p m h = owns_before each each_small shared shared_length (held_count d) c.high p m (omega arith) ∙ part_beside d common_place (bytes_of rest) shared_fits p m (inl h)

  begun_image : held_image (period_drive d total) ≡ held_image d
  begun_image = same_image d (period_drive d total) (begun_before length_place heads_place (omega arith))

  begun_common : held_common (period_drive d total) ≡ rest
  unfolding held_common period_drive
  begun_common =
      nat_of (period_drive d total) shared common_place (owns_before each each_small shared shared_length (held_count d) c.high common_place 4 (omega arith))
      ∙ nat_put d common_place rest (omega (arith, c.size)) rest_small

  begun_own : (k : ℕ) → k < held_count d → held_own (period_drive d total) k ≡ each
  unfolding held_own period_drive
  begun_own k h = owns_at each each_small shared shared_length (held_count d) c.high k h

  -- "each of the heads owns S divided by their number, rounded down; the remainder is common"
  pub period_renews : Renewed (period_drive d total) (held_image d) (held_count d) rest (λ (k : ℕ). record { start = (head_of d k).start; waiting = (head_of d k).waiting; own = each })
  unfolding held_count period_drive
  period_renews = record {
    size = owns_length each each_small shared shared_length (held_count d) c.high;
    image_is = begun_image;
    count_is = nat_of (period_drive d total) d count_place (begun_before count_place 4 (omega arith));
    common_is = begun_common;
    heads = λ k h b. same_head d (period_drive d total) begun_image few k (begun_before (head_place k) head_room (omega arith)) each (begun_own k b);
  }
