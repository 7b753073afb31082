-- The parts of a drive as the code cuts them out, and what it writes. Assumes nothing.
use mathlib.Core.Path.{◌≡◌, sym, ap, ap₂, ◌∙◌}
use mathlib.Core.List.{List}
use Prim.Native.Nat.{ℕ, ◌+◌, ◌*◌, ◌-◌, ◌<◌, ◌≤◌}
use native.Mathlib.Nat.{mul-le-mul, le_refl}
use native.Mathlib.Omega.{arith}
use lib.ListN.{length, take, drop, length-drop}
use lib.Seq.{length-take-le, get_or-take}
use lib.IntN.{ℤ, pos}
use Rattle.word.specs.Word.{Words, words_out}
use Rattle.gradient.specs.Index.{tab}
use Rattle.gradient.proofs.Index.{tab_list}
use Rattle.image.specs.declared.Sizes.{Sizes}
use Rattle.image.specs.Sizes.{Sound, command_count}
use Rattle.image.specs.Layout.{sizes_of}
use Rattle.interface.specs.Calls.{answer_length}
use Rattle.device.specs.Device.{most_heads}
use Rattle.drive.specs.Layout.{image_place, held_length, start_place, answer_place, held_image, held_command_count, held_start, held_answer}
use Rattle.drive.specs.Move.{moved_at, next_start}
use Rattle.drive.specs.Parts.{Found, Moved}

-- the image, up to where it ends
pub image_part : (d : List ℕ) (r : ℕ) → r ≡ image_place + held_length d → take (r - image_place) (drop image_place d) ≡ held_image d
unfolding held_image
image_part d r e = let n : r - image_place ≡ held_length d = omega (arith, e) in ap (λ (k : ℕ). take k (drop image_place d)) n

-- the start of head k, from where it begins up to where it ends
pub start_part : (d : List ℕ) (k p r : ℕ) → p ≡ start_place k → r ≡ start_place k + 4 * held_command_count d → take (r - p) (drop p d) ≡ held_start d k
unfolding held_start
start_part d k p r b e =
    let n : r - p ≡ 4 * held_command_count d = omega (arith, b, e) in
    ap₂ (λ (m q : ℕ). take m (drop q d)) n b

-- the answer of head k, from where it begins up to where it ends
pub answer_part : (d : List ℕ) (k p r : ℕ) → p ≡ answer_place k → r ≡ answer_place k + answer_length (sizes_of (held_image d)) → take (r - p) (drop p d) ≡ held_answer d k
unfolding held_answer
answer_part d k p r b e =
    let n : r - p ≡ answer_length (sizes_of (held_image d)) = omega (arith, b, e) in
    ap₂ (λ (m q : ℕ). take m (drop q d)) n b

-- and its length, by the held image's sizes
pub answer_length_lem : (d : List ℕ) (z : Sizes) → z ≡ sizes_of (held_image d) → Found d → (k : ℕ) → k < most_heads → length (held_answer d k) ≡ answer_length z
unfolding held_answer
answer_length_lem d z e f k h =
    let few : held_command_count d ≤ 16 = f.whole.sizes.n_high in
    length-take-le (answer_length (sizes_of (held_image d))) (drop (answer_place k) d) (rw (length-drop (answer_place k) d) (omega (arith, few, f.size))) ∙ ap answer_length (sym e)

-- the first commands are a part of it
pub first_within : (z : Sizes) → Sound z → 4 * z.nu ≤ answer_length z
first_within z s = omega (arith, mul-le-mul {n₁ = z.nu} {m₁ = 1} {n₂ = z.nu} {m₂ = z.steps} (le_refl z.nu) s.steps_low)

-- the words of an array that holds the next start
module _ (z : Sizes) (i a : List ℕ) (r : List ℤ) (few : command_count z ≤ 16) (m : Moved z i a r) where
  taken : length (take (command_count z) r) ≡ command_count z
  taken = length-take-le (command_count z) r (omega (arith, m.sized))

  pub next_words : Words (take (command_count z) r)
  next_words j h =
      let b : j < command_count z = omega (arith, taken) in
      rw (get_or-take (command_count z) r j (pos 0) b) (m.each j b).1

  pub next_is : z ≡ sizes_of i → words_out (take (command_count z) r) ≡ next_start i a
  unfolding next_start
  next_is e =
      ap words_out (tab_list (take (command_count z) r) (pos 0) (moved_at z i a) (λ j h. let b : j < command_count z = omega (arith, taken) in get_or-take (command_count z) r j (pos 0) b ∙ (m.each j b).0) ∙ ap (tab (moved_at z i a)) taken)
      ∙ ap (λ (z : Sizes). words_out (tab (moved_at z i a) (command_count z))) e
