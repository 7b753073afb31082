-- A file of words has 8 digits for each, and one byte more; and what is read of a longer file is no such file either. Assumes nothing.
use mathlib.Core.Path.{◌≡◌}
use mathlib.Core.Bool.{true, false}
use mathlib.Core.List.{List}
use Prim.Native.Nat.{ℕ, ◌+◌, ◌*◌, ◌≤◌, ◌<◌}
use native.Mathlib.Omega.{arith}
use lib.Dec.{eqb}
use lib.ListN.{length, take}
use lib.Seq.{length-take-le}
use borrow.Author.Tests.{eqb-true, ne_eqb}
use Rattle.integer.proofs.Tests.{both}
use Rattle.word_file.specs.WordFile.{is_word_file, state_room, target_room}

pub file_length : (count : ℕ) (file : List ℕ) → is_word_file count file ≡ true → length file ≡ 8 * count + 1
unfolding is_word_file
file_length count file e = eqb-true (length file) (8 * count + 1) (both (eqb (length file) (8 * count + 1)) _ e).0

pub not_word_file : (count : ℕ) (file : List ℕ) → (length file ≡ 8 * count + 1 → ⊥) → is_word_file count file ≡ false
unfolding is_word_file
not_word_file count file h = rw (ne_eqb (length file) (8 * count + 1) h)

-- ---- a file that is longer than what is read of it
cut_file : (m k : ℕ) (file : List ℕ) → 8 * k + 1 < m → m < length file → (is_word_file k (take m file) ≡ false) × (is_word_file k file ≡ false)
cut_file m k file h l =
    let e : length (take m file) ≡ m = length-take-le m file (omega arith) in (
      not_word_file k (take m file) (λ (q : length (take m file) ≡ 8 * k + 1). omega arith),
      not_word_file k file (λ (q : length file ≡ 8 * k + 1). omega arith),
    )

pub long_state : (k : ℕ) (file : List ℕ) → k ≤ 12 → state_room < length file → (is_word_file k (take state_room file) ≡ false) × (is_word_file k file ≡ false)
long_state k file h l = cut_file state_room k file (omega arith) l

pub long_target : (k : ℕ) (file : List ℕ) → k ≤ 4 → target_room < length file → (is_word_file k (take target_room file) ≡ false) × (is_word_file k file ≡ false)
long_target k file h l = cut_file target_room k file (omega arith) l
