-- What the code of the calls asks for. Assumes nothing.
use Rattle.std.specs.Prelude.{ℕ, ◌+◌, ◌<◌, ◌≤◌, List, ◌≡◌, ℤ, pos, length, get_or}
use Rattle.std.specs.Int.{w32}
use Rattle.std.proofs.Common.{SFits}
use Rattle.image.specs.declared.Sizes.{Sizes}
use Rattle.image.specs.Sizes.{Whole, command_count}
use Rattle.image.specs.Layout.{sizes_of}
use Rattle.interface.specs.Calls.{answer_length}
use Rattle.interface.specs.Accepted.{Solvable, Dominant}
use Rattle.device.specs.Device.{most_heads}
use Rattle.drive.specs.Layout.{drive_length, held_image, held_start, held_count, held_own, held_common, held_sweeps}
use Rattle.drive.specs.Move.{moved_at}

-- a drive whose parts can be found: of its exact length, its image of a right length and sizes
pub record Found (d : List ℕ) : Type 0 where
  pub size : length d ≡ drive_length
  pub whole : Whole (sizes_of (held_image d)) (held_image d)

-- one that has head k
pub record Placed (d : List ℕ) (k : ℕ) : Type 0 where
  pub inside : k < most_heads
  pub size : length d ≡ drive_length
  pub counted : k < held_count d

-- one of 1 to 4 heads
pub record Counted (d : List ℕ) : Type 0 where
  pub size : length d ≡ drive_length
  pub low : 1 ≤ held_count d
  pub high : held_count d ≤ most_heads

-- one that passes every check of an ask of head k
pub record Askable (d : List ℕ) (k : ℕ) (state target : List ℕ) (room : ℕ) : Type 0 where
  pub placed : Placed d k
  pub solves : Solvable (held_image d) state target (held_start d k)
  pub dominant : Dominant (held_image d)
  pub room_is : room ≡ answer_length (sizes_of (held_image d))
  pub enough : held_sweeps d ≤ held_own d k + held_common d

-- x is command k of the next start, and a word
abbrev pub MovedWord : Sizes → List ℕ → List ℕ → ℕ → ℤ → Type 0
MovedWord z image answer k x = (x ≡ moved_at z image answer k) × SFits w32 x

-- an array of 16 whose first n are the next start
pub record Moved (z : Sizes) (image answer : List ℕ) (l : List ℤ) : Type 0 where
  pub sized : length l ≡ 16
  pub each : (k : ℕ) → k < command_count z → MovedWord z image answer k (get_or l k (pos 0))
