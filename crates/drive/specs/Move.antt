-- Request 9: what a commit makes of a waiting answer. Assumes nothing.
use Rattle.std.specs.Prelude.{ℕ, ◌+◌, ◌*◌, ◌<◌, cond, List, ◌≡◌, ltb, take, ℤ}
use Rattle.integer.specs.Round.{clamp}
use Rattle.word.specs.Word.{word_at, words_out}
use Rattle.gradient.specs.Index.{tab}
use Rattle.image.specs.declared.Sizes.{Sizes}
use Rattle.image.specs.Sizes.{command_count}
use Rattle.image.specs.Layout.{sizes_of, lower_at, upper_at}

-- "moves the rest one step forward, repeats the last step": the command that becomes command k, nu further or, in the last step, itself
abbrev pub moved_from : Sizes → ℕ → ℕ
moved_from z k = cond (ltb (k + z.nu) (command_count z)) (k + z.nu) k

-- "and holds each to the limits of its new step"
unfoldable pub moved_at : Sizes → List ℕ → List ℕ → ℕ → ℤ
moved_at z image answer k = clamp (lower_at z image k) (upper_at z image k) (word_at answer (4 * moved_from z k))

-- "as the next start": of an image and an answer
unfoldable pub next_start : List ℕ → List ℕ → List ℕ
next_start image answer = words_out (tab (moved_at (sizes_of image) image answer) (command_count (sizes_of image)))

-- "4nu bytes", and "the waiting answer's first nu commands"
abbrev pub first_length : List ℕ → ℕ
first_length image = 4 * (sizes_of image).nu

unfoldable pub first_commands : List ℕ → List ℕ → List ℕ
first_commands image answer = take (first_length image) answer

-- ---- the same by motor and step, as a statement
-- which command a motor has at a step, and what an answer says of it
abbrev pub command_of : Sizes → ℕ → ℕ → ℕ
command_of z step motor = step * z.nu + motor

abbrev pub answered_at : Sizes → List ℕ → ℕ → ℕ → ℤ
answered_at z answer step motor = word_at answer (4 * command_of z step motor)

-- a value held to the limits of a motor at a step
abbrev pub clamp_at : Sizes → List ℕ → ℕ → ℕ → ℤ → ℤ
clamp_at z image step motor t = clamp (lower_at z image (command_of z step motor)) (upper_at z image (command_of z step motor)) t

-- "the rest one step forward", "the last step" repeated, "each to the limits of its new step"
pub record MovedOn (z : Sizes) (image answer : List ℕ) (step motor : ℕ) : Type 0 where
  pub forward : step + 1 < z.steps → moved_at z image answer (command_of z step motor) ≡ clamp_at z image step motor (answered_at z answer (step + 1) motor)
  pub repeated : step + 1 ≡ z.steps → moved_at z image answer (command_of z step motor) ≡ clamp_at z image step motor (answered_at z answer step motor)
