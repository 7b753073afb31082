-- The next start passes 14 of the next ask: it has 4n bytes, and each command is within the limits of its step. Assumes nothing.
use mathlib.Core.Path.{◌≡◌, sym, ap, ◌∙◌}
use mathlib.Core.List.{List}
use Prim.Native.Nat.{ℕ, ◌*◌, ◌<◌}
use native.Mathlib.Omega.{arith}
use lib.ListN.{length, get_or}
use lib.IntN.{ℤ, pos}
use mir.Syntax.{w32}
use mir.Val.{SFits}
use Rattle.integer.proofs.Clamping.{clamped, clamped_lower, clamped_upper, clamp_most}
use Rattle.word.specs.Word.{Words, word_at}
use Rattle.word.proofs.Words.{length_words}
use Rattle.gradient.specs.Vector.{All2}
use Rattle.gradient.specs.Demand.{Inside, InWord}
use Rattle.gradient.specs.Index.{tab}
use Rattle.gradient.proofs.Index.{tab_length, tab_at, all1_at, at_all2}
use Rattle.gradient.proofs.Tests.{ordered_all, all_start}
use Rattle.gradient.proofs.Sizes.{word_fits}
use Rattle.image.specs.declared.Sizes.{Sizes}
use Rattle.image.specs.Sizes.{command_count}
use Rattle.image.specs.Layout.{sizes_of, lower_at, upper_at, command_at, problem_of}
use Rattle.interface.specs.Tables.{image_number}
use Rattle.interface.specs.Accepted.{Accepted}
use Rattle.interface.specs.Stop.{AcceptedStart}
use Rattle.interface.proofs.Accept.{accepted, commands_length, command_at_lem}
use Rattle.interface.proofs.Stop.{written_start}
use Rattle.drive.specs.Move.{moved_from, moved_at, next_start}

pub next_length : (image answer : List ℕ) → length (next_start image answer) ≡ 4 * command_count (sizes_of image)
unfolding next_start
next_length image answer =
    let z = sizes_of image in
    length_words (tab (moved_at z image answer) (command_count z)) ∙ ap (λ (n : ℕ). 4 * n) (tab_length (moved_at z image answer) (command_count z))

module _ (image answer : List ℕ) (ok : Accepted image) where
  abbrev z : Sizes
  z = sizes_of image

  -- a command of the problem is that of the image
  long : length (problem_of image).commands ≡ command_count z
  unfolding problem_of
  long = commands_length z image

  at : (k : ℕ) → k < command_count z → get_or (problem_of image).commands k (command_at z image 0) ≡ command_at z image k
  unfolding problem_of
  at k h = command_at_lem z image (command_at z image 0) k h

  inside_at : (k : ℕ) → k < command_count z → Inside (command_at z image k) (moved_at z image answer k)
  unfolding command_at moved_at
  inside_at k h =
      let o = rw (at k h) at (all1_at (ordered_all (problem_of image) ok.order) (command_at z image 0) k (omega (arith, long))) in
      let c = clamped (lower_at z image k) (upper_at z image k) (word_at answer (4 * moved_from z k)) in
      record { above = clamped_lower o c; below = clamped_upper o c }

  fits_at : (k : ℕ) → k < command_count z → SFits w32 (moved_at z image answer k)
  unfolding command_at moved_at InWord
  fits_at k h =
      let r = rw (at k h) at (all1_at ok.sized.commands_sized (command_at z image 0) k (omega (arith, long))) in
      word_fits (problem_of image) ok.sized _ (clamp_most (lower_at z image k) (upper_at z image k) (word_at answer (4 * moved_from z k)) r.lower_word r.upper_word)

  moved : List ℤ
  moved = tab (moved_at z image answer) (command_count z)

  moved_length : length moved ≡ command_count z
  unfolding moved
  moved_length = tab_length (moved_at z image answer) (command_count z)

  moved_words : Words moved
  unfolding moved
  moved_words k h =
      let b : k < command_count z = omega (arith, moved_length) in
      rw (tab_at (moved_at z image answer) (command_count z) k (pos 0) b) (fits_at k b)

  moved_inside : All2 Inside (problem_of image).commands moved
  unfolding moved
  moved_inside =
      at_all2 (problem_of image).commands moved (command_at z image 0) (pos 0) (long ∙ sym moved_length)
      (λ k h. let b : k < command_count z = omega (arith, long) in rw (at k b, tab_at (moved_at z image answer) (command_count z) k (pos 0) b) (inside_at k b))

  written : AcceptedStart image (next_start image answer)
  unfolding next_start moved
  written = written_start image moved moved_length moved_words (all_start (problem_of image) moved moved_inside)

-- whatever the answer's bytes are
pub next_accepted : (image answer : List ℕ) → image_number image ≡ 0 → AcceptedStart image (next_start image answer)
next_accepted image answer e = written image answer (accepted image e)
