-- "Stop must be possible": the cold start is all zeros, and an accepted start; Y alone decides of P and Y. Assumes nothing.
use mathlib.Core.Bool.{Bool, true, false, ◌&&◌, and-false}
use mathlib.Core.List.{List, [], ◌∷◌, map}
use mathlib.Core.Path.{◌≡◌, refl, sym, ap, ◌∙◌}
use Prim.Native.Nat.{ℕ, suc, ◌*◌}
use native.Mathlib.Omega.{arith}
use lib.Dec.{leb, lit≤}
use lib.IntN.{ℤ, pos}
use lib.ListN.{length, replicate}
use lib.Signed.{le_z, le_z_yes}
use borrow.Author.Tests.{leb-true, le-leb}
use Rattle.integer.proofs.Machine.{sfits_abs}
use Rattle.word.specs.Digits.{digits_be}
use Rattle.word.specs.Word.{bytes_be, words_at, words_out, Words}
use Rattle.word.specs.Format.{top}
use Rattle.word.proofs.Words.{length_words, words_back}
use Rattle.gradient.specs.Problem.{Command, Problem, cold_start}
use Rattle.gradient.specs.Bounds.{range_p, range_y}
use Rattle.gradient.specs.Demand.{Inside, start_within}
use Rattle.gradient.proofs.Index.{cold_start_at}
use Rattle.gradient.proofs.Lengths.{cold_start_length}
use Rattle.gradient.proofs.Sizes.{range_p_range_y}
use Rattle.gradient.proofs.Tests.{is_true, of_true}
use Rattle.image.specs.declared.Sizes.{Sizes}
use Rattle.image.specs.Sizes.{command_count}
use Rattle.image.specs.Layout.{sizes_of, lower_at, upper_at, command_at, problem_at, problem_of}
use Rattle.image.proofs.Ordering.{both}
use Rattle.interface.specs.Tables.{stop_test, range_test, image_number}
use Rattle.interface.specs.Calls.{start_of, cold_answer}
use Rattle.interface.specs.Stop.{AllZeros, AcceptedStart, YDecides}
use Rattle.interface.proofs.Accept.{accepted, commands_length}

-- ---- the bytes of a cold start
words_zero : (l : List Command) → words_out (map (λ (r : Command). pos 0) l) ≡ replicate (4 * length l) 0
unfolding words_out bytes_be digits_be
words_zero [] = refl
words_zero (r ∷ l) =
    let e : 4 * suc (length l) ≡ suc (suc (suc (suc (4 * length l)))) = omega arith in
    rw (e, words_zero l) refl

count : (image : List ℕ) → length (cold_start (problem_of image)) ≡ command_count (sizes_of image)
unfolding problem_of
count image = cold_start_length (problem_of image) ∙ commands_length (sizes_of image) image

pub all_zeros : (image : List ℕ) → AllZeros image
unfolding cold_answer cold_start problem_of
all_zeros image = words_zero (problem_of image).commands ∙ ap (λ (n : ℕ). replicate (4 * n) 0) (commands_length (sizes_of image) image)

-- ---- commands within the limits, written as bytes, are an accepted start
pub written_start : (image : List ℕ) (zs : List ℤ) → length zs ≡ command_count (sizes_of image) → Words zs → start_within (problem_of image) zs ≡ true
    → AcceptedStart image (words_out zs)
unfolding start_of
written_start image zs n w e = record {
  size = length_words zs ∙ ap (λ (m : ℕ). 4 * m) n;
  within = ap (start_within (problem_of image)) (ap (words_at (words_out zs) 0) (sym n) ∙ words_back zs w) ∙ e;
}

-- so is the cold start of an accepted image
cold_words : (p : Problem) → Words (cold_start p)
cold_words p i h = rw (cold_start_at p i) (sfits_abs (pos 0) (lit≤ {m = 0} {n = 0} tt) (omega arith))

pub cold_start_accepted : (image : List ℕ) → image_number image ≡ 0 → AcceptedStart image (cold_answer image)
unfolding cold_answer
cold_start_accepted image e = written_start image (cold_start (problem_of image)) (count image) (cold_words (problem_of image)) (is_true _ (accepted image e).stop)

-- ---- P is at most Y
module _ (z : Sizes) (s : List ℕ) (i : ℕ) (e : stop_test z s i ≡ true) where
  abbrev p : Problem
  p = problem_at z s

  abbrev r : Command
  r = command_at z s i

  zero_inside : Inside r (pos 0)
  unfolding command_at
  zero_inside =
      let h = both (le_z (lower_at z s i) (pos 0)) (le_z (pos 0) (upper_at z s i)) e in
      record { above = le_z_yes (of_true h.0); below = le_z_yes (of_true h.1) }

  pub y_decides : YDecides z s i
  unfolding range_test
  y_decides = by (leb (range_y p r) (top z.w)) refl
    where
      by : (t : Bool) → leb (range_y p r) (top z.w) ≡ t → leb (range_p p r) (top z.w) && t ≡ t
      by false q = and-false (leb (range_p p r) (top z.w))
      by true q = rw (le-leb (range_p p r) (top z.w) (omega (arith, range_p_range_y p r zero_inside, leb-true (range_y p r) (top z.w) q)))
