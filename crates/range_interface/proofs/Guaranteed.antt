-- The bytes of an answer say the carried commands, so request 12 holds of what is answered. Assumes nothing.
use mathlib.Core.Path.{◌≡◌, sym, ap, ◌∙◌}
use mathlib.Core.List.{List, ◌++◌, map}
use Prim.Native.Nat.{ℕ, ◌*◌, ◌<◌}
use native.Mathlib.Omega.{arith}
use lib.IntN.{pos}
use lib.ListN.{length, length-map, length-append}
use Rattle.word.specs.Word.{Words}
use Rattle.gradient.proofs.Index.{all1_at, map_at}
use Rattle.gradient.proofs.Sizes.{word_fits}
use Rattle.image.specs.Sizes.{command_count}
use Rattle.image.specs.Layout.{sizes_of, problem_of}
use Rattle.interface.specs.Calls.{start_of, commands_after, solve_answer}
use Rattle.interface.proofs.Accept.{commands_length}
use Rattle.interface.proofs.Demand.{start_length, solvable}
use Rattle.interface.proofs.Guaranteed as solve
use Rattle.ranges.specs.Interval.{Interval, degenerate, End, end_of}
use Rattle.ranges.specs.Claim.{IntervalBounded, IntervalClaim}
use Rattle.ranges.proofs.Index.{z_length}
use Rattle.range_interface.specs.Calls.{intervals_at, intervals_out, range_inputs_of, range_solvable_number, ranges_after, range_answer}
use Rattle.range_interface.specs.Accepted.{RangeSolvable}
use Rattle.range_interface.specs.Claim.{RangeClaim, command_bytes, RangeGuarantee}
use Rattle.range_interface.proofs.Words.{intervals_back, out_twice}
use Rattle.range_interface.proofs.Accept.{range_solvable, range_claims}
use Rattle.range_interface.proofs.Enclosed.{inside_solvable, inside_accepted, commands_between}
use Rattle.range_interface.proofs.Same.{twice}

module _ (image ranges target start : List ℕ) (s : RangeSolvable image ranges target start) where
  abbrev n : ℕ
  n = command_count (sizes_of image)

  abbrev sweeps : ℕ
  sweeps = (sizes_of image).sweeps

  abbrev carried : List Interval
  carried = ranges_after image ranges target start sweeps

  claim : IntervalClaim (problem_of image) (range_inputs_of (sizes_of image) ranges target) (start_of (sizes_of image) start) sweeps
  unfolding RangeClaim
  claim = range_claims s sweeps (omega arith)

  pub carried_length : length carried ≡ n
  unfolding ranges_after problem_of
  carried_length =
      let size = commands_length (sizes_of image) image in
      z_length (problem_of image) (range_inputs_of (sizes_of image) ranges target) (start_of (sizes_of image) start) (start_length (sizes_of image) start ∙ sym size) sweeps ∙ size

  -- the ends are words
  pub carried_words : (end : End) → Words (map (end_of end) carried)
  unfolding ranges_after
  carried_words end i h =
      let j : i < length carried = rw (length-map carried (end_of end)) at h in
      rw (map_at (end_of end) carried i (degenerate (pos 0)) (pos 0) j) (word_fits (problem_of image) s.accepted.sized _ (all1_at (claim.in_range sweeps (omega arith)).z_word (degenerate (pos 0)) i j end))

  -- what the bytes say
  said : intervals_at n (range_answer image ranges target start) ≡ carried
  unfolding range_answer
  said = rw (← carried_length) (intervals_back carried carried_words)

  answered_twice : (state : List ℕ) → ranges ≡ state ++ state → range_answer image ranges target start ≡ command_bytes image state target start ++ command_bytes image state target start
  unfolding range_answer solve_answer
  answered_twice state q =
      let l : length state ≡ 4 * (sizes_of image).nx = omega (arith, s.ranges_size, length-append state state, ap (λ (b : List ℕ). length b) q) in
      ap (λ (b : List ℕ). intervals_out (ranges_after image b target start sweeps)) q
      ∙ rw (twice image state target start l sweeps, solve.front_bytes image state target start sweeps) (out_twice (commands_after image state target start sweeps))

-- of the bytes that an accepted call answers
pub range_guaranteed : (image ranges target start : List ℕ) → range_solvable_number image ranges target start ≡ 0 → RangeGuarantee image ranges target start (range_answer image ranges target start)
unfolding IntervalBounded ranges_after solve_answer
range_guaranteed image ranges target start e =
    let s = range_solvable image ranges target start e in
    let k = (sizes_of image).sweeps in
    let said = said image ranges target start s in
    let claim = claim image ranges target start s in
    record {
      limits = rw said claim.bounded;
      in_order = rw said claim.z_order;
      enclosed = λ state i. record {
        accepted = inside_accepted i target start e;
        between = rw (said, solve.commands_said image state target start (solvable image state target start (inside_solvable i target start e)) k) (commands_between i target start e k);
      };
      one_value = answered_twice image ranges target start s;
    }
