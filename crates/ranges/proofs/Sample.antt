-- The carried sequences of the samples, computed from the definitions, and the claim of request 12 for them. Assumes nothing.
use mathlib.Core.Path.{◌≡◌, refl}
use mathlib.Core.Bool.{false}
use mathlib.Core.List.{List, [], ◌∷◌}
use Prim.Native.Nat.{ℕ, suc}
use lib.IntN.{ℤ, pos, neg_ℤ}
use Rattle.integer.specs.Round.{floor, ceil, clamp}
use Rattle.gradient.specs.Index.{tab}
use Rattle.gradient.specs.Problem.{Problem, F, cold_start}
use Rattle.gradient.specs.Scheme.{next_y}
use Rattle.gradient.specs.Bounds.{magnitude, width, weight, range_p, range_y, range_a, range_b}
use Rattle.gradient.specs.Demand.{every, every2, formatted, ordered, headroom, start_within}
use Rattle.gradient.specs.Sample.{sample, S, pair, pair_start}
use Rattle.ranges.specs.Interval.{Interval, interval, input_intervals, taken_end, interval_difference}
use Rattle.ranges.specs.Sweeps.{row_interval, linear_interval, unclamped_interval, clamp_interval, next_z_interval, next_y_interval, interval_step, interval_iterate}
use Rattle.ranges.specs.Claim.{interval_within, intervals_within, IntervalClaim}
use Rattle.ranges.specs.Sample.{wide, pair_ranges}
use Rattle.ranges.proofs.Claim.{interval_claim}

-- ---- after sweeps 1 to n, from the start
abbrev carried_to : Problem → List Interval → List ℤ → ℕ → List (List Interval)
carried_to p inputs start n = tab (λ (k : ℕ). (interval_iterate p inputs start (suc k)).z) n

-- S with its state anywhere in −10 to 10: the lowest are the commands of state 10
pub s_carried : carried_to S wide (cold_start S) 3
    ≡ (interval (neg_ℤ (pos 10)) (pos 10) ∷ []) ∷ (interval (neg_ℤ (pos 15)) (pos 15) ∷ []) ∷ (interval (neg_ℤ (pos 18)) (pos 17) ∷ []) ∷ []
unfolding sample S wide input_intervals F floor clamp cold_start taken_end interval_difference row_interval linear_interval unclamped_interval clamp_interval next_z_interval next_y next_y_interval interval_step interval_iterate
s_carried = refl

-- the two commands, with factors of both signs and a β that is not 0; the fourth sweep meets a limit
pub pair_carried : carried_to pair pair_ranges pair_start 4
    ≡ (interval (pos 0) (pos 6) ∷ interval (neg_ℤ (pos 7)) (neg_ℤ (pos 1)) ∷ [])
    ∷ (interval (neg_ℤ (pos 1)) (pos 9) ∷ interval (neg_ℤ (pos 10)) (pos 0) ∷ [])
    ∷ (interval (neg_ℤ (pos 3)) (pos 11) ∷ interval (neg_ℤ (pos 13)) (pos 2) ∷ [])
    ∷ (interval (neg_ℤ (pos 5)) (pos 13) ∷ interval (neg_ℤ (pos 15)) (pos 4) ∷ []) ∷ []
unfolding pair pair_start pair_ranges input_intervals F floor clamp taken_end interval_difference row_interval linear_interval unclamped_interval clamp_interval next_z_interval next_y next_y_interval interval_step interval_iterate
pair_carried = refl

-- ---- check 13: "a low above its high, or an end beyond the state limit"
pub s_crossed : intervals_within S (interval (pos 1) (pos 0) ∷ []) ≡ false
unfolding sample S every2 interval_within intervals_within
s_crossed = refl

pub s_beyond : intervals_within S (interval (pos 0) (pos 11) ∷ []) ≡ false
unfolding sample S every2 interval_within intervals_within
s_beyond = refl

pub s_beneath : intervals_within S (interval (neg_ℤ (pos 11)) (pos 0) ∷ []) ≡ false
unfolding sample S every2 interval_within intervals_within
s_beneath = refl

-- the samples meet what the claim is given, so it is no empty one
pub pair_claim : (k : ℕ) → IntervalClaim pair pair_ranges pair_start k
unfolding pair pair_start pair_ranges input_intervals F ceil magnitude width weight range_p range_y range_a range_b every every2 formatted ordered headroom start_within interval_within intervals_within
pair_claim = interval_claim pair pair_ranges pair_start tt tt tt tt tt
