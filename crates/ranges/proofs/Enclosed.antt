-- Request 12: for every state inside the ranges the ordinary solve lies between the carried sequences, after every number of sweeps. Assumes
-- nothing.
use mathlib.Core.List.{List}
use Prim.Native.Nat.{ℕ, zero, suc, ◌+◌}
use native.Mathlib.Omega.{arith}
use lib.Dec.{T}
use lib.IntN.{ℤ, pos, ◌*ℤ◌}
use lib.Signed.{◌≤ℤ◌}
use Rattle.integer.specs.Round.{clamp}
use Rattle.integer.proofs.Parts.{whole}
use Rattle.integer.proofs.Laws.{sub_mono, factor_mono}
use Rattle.integer.proofs.Floor.{floor_mono}
use Rattle.integer.proofs.Clamping.{clamped, clamped_mono}
use Rattle.gradient.specs.Vector.{All1, All2}
use Rattle.gradient.specs.Problem.{Command, Problem, F}
use Rattle.gradient.specs.Scheme.{Iterate, product, row_sum, linear, unclamped, next_z, next_y, step, iterate}
use Rattle.gradient.specs.Demand.{ordered}
use Rattle.gradient.proofs.Vector.{map_all2, zip_all2}
use Rattle.gradient.proofs.Tests.{ordered_all}
use Rattle.gradient.proofs.Range.{F_pos}
use Rattle.ranges.specs.Interval.{Interval, Encloses}
use Rattle.ranges.specs.Sweeps.{IntervalIterate, row_interval, linear_interval, unclamped_interval, clamp_interval, next_z_interval, next_y_interval, interval_step, interval_iterate}
use Rattle.ranges.specs.Claim.{Enclosure}
use Rattle.ranges.proofs.Interval.{row_encloses, difference_encloses, degenerates_enclose}

-- ---- a command
clamp_encloses : (r : Command) (t : Interval) (a : ℤ) → r.lower ≤ℤ r.upper → Encloses t a → Encloses (clamp_interval r t) (clamp r.lower r.upper a)
unfolding clamp_interval
clamp_encloses r t a b h = record { above = mono h.above; below = mono h.below }
  where
    mono : {s u : ℤ} → s ≤ℤ u → clamp r.lower r.upper s ≤ℤ clamp r.lower r.upper u
    mono {s} {u} l = clamped_mono b (clamped r.lower r.upper s) (clamped r.lower r.upper u) l

module _ (p : Problem) where
  unclamped_encloses : {inputs : List Interval} {values : List ℤ} {ys : List Interval} {y : List ℤ} → All2 Encloses inputs values → All2 Encloses ys y
      → (r : Command) → Encloses (unclamped_interval p inputs ys r) (unclamped p values y r)
  unfolding unclamped_interval unclamped linear_interval linear
  unclamped_encloses {inputs} {values} {ys} {y} i h r =
      difference_encloses (row_interval (F p) r.row ys) (row_interval (F p) r.gains inputs) (row_sum (F p) r.row y) (row_sum (F p) r.gains values)
      (row_encloses (F p) (F_pos p) r.row h) (row_encloses (F p) (F_pos p) r.gains i)

  -- ---- y: a rounded product by a natural keeps the order
  product_mono : (n : ℕ) (a b : ℤ) → a ≤ℤ b → product (F p) (pos n) a ≤ℤ product (F p) (pos n) b
  product_mono n a b h = floor_mono (pos n *ℤ a) (pos n *ℤ b) (F_pos p) (factor_mono {c = pos n} (omega (arith, whole)) h)

  y_encloses : (new old : Interval) (a b : ℤ) → Encloses new a → Encloses old b → Encloses (next_y_interval p new old) (next_y p a b)
  unfolding next_y_interval next_y
  y_encloses new old a b h k = record {
    above = sub_mono (product_mono (F p + p.momentum) new.lowest a h.above) (product_mono p.momentum b old.highest k.below);
    below = sub_mono (product_mono (F p + p.momentum) a new.highest h.below) (product_mono p.momentum old.lowest b k.above);
  }

  -- ---- a sweep, and every number of them
  module _ (box : All1 (λ (r : Command). r.lower ≤ℤ r.upper) p.commands) {inputs : List Interval} {values : List ℤ} (i : All2 Encloses inputs values) where
    step_encloses : (x : IntervalIterate) (s : Iterate) → Enclosure x s → Enclosure (interval_step p inputs x) (step p values s)
    unfolding interval_step step next_z_interval next_z
    step_encloses x s h =
        let new = map_all2 (next_z_interval p inputs x.y) (next_z p values s.y) (λ r b. clamp_encloses r _ _ b (unclamped_encloses i h.y_between r)) box in
        record { z_between = new; y_between = zip_all2 (next_y_interval p) (next_y p) (λ a a' b b' j k. y_encloses a a' b b' j k) new h.z_between }

    iterate_encloses : (start : List ℤ) (k : ℕ) → Enclosure (interval_iterate p inputs start k) (iterate p values start k)
    unfolding interval_iterate iterate
    iterate_encloses start zero = record { z_between = degenerates_enclose start; y_between = degenerates_enclose start }
    iterate_encloses start (suc k) = step_encloses (interval_iterate p inputs start k) (iterate p values start k) (iterate_encloses start k)

-- "for every state inside the ranges, the ordinary solve's commands lie between the two sequences after each sweep, start and target being
-- the same"
pub enclosed : (p : Problem) → T (ordered p) → (inputs : List Interval) (values start : List ℤ) → All2 Encloses inputs values
    → (k : ℕ) → Enclosure (interval_iterate p inputs start k) (iterate p values start k)
enclosed p o inputs values start i k = iterate_encloses p (ordered_all p o) i start k
