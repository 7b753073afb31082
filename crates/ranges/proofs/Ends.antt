-- A sweep end by end, and what a row takes by index: what code with an array for each end needs. Assumes nothing.
use mathlib.Core.Path.{◌≡◌, refl}
use mathlib.Core.List.{List, ◌++◌}
use Prim.Native.Nat.{ℕ, ◌<◌}
use lib.IntN.{ℤ, pos, ◌-ℤ◌}
use lib.ListN.{length, get_or}
use Rattle.integer.specs.Round.{clamp}
use Rattle.gradient.specs.Problem.{Command, Problem, F}
use Rattle.gradient.specs.Scheme.{row_sum, next_y}
use Rattle.gradient.proofs.Vector.{zip_at, zip_length}
use Rattle.gradient.proofs.Append.{zip_append}
use Rattle.ranges.specs.Interval.{Interval, End, low, high, opposite, end_of, taken_end, taken_ends, interval_difference}
use Rattle.ranges.specs.Sweeps.{row_interval, linear_interval, unclamped_interval, clamp_interval, next_z_interval, next_y_interval}

-- ---- a sweep
pub linear_end_lem : (e : End) (p : Problem) (inputs : List Interval) (r : Command) → end_of e (linear_interval p inputs r) ≡ row_sum (F p) r.gains (taken_ends e r.gains inputs)
unfolding linear_interval row_interval
linear_end_lem low p inputs r = refl
linear_end_lem high p inputs r = refl

pub next_z_end : (e : End) (p : Problem) (inputs y : List Interval) (r : Command)
    → end_of e (next_z_interval p inputs y r) ≡ clamp r.lower r.upper (row_sum (F p) r.row (taken_ends e r.row y) -ℤ end_of (opposite e) (linear_interval p inputs r))
unfolding next_z_interval clamp_interval unclamped_interval interval_difference row_interval
next_z_end low p inputs y r = refl
next_z_end high p inputs y r = refl

pub next_y_end : (e : End) (p : Problem) (new old : Interval) → end_of e (next_y_interval p new old) ≡ next_y p (end_of e new) (end_of (opposite e) old)
unfolding next_y_interval
next_y_end low p new old = refl
next_y_end high p new old = refl

pub two_ends : (x y : Interval) → ((e : End) → end_of e x ≡ end_of e y) → x ≡ y
two_ends x y h = λ i. record { lowest = h low i; highest = h high i }

-- ---- by index
module _ (e : End) (row : List ℤ) (ys : List Interval) where
  pub taken_at : (d : Interval) (j : ℕ) → j < length row → j < length ys → get_or (taken_ends e row ys) j (pos 0) ≡ taken_end e (get_or row j (pos 0)) (get_or ys j d)
  taken_at d j h k = zip_at (taken_end e) row ys j (pos 0) d (pos 0) h k

  pub taken_length : length row ≡ length ys → length (taken_ends e row ys) ≡ length row
  taken_length h = zip_length (taken_end e) row ys h

pub taken_append : (e : End) (row more : List ℤ) (xs ys : List Interval) → length row ≡ length xs
    → taken_ends e (row ++ more) (xs ++ ys) ≡ taken_ends e row xs ++ taken_ends e more ys
taken_append e row more xs ys h = zip_append (taken_end e) row more xs ys h
