-- The new commands of both ends on arrays: what each element becomes, and what that asks. Assumes nothing.
use Rattle.std.specs.Prelude.{◌≡◌, List, [], ℕ, ◌<◌, get_or, ℤ, pos, nat_abs}
use Rattle.gradient.specs.Index.{sum_z}
use Rattle.array.specs.Arrays.{Filled, Tabled}
use Rattle.commands.specs.declared.CommandTerms.{CommandTerms}
use Rattle.commands.specs.Steps.{command_of, Fitting}
use Rattle.ranges.specs.Interval.{End, low, high}
use Rattle.range_sums.specs.Ends.{end_term, Ranged, EndsSmall}

-- an end of command i, from that end of its row of M y; the linear terms of t are the opposite end of h
abbrev pub z_end : End → List (List ℤ) → CommandTerms → List ℤ → List ℤ → ℕ → ℤ
z_end e m t lows highs i = command_of t i (sum_z (end_term e (get_or m i []) lows highs) 0 t.n)

-- what an iteration asks: t are the terms of the lowest commands, u those of the highest
pub record EndsReady (m : List (List ℤ)) (magnitudes : List (List ℕ)) (t u : CommandTerms) (lows highs : List ℤ) : Type 0 where
  pub low_terms : Fitting t
  pub high_terms : Fitting u
  pub count : u.n ≡ t.n
  pub values : Ranged lows highs t.n
  pub rows : (i : ℕ) → i < t.n → EndsSmall (get_or m i []) lows highs t.n
  pub magnitude_rows : Tabled 0 t.n (λ (i j : ℕ). nat_abs (get_or (get_or m i []) j (pos 0))) magnitudes

-- what it leaves
pub record NewEnds (m : List (List ℤ)) (t u : CommandTerms) (lows highs new-lows new-highs : List ℤ) : Type 0 where
  pub lowest : Filled (pos 0) t.n (z_end low m t lows highs) new-lows
  pub highest : Filled (pos 0) t.n (z_end high m u lows highs) new-highs
