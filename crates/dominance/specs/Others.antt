-- The magnitudes beside the diagonal, of a row that calls answer entry by entry. Assumes nothing.
use Rattle.std.specs.Prelude.{◌≡◌, cond, ℕ, ◌<◌, eqb, ℤ, nat_abs}
use Rattle.gradient.specs.Index.{sum_n}

-- the sum of the magnitudes of n entries but entry i
abbrev pub others_in : (ℕ → ℤ) → ℕ → ℕ → ℕ
others_in row i n = sum_n (λ (j : ℕ). cond (eqb i j) 0 (nat_abs (row j))) n

-- what a call answers of each of n places is the row's entry there
abbrev pub Answers : (ℕ → ℤ → Type 0) → (ℕ → ℤ) → ℕ → Type 0
Answers post row n = (j : ℕ) (x : ℤ) → j < n → post j x → x ≡ row j
