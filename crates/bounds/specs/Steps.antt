-- One iteration of the error bounds on arrays: what each element becomes, and what that asks. Assumes nothing.
use Rattle.std.specs.Prelude.{◌≡◌, Bool, true, List, [], ℕ, ◌+◌, ◌*◌, ◌^◌, ◌≤◌, ◌<◌, min, get_or}
use Rattle.integer.specs.Round.{ceil}
use Rattle.gradient.specs.Bounds.{slack}
use Rattle.array.specs.Arrays.{Filled, NatsTo}
use Rattle.weight.specs.Sums.{weight_to, Weighable}
use Rattle.bounds.specs.declared.BoundTerms.{BoundTerms}

-- "new e of a row is the smaller of w and (sum of |M| × q) / 2^b + c"
unfoldable pub e_at : List (List ℕ) → BoundTerms → List ℕ → ℕ → ℕ
e_at magnitudes t q i = min (get_or t.width i 0) (ceil (weight_to (get_or magnitudes i []) q t.n) (2 ^ t.b) + slack)

-- "q = e + β × (e + previous e) / 2^b + 1"
unfoldable pub q_at : BoundTerms → List ℕ → List ℕ → ℕ → ℕ
q_at t new old i = get_or new i 0 + ceil (t.momentum * (get_or new i 0 + get_or old i 0)) (2 ^ t.b) + 1

-- ---- what an iteration asks
-- of what stays the same: machine words then hold each sum and each product
pub record Fitting (t : BoundTerms) : Type 0 where
  pub few : t.n ≤ 16
  pub high : t.b ≤ 20
  pub momentum_most : t.momentum < 2 ^ 20
  pub widths : NatsTo t.n t.width

-- of each row's sum of |M| × q
abbrev pub WeightsTo : ℕ → List (List ℕ) → List ℕ → Type 0
WeightsTo n magnitudes q = (i : ℕ) → i < n → Weighable (get_or magnitudes i []) q n

-- ---- what it leaves: the new bounds and those of y in place of e and q; where settled is true, these are as they were
pub record Stored (t : BoundTerms) (new e q e' q' : List ℕ) (settled : Bool) : Type 0 where
  pub new_e : Filled 0 t.n (λ (i : ℕ). get_or new i 0) e'
  pub new_q : Filled 0 t.n (q_at t new e) q'
  pub same : settled ≡ true → (e' ≡ e) × (q' ≡ q)
