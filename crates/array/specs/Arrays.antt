-- An array of 16 as a list, of which the first n elements count. Assumes nothing.
use Rattle.std.specs.Prelude.{◌≡◌, List, [], ℕ, ◌^◌, ◌≤◌, ◌<◌, length, get_or, ℤ, pos, nat_abs}

-- the first n are f 0, f 1, ..
pub record Filled {A : Type 0} (d : A) (n : ℕ) (f : ℕ → A) (l : List A) : Type 0 where
  pub sized : length l ≡ 16
  pub each : (i : ℕ) → i < n → get_or l i d ≡ f i

-- the first n of the first n rows are f 0 0, f 0 1, ..
abbrev pub Tabled : {A : Type 0} → A → ℕ → (ℕ → ℕ → A) → List (List A) → Type 0
Tabled d n f m = (i : ℕ) → i < n → Filled d n (f i) (get_or m i [])

-- the first n are words; the first n of the first n rows are; the first n are words without a sign
abbrev pub WordsTo : ℕ → List ℤ → Type 0
WordsTo n l = (i : ℕ) → i < n → nat_abs (get_or l i (pos 0)) ≤ 2 ^ 31

abbrev pub RowsTo : ℕ → List (List ℤ) → Type 0
RowsTo n m = (i : ℕ) → i < n → WordsTo n (get_or m i [])

abbrev pub NatsTo : ℕ → List ℕ → Type 0
NatsTo n l = (i : ℕ) → i < n → get_or l i 0 < 2 ^ 32
