-- A drive as a value. Assumes nothing.
use Rattle.std.specs.Prelude.{ℕ, Bool, true, false, not, ◌&&◌, List, [], ◌∷◌, length, get_or}
use Rattle.std.proofs.Math.Option.{Option, none, some}

-- "each with its own start and waiting answer"
pub record Head : Type 0 where
  pub start : List ℕ
  pub waiting : Option (List ℕ)
  -- what it "has left of its own share" of the period's sweeps
  pub own : ℕ

-- the heads "share one image"
pub record Device : Type 0 where
  pub image : List ℕ
  pub heads : List Head
  -- what is left of the "common part"
  pub common : ℕ

-- "up to four heads"
abbrev pub most_heads : ℕ
most_heads = 4

-- how many a drive has, and head k of it; what stands for a head that is not there
abbrev pub head_count : Device → ℕ
head_count d = length d.heads

abbrev pub absent : Head
absent = record { start = []; waiting = none; own = 0 }

abbrev pub head_at : Device → ℕ → Head
head_at d k = get_or d.heads k absent

-- whether an answer waits, and its bytes
abbrev pub waits : Option (List ℕ) → Bool
waits none = false
waits (some a) = true

abbrev pub answer_of : Option (List ℕ) → List ℕ
answer_of none = []
answer_of (some a) = a

-- not so while a head "has a waiting answer"
abbrev pub idle : List Head → Bool
idle [] = true
idle (h ∷ hs) = not (waits h.waiting) && idle hs
