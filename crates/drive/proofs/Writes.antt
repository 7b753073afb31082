-- Several writes to a buffer, one after the other: what lies beside all of them is the same. Assumes nothing.
use mathlib.Core.Path.{◌≡◌, refl, sym, ap, subst, ◌∙◌}
use mathlib.Core.List.{List, [], ◌∷◌}
use mathlib.Core.Logic.{◌⊎◌}
use Prim.Native.Nat.{ℕ, ◌+◌, ◌^◌, ◌<◌, ◌≤◌}
use native.Mathlib.Omega.{arith}
use lib.ListN.{length, take, drop}
use Rattle.word.specs.Buffer.{put_at}
use Rattle.word.specs.Word.{nat_at, bytes_of}
use Rattle.word.proofs.Words.{length_bytes, nat_back}
use Rattle.word.proofs.Buffer.{length_put, part_put}
use Rattle.word.proofs.Beside.{part_beside}

pub record Write : Type 0 where
  pub at : ℕ
  pub bytes : List ℕ

abbrev pub write : ℕ → List ℕ → Write
write p bs = record { at = p; bytes = bs }

abbrev pub puts : List ℕ → List Write → List ℕ
puts d [] = d
puts d (w ∷ ws) = puts (put_at d w.at w.bytes) ws

-- each stands in a buffer of n bytes
pub data Fits (n : ℕ) : List Write → Type 0 where
  none : Fits n []
  more : (w : Write) {ws : List Write} → w.at + length w.bytes ≤ n → Fits n ws → Fits n (w ∷ ws)

-- the m bytes from p on lie before or behind each
pub data Beside (p m : ℕ) : List Write → Type 0 where
  clear : Beside p m []
  aside : (w : Write) {ws : List Write} → (p + m ≤ w.at) ⊎ (w.at + length w.bytes ≤ p) → Beside p m ws → Beside p m (w ∷ ws)

module _ (n : ℕ) where
  pub puts_length : (ws : List Write) (d : List ℕ) → length d ≡ n → Fits n ws → length (puts d ws) ≡ n
  puts_length [] d e none = e
  puts_length (w ∷ ws) d e (more _ h f) = puts_length ws (put_at d w.at w.bytes) (length_put d w.at w.bytes (omega arith) ∙ e) f

  pub puts_beside : (p m : ℕ) (ws : List Write) (d : List ℕ) → length d ≡ n → Fits n ws → Beside p m ws → take m (drop p (puts d ws)) ≡ take m (drop p d)
  puts_beside p m [] d e none clear = refl
  puts_beside p m (w ∷ ws) d e (more _ h f) (aside _ b bs) =
      let l = length_put d w.at w.bytes (omega arith) ∙ e in
      puts_beside p m ws (put_at d w.at w.bytes) l f bs ∙ part_beside d w.at w.bytes (omega arith) p m b

  -- what was written and not written over
  pub puts_there : (w : Write) (ws : List Write) (d : List ℕ) → length d ≡ n → Fits n (w ∷ ws) → Beside w.at (length w.bytes) ws → take (length w.bytes) (drop w.at (puts d (w ∷ ws))) ≡ w.bytes
  puts_there w ws d e (more _ h f) b =
      let l = length_put d w.at w.bytes (omega arith) ∙ e in
      puts_beside w.at (length w.bytes) ws (put_at d w.at w.bytes) l f b ∙ part_put d w.at w.bytes (omega arith)

  pub puts_nat : (at m : ℕ) (ws : List Write) (d : List ℕ) → length d ≡ n → Fits n (write at (bytes_of m) ∷ ws) → Beside at 4 ws → m < 256 ^ 4 → nat_at (puts d (write at (bytes_of m) ∷ ws)) at ≡ m
  puts_nat at m ws d e f b h =
      let l = length_bytes 4 m in
      let t = puts_there (write at (bytes_of m)) ws d e f (subst (λ (k : ℕ). Beside at k ws) (sym l) b) in
      nat_back 4 m h (puts d (write at (bytes_of m) ∷ ws)) at (ap (λ (k : ℕ). take k (drop at (puts d (write at (bytes_of m) ∷ ws)))) (sym l) ∙ t)
