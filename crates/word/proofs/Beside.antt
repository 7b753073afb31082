-- A buffer that is written to in one place: what stands beside it, what was written, and zeros. Assumes nothing.
use mathlib.Core.Path.{◌≡◌, sym, ap, ap₂, ◌∙◌}
use mathlib.Core.List.{List, ◌++◌, append_assoc}
use mathlib.Core.Logic.{◌⊎◌, inl, inr}
use Prim.Native.Nat.{ℕ, ◌+◌, ◌-◌, ◌^◌, ◌<◌, ◌≤◌}
use native.Mathlib.Omega.{arith}
use lib.ListN.{length, get_or, take, drop, replicate, length-take, length-drop, length-append, length-replicate, get_or-replicate, get_or-append}
use lib.Seq.{length-take-le, get_or-take, get_or-drop, get_or-append-add, drop-drop, ext_get_or}
use Rattle.word.specs.Buffer.{put_at}
use Rattle.word.specs.Word.{nat_be, nat_at, bytes_of}
use Rattle.word.proofs.Buffer.{length_put, get_d_part, part_put}
use Rattle.word.proofs.Words.{nat_part, nat_back, length_bytes}

-- a number is read from its four bytes
pub nat_of : (s t : List ℕ) (p : ℕ) → take 4 (drop p s) ≡ take 4 (drop p t) → nat_at s p ≡ nat_at t p
nat_of s t p e = alone s ∙ ap (λ (l : List ℕ). nat_be 4 l 0) e ∙ sym (alone t)
  where
    alone : (l : List ℕ) → nat_at l p ≡ nat_be 4 (take 4 (drop p l)) 0
    alone l = let z : p + 0 ≡ p = omega arith in sym (nat_part 4 l p 4 0 (omega arith) ∙ ap (nat_be 4 l) z)

module _ (s : List ℕ) (at : ℕ) (bs : List ℕ) (h : at + length bs ≤ length s) where
  taken : length (take at s) ≡ at
  taken = length-take-le at s (omega arith)

  before : (i : ℕ) → i < at → get_or (put_at s at bs) i 0 ≡ get_or s i 0
  unfolding put_at
  before i b =
      ap (λ (x : List ℕ). get_or x i 0) (append_assoc (take at s) bs (drop (at + length bs) s))
      ∙ get_or-append (take at s) (bs ++ drop (at + length bs) s) 0 i (omega (arith, taken))
      ∙ get_or-take at s i 0 b

  behind : (i : ℕ) → at + length bs ≤ i → get_or (put_at s at bs) i 0 ≡ get_or s i 0
  unfolding put_at
  behind i b =
      let rest = drop (at + length bs) s in
      let j = i - (at + length bs) in
      let n : i ≡ length (take at s ++ bs) + j = omega (arith, length-append (take at s) bs, taken) in
      let m : at + length bs + j ≡ i = omega arith in
      ap (λ (k : ℕ). get_or (take at s ++ bs ++ rest) k 0) n ∙ get_or-append-add (take at s ++ bs) rest j 0 ∙ get_or-drop (at + length bs) s j 0 ∙ ap (λ (k : ℕ). get_or s k 0) m

  -- a part beside it is the same
  pub part_beside : (p m : ℕ) → (p + m ≤ at) ⊎ (at + length bs ≤ p) → take m (drop p (put_at s at bs)) ≡ take m (drop p s)
  part_beside p m side = ext_get_or 0 (take m (drop p (put_at s at bs))) (take m (drop p s)) lengths each
    where
      lengths : length (take m (drop p (put_at s at bs))) ≡ length (take m (drop p s))
      lengths = simp (length-take, length-drop) (omega (arith, length_put s at bs h))

      same : (i : ℕ) → i < m → (p + m ≤ at) ⊎ (at + length bs ≤ p) → get_or (put_at s at bs) (p + i) 0 ≡ get_or s (p + i) 0
      same i l (inl b) = before (p + i) (omega arith)
      same i l (inr b) = behind (p + i) (omega arith)

      each : (i : ℕ) → i < length (take m (drop p (put_at s at bs))) → get_or (take m (drop p (put_at s at bs))) i 0 ≡ get_or (take m (drop p s)) i 0
      each i l =
          let b : i < m = omega (arith, length-take m (drop p (put_at s at bs))) in
          get_d_part (put_at s at bs) p m i b ∙ same i b side ∙ sym (get_d_part s p m i b)

  pub nat_beside : (p : ℕ) → (p + 4 ≤ at) ⊎ (at + length bs ≤ p) → nat_at (put_at s at bs) p ≡ nat_at s p
  nat_beside p side = nat_of (put_at s at bs) s p (part_beside p 4 side)

-- a number that was written
pub nat_put : (s : List ℕ) (at n : ℕ) → at + 4 ≤ length s → n < 256 ^ 4 → nat_at (put_at s at (bytes_of n)) at ≡ n
nat_put s at n h f =
    nat_back 4 n f (put_at s at (bytes_of n)) at (ap (λ (k : ℕ). take k (drop at (put_at s at (bytes_of n)))) (sym (length_bytes 4 n)) ∙ part_put s at (bytes_of n) (omega (arith, length_bytes 4 n)))

-- a part that was lent and written whole, as the checker hands it back
pub put_lent : (s : List ℕ) (at k : ℕ) (x bs : List ℕ) → x ≡ bs → k ≡ length bs → take at s ++ (x ++ drop k (drop at s)) ≡ put_at s at bs
unfolding put_at
put_lent s at k x bs e n =
    ap₂ (λ (y : List ℕ) (j : ℕ). take at s ++ (y ++ drop j (drop at s))) e n
    ∙ ap (λ (r : List ℕ). take at s ++ (bs ++ r)) (drop-drop (length bs) at s)
    ∙ sym (append_assoc (take at s) bs (drop (at + length bs) s))

-- a part of zeros
abbrev zeros : ℕ → List ℕ
zeros n = replicate n 0

pub part_zeros : (n p m : ℕ) → p + m ≤ n → take m (drop p (zeros n)) ≡ zeros m
part_zeros n p m h = ext_get_or 0 (take m (drop p (zeros n))) (zeros m) (long ∙ sym (length-replicate {A = ℕ} m 0)) each
  where
    long : length (take m (drop p (zeros n))) ≡ m
    long = length-take-le m (drop p (zeros n)) (omega (arith, length-drop p (zeros n), length-replicate {A = ℕ} n 0))

    each : (i : ℕ) → i < length (take m (drop p (zeros n))) → get_or (take m (drop p (zeros n))) i 0 ≡ get_or (zeros m) i 0
    each i l =
        let b : i < m = omega (arith, long) in
        get_d_part (zeros n) p m i b ∙ get_or-replicate n (p + i) 0 0 (omega arith) ∙ sym (get_or-replicate m i 0 0 b)
