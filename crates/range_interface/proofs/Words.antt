-- Intervals as bytes: words of two parts, one behind the other. Assumes nothing.
use mathlib.Core.Path.{◌≡◌, refl, sym, ap, subst, ◌∙◌}
use mathlib.Core.List.{List, [], ◌∷◌, ◌++◌, map}
use Prim.Native.Nat.{ℕ, ◌+◌, ◌*◌, ◌<◌}
use native.Mathlib.Omega.{arith}
use lib.IntN.{ℤ, pos}
use lib.ListN.{length, get_or, length-map}
use lib.Seq.{take_at, drop_at, ext_get_or}
use Rattle.word.specs.Word.{word_at, words_at, words_out, Words}
use Rattle.word.proofs.Words.{word_drop, word_part, length_words, length_words_at, get_d_words_at, get_d_words_front, words_back}
use Rattle.gradient.specs.Vector.{zip_with}
use Rattle.gradient.proofs.Vector.{zip_at, zip_length}
use Rattle.ranges.specs.Interval.{Interval, interval, degenerate, End, low, high, end_of}
use Rattle.ranges.proofs.Interval.{degenerate_end}
use Rattle.range_interface.specs.Calls.{intervals_at, intervals_out}

-- ---- as many as are asked, and each by its index
module _ (n : ℕ) (bytes : List ℕ) where
  pub intervals_count : length (intervals_at n bytes) ≡ n
  unfolding intervals_at
  intervals_count =
      zip_length interval (words_at bytes 0 n) (words_at bytes (4 * n) n) (length_words_at bytes 0 n ∙ sym (length_words_at bytes (4 * n) n))
      ∙ length_words_at bytes 0 n

  pub interval_at : (d : Interval) (j : ℕ) → j < n → get_or (intervals_at n bytes) j d ≡ interval (word_at bytes (4 * j)) (word_at bytes (4 * n + 4 * j))
  unfolding intervals_at
  interval_at d j h =
      zip_at interval (words_at bytes 0 n) (words_at bytes (4 * n) n) j (pos 0) (pos 0) d (omega (arith, length_words_at bytes 0 n)) (omega (arith, length_words_at bytes (4 * n) n))
      ∙ rw (get_d_words_front bytes n j h, get_d_words_at bytes (4 * n) n j h)

-- ---- of two parts, the first of n words
module _ (s t : List ℕ) (n : ℕ) (e : length s ≡ 4 * n) where
  words_front : words_at (s ++ t) 0 n ≡ words_at s 0 n
  words_front =
      ext_get_or (pos 0) (words_at (s ++ t) 0 n) (words_at s 0 n) (length_words_at (s ++ t) 0 n ∙ sym (length_words_at s 0 n))
      (λ i h. let l : i < n = rw (length_words_at (s ++ t) 0 n) at h in
      get_d_words_at (s ++ t) 0 n i l
      ∙ sym (word_part (s ++ t) 0 (4 * n) (4 * i) (omega arith))
      ∙ ap (λ (r : List ℕ). word_at r (4 * i)) (take_at s t (4 * n) e)
      ∙ sym (get_d_words_front s n i l))

  words_behind : words_at (s ++ t) (4 * n) n ≡ words_at t 0 n
  words_behind =
      ext_get_or (pos 0) (words_at (s ++ t) (4 * n) n) (words_at t 0 n) (length_words_at (s ++ t) (4 * n) n ∙ sym (length_words_at t 0 n))
      (λ i h. let l : i < n = rw (length_words_at (s ++ t) (4 * n) n) at h in
      get_d_words_at (s ++ t) (4 * n) n i l
      ∙ sym (word_drop (s ++ t) (4 * n) (4 * i))
      ∙ ap (λ (r : List ℕ). word_at r (4 * i)) (drop_at s t (4 * n) e)
      ∙ sym (get_d_words_front t n i l))

  intervals_of_two : intervals_at n (s ++ t) ≡ zip_with interval (words_at s 0 n) (words_at t 0 n)
  unfolding intervals_at
  intervals_of_two = rw (words_front, words_behind) refl

-- one part twice: "ranges of one value"
pub intervals_twice : (s : List ℕ) (n : ℕ) → length s ≡ 4 * n → intervals_at n (s ++ s) ≡ map degenerate (words_at s 0 n)
intervals_twice s n e = intervals_of_two s s n e ∙ each (words_at s 0 n)
  where
    each : (xs : List ℤ) → zip_with interval xs xs ≡ map degenerate xs
    each [] = refl
    each (x ∷ xs) = ap (λ (l : List Interval). degenerate x ∷ l) (each xs)

-- ---- intervals written are read back
pub intervals_back : (xs : List Interval) → ((e : End) → Words (map (end_of e) xs)) → intervals_at (length xs) (intervals_out xs) ≡ xs
unfolding intervals_out
intervals_back xs f =
    intervals_of_two (words_out (map (end_of low) xs)) (words_out (map (end_of high) xs)) (length xs) (length_words (map (end_of low) xs) ∙ ap (λ (k : ℕ). 4 * k) (length-map xs (end_of low)))
    ∙ rw (back low, back high) (each xs)
  where
    back : (e : End) → words_at (words_out (map (end_of e) xs)) 0 (length xs) ≡ map (end_of e) xs
    back e = subst (λ (k : ℕ). words_at (words_out (map (end_of e) xs)) 0 k ≡ map (end_of e) xs) (length-map xs (end_of e)) (words_back (map (end_of e) xs) (f e))

    each : (ys : List Interval) → zip_with interval (map (end_of low) ys) (map (end_of high) ys) ≡ ys
    each [] = refl
    each (y ∷ ys) = ap (λ (l : List Interval). y ∷ l) (each ys)

-- those of one value are that value's bytes twice
pub out_twice : (zs : List ℤ) → intervals_out (map degenerate zs) ≡ words_out zs ++ words_out zs
unfolding intervals_out
out_twice zs = rw (each low zs, each high zs) refl
  where
    each : (e : End) (zs : List ℤ) → map (end_of e) (map degenerate zs) ≡ zs
    each e [] = refl
    each e (z ∷ zs) = rw (degenerate_end e z, each e zs) refl
