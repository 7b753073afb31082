-- Which doubles the nearest count takes into the word: those below top + 1/2 in magnitude. Assumes nothing.
use Rattle.std.proofs.Common.{◌≡◌, ℕ, ◌+◌, ◌*◌, ◌%◌, ◌^◌, ◌<◌, ◌≤◌, Bool, true, false, ◌&&◌, ltb, leb, nat_abs, refl, ap, ◌∙◌, subst, le_trans, lt_of_lt_of_le, mul-le-mul_right, lt_of_mul-lt-mul_right, arith, lit≤, ltb-false, ltb-true, lt-ltb, le-leb}
use mathlib.Core.Bool.{and-false}
use lib.Ieee.{Float, nan, inf, fin, up, down}
use lib.Ieee.Fits.{down_pos}
use lib.Ieee.Nearest.{closest}
use borrow.Author.Tests.{lt-leb}
use Rattle.word.specs.Format.{is_format, in_word, top}
use Rattle.word.proofs.Format.{format, top_high, top_odd}
use Rattle.double.specs.Double.{accepted, is_negative, rounded, round_nearest, scalable, signed}
use Rattle.double.specs.Nearest.{AcceptedBelow, below_edge, twice_edge}
use Rattle.double.proofs.Nearest.{Closest, closest_is}
use Rattle.double.proofs.Signs.{abs_signed}

-- ---- of naturals: an odd t is not below the nearest c exactly where a / d is below t + 1/2
below : (a t c : ℕ) {d : ℕ} → Closest a d c → 2 * a < (2 * t + 1) * d → c ≤ t
below a t c {d} k h = let l = k.lower in let m : c < t + 1 = lt_of_mul-lt-mul_right d (omega arith) in omega arith

beyond : (a t c : ℕ) {d : ℕ} → 0 < d → t % 2 ≡ 1 → Closest a d c → (2 * t + 1) * d ≤ 2 * a → t < c
beyond a t c {d} D o k h = by (ltb t c) refl (ltb c t) refl
  where
    by : (r : Bool) → ltb t c ≡ r → (s : Bool) → ltb c t ≡ s → t < c
    by true e s f = ltb-true t c e
    by false e true f = let l = mul-le-mul_right d (ltb-true c t f) in let u = k.upper in absurd (omega arith)
    by false e false f =
        let q : c ≡ t = let l = ltb-false t c e in let m = ltb-false c t f in omega arith in
        let p : c * d ≡ t * d = ap (λ (n : ℕ). n * d) q in
        let u = (k.odd_less (ap (λ (n : ℕ). n % 2) q ∙ o)).1 in
        absurd (omega arith)

-- ---- of a double
pub accepted_below : (b w : ℕ) (x : Float) → AcceptedBelow b w x
unfolding accepted scalable rounded
accepted_below b w nan = rw (and-false (is_format b w))
accepted_below b w (inf s) = rw (and-false (is_format b w))
accepted_below b w (fin s m e) = by (is_format b w) refl (below_edge b w (fin s m e)) refl
  where
    n : ℕ
    n = m * up e * 2 ^ b

    c : ℕ
    c = closest (nat_abs (signed s n)) (down e)

    near : Closest n (down e) c
    near = subst (λ (a : ℕ). Closest a (down e) c) (abs_signed s n) (closest_is (nat_abs (signed s n)) (down_pos e))

    in_word_lem : in_word w (round_nearest (signed s n) (down e)) ≡ leb c (top w)
    in_word_lem = ap (λ (a : ℕ). leb a (top w)) (abs_signed (is_negative (signed s n)) c)

    scales : is_format b w ≡ true → 2 * n < (2 * top w + 1) * down e → ltb n (2 ^ 1024 * down e) ≡ true
    scales u p =
        let t = top_high w (format b w u).width_most in
        let q : (2 * top w + 1) * down e ≤ 2 ^ 32 * down e = mul-le-mul_right (down e) (omega arith) in
        let k : n < 2 ^ 32 * down e = omega arith in
        lt-ltb n (2 ^ 1024 * down e) (lt_of_lt_of_le k (mul-le-mul_right (down e) (lit≤ tt)))

    by : (t : Bool) → is_format b w ≡ t → (r : Bool) → below_edge b w (fin s m e) ≡ r → t && ltb n (2 ^ 1024 * down e) && in_word w (round_nearest (signed s n) (down e)) ≡ t && r
    by true u true h =
        let l = ltb-true (2 * n) (twice_edge w (down e)) h in
        let p : 2 * n < (2 * top w + 1) * down e = omega arith in
        rw (scales u p, in_word_lem) (le-leb c (top w) (below n (top w) c near p))
    by true u false h =
        let l = ltb-false (2 * n) (twice_edge w (down e)) h in
        let p : (2 * top w + 1) * down e ≤ 2 * n = omega arith in
        rw (in_word_lem, lt-leb c (top w) (beyond n (top w) c (down_pos e) (top_odd w (le_trans (lit≤ tt) (format b w u).width_least)) near p)) (and-false (ltb n (2 ^ 1024 * down e)))
    by false u r h = refl
