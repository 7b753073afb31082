-- Sums of naturals, capped, so that code in 64 bits tests "A + B at most top" exactly: the sum of |Φ| × limit itself may pass 64 bits. With the
-- cap f × t + 1 nothing is lost: a sum above f × t has a quotient above t when rounded up, whatever follows. Assumes nothing.
use mathlib.Core.Path.{◌≡◌, sym, ◌∙◌}
use Prim.Native.Nat.{ℕ, zero, ◌+◌, ◌*◌, ◌≤◌, ◌<◌, min}
use native.Mathlib.Nat.{lt_of_mul-lt-mul_left}
use native.Mathlib.Decide.{dec_le}
use native.Mathlib.Numerals.{add-one}
use native.Mathlib.Omega.{arith}
use lib.Dec.{leb}
use borrow.Author.Tests.{le-leb, lt-leb}
use Rattle.integer.specs.Round.{ceil}
use Rattle.integer.proofs.Floor.{ceil_above, ceil_least}
use Rattle.gradient.specs.Index.{sum_n}

-- the step of a loop, and two parts
pub capped_next : (g : ℕ → ℕ) (c n : ℕ) → min (min (sum_n g n) c + g n) c ≡ min (sum_n g (n + 1)) c
capped_next g c n = rw (add-one n) (once (sum_n g n) (g n))
  where
    once : (s t : ℕ) → min (min s c + t) c ≡ min (s + t) c
    once s t = omega arith

pub capped_add : (s t c : ℕ) → min (min s c + min t c) c ≡ min (s + t) c
capped_add s t c = omega arith

-- the quotient of the capped sum, rounded up, is the quotient of the sum, capped
capped_ceil : (f t s : ℕ) → zero < f → ceil (min s (f * t + 1)) f ≡ min (ceil s f) (t + 1)
capped_ceil f t s pos-f = pick (dec_le s (f * t))
  where
    pick : Dec (s ≤ f * t) → ceil (min s (f * t + 1)) f ≡ min (ceil s f) (t + 1)
    pick (yes h) =
        let m : min s (f * t + 1) ≡ s = omega arith in
        let c : ceil s f ≤ t = ceil_least pos-f h in
        rw m (omega arith)
    pick (no h) =
        let m : min s (f * t + 1) ≡ f * t + 1 = omega arith in
        let a : t < ceil s f = lt_of_mul-lt-mul_left f (omega (arith, ceil_above s pos-f)) in
        let b : t < ceil (f * t + 1) f = lt_of_mul-lt-mul_left f (omega (arith, ceil_above (f * t + 1) pos-f)) in
        let c : ceil (f * t + 1) f ≤ t + 1 = ceil_least pos-f (omega arith) in
        rw m (omega arith)

capped_test : (a b t : ℕ) → leb (min a (t + 1) + min b (t + 1)) t ≡ leb (a + b) t
capped_test a b t = pick (dec_le (a + b) t)
  where
    pick : Dec (a + b ≤ t) → leb (min a (t + 1) + min b (t + 1)) t ≡ leb (a + b) t
    pick (yes h) = le-leb (min a (t + 1) + min b (t + 1)) t (omega arith) ∙ sym (le-leb (a + b) t h)
    pick (no h) = lt-leb (min a (t + 1) + min b (t + 1)) t (omega arith) ∙ sym (lt-leb (a + b) t (omega arith))

-- "A + B at most top", of the capped sums and of the true ones
pub capped_row : (f t a b : ℕ) → zero < f → leb (ceil (min a (f * t + 1)) f + ceil (min b (f * t + 1)) f) t ≡ leb (ceil a f + ceil b f) t
capped_row f t a b pos-f = rw (capped_ceil f t a pos-f, capped_ceil f t b pos-f) (capped_test (ceil a f) (ceil b f) t)
