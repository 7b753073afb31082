-- A float times 2 ^ b loses nothing, subnormal numbers included: the product is the exact one (`scale_exact`), or an infinity where that is 2 ^ (emax + 1) or more (`scale_over`).
-- Assumes nothing.
use Rattle.std.proofs.Common.{◌≡◌, ℕ, zero, suc, ◌+◌, ◌-◌, ◌*◌, ◌%◌, ◌^◌, ◌<◌, ◌≤◌, Bool, true, false, cond, ◌&&◌, T, eqb, ltb, leb, ℤ, pos, negsuc, sym, refl, ap, ◌∙◌, subst, le_trans, le_of_eq, lt_of_lt_of_le, le_of_suc-le-suc, lt_of_le_of_lt, zero-lt-suc, mul_assoc, mul_comm, lt_of_mul-lt-mul_right, mul-lt-mul_of_pos_right, one-mul, lt_of_not-le, mul-one, not-le_of_lt, mul_left_comm, arith, lit<, lit≤, eqb→eq, ltb→lt, lt→ltb, leb→le, pow_pos, pow_mono, pow-add, shl_lt, shl_exact}
use lib.Pow.{pow-lt}
use lib.Ieee.{Float, nan, inf, fin, Format, binary64, prec, emax, low, up, down, odd, units, round, mul, le, fits, of_int}
use lib.Ieee.Digits.{back}
use lib.Ieee.Fits.{and_l, and_r, down_pos, round_is, of_int-fits, reach}
use lib.Ieee.Exact.{HasValue, odd_sign, round_exact}
use lib.Ieee.Back.{whole_unique}
use lib.Ieee.Order.{round_mono, kept, drop}
use Rattle.double.specs.Double.{power}
use Rattle.double.proofs.Value.{of_int_value}

-- ---- the product is one rounding of the exact product
mul_power : (f : Format) (s : Bool) (m : ℕ) (e : ℤ) (b : ℕ) → mul f (fin s m e) (power b) ≡ round f s (m * up e * 2 ^ b) (down e)
unfolding mul
mul_power f true m e b = simp (one-mul, mul-one)
mul_power f false m e b = simp (one-mul, mul-one)

-- ---- what a format asks of a value that it holds
fits_prec : (f : Format) (s : Bool) (m : ℕ) (e : ℤ) → T (fits f (fin s m e)) → m < 2 ^ prec f
unfolding fits
fits_prec f s zero e t = pow_pos (prec f)
fits_prec f s (suc m) e t =
    ltb→lt (suc m) (2 ^ prec f) (and_r (eqb (suc m % 2) 1) (ltb (suc m) (2 ^ prec f))
    (and_l (eqb (suc m % 2) 1 && ltb (suc m) (2 ^ prec f)) (leb (down e) (2 ^ low f))
    (and_l (eqb (suc m % 2) 1 && ltb (suc m) (2 ^ prec f) && leb (down e) (2 ^ low f)) (ltb (suc m * up e) (2 ^ suc (emax f) * down e)) t)))

fits_low : (f : Format) (s : Bool) (m : ℕ) (e : ℤ) → T (fits f (fin s m e)) → down e ≤ 2 ^ low f
unfolding fits
fits_low f s zero (pos k) t = pow_pos (low f)
fits_low f s zero (negsuc k) t = le_trans (le_of_eq (sym (one-mul (2 ^ suc k)) ∙ eqb→eq (1 * 2 ^ suc k) 1 t)) (pow_pos (low f))
fits_low f s (suc m) e t =
    leb→le (down e) (2 ^ low f) (and_r (eqb (suc m % 2) 1 && ltb (suc m) (2 ^ prec f)) (leb (down e) (2 ^ low f))
    (and_l (eqb (suc m % 2) 1 && ltb (suc m) (2 ^ prec f) && leb (down e) (2 ^ low f)) (ltb (suc m * up e) (2 ^ suc (emax f) * down e)) t))

-- 2 ^ e in units of 2 ^ -l is a power of two
units_of : (l : ℕ) (e : ℤ) → down e ≤ 2 ^ l → (j : ℕ) × (up e * 2 ^ l ≡ 2 ^ j * down e)
units_of l (pos k) h = (k + l, sym (pow-add 2 k l) ∙ sym (mul-one (2 ^ (k + l))))
units_of l (negsuc k) h =
    let g : suc k ≤ l = le_of_suc-le-suc (lt_of_not-le (λ (w : suc l ≤ suc k). not-le_of_lt (pow-lt w) h)) in
    (l - suc k, one-mul (2 ^ l) ∙ ap (λ (x : ℕ). 2 ^ x) (sym (back l (suc k) g)) ∙ pow-add 2 (l - suc k) (suc k))

pub scale_exact : (f : Format) (s : Bool) (m : ℕ) (e : ℤ) (b : ℕ) → T (fits f (fin s m e)) → m * up e * 2 ^ b < 2 ^ suc (emax f) * down e
    → HasValue (mul f (fin s m e) (power b)) s (m * up e * 2 ^ b) (down e)
scale_exact f s m e b t h =
    let l = low f in
    let u = units_of l e (fits_low f s m e t) in
    let j = u.0 in
    let v : m * up e * 2 ^ b * 2 ^ l ≡ m * 2 ^ (j + b) * down e = simp (mul_assoc, mul_comm, mul_left_comm, pow-add) (simp (mul_assoc, mul_comm, mul_left_comm) at (ap (λ (x : ℕ). m * 2 ^ b * x) u.1)) in
    let w : 2 ^ suc (emax f) * down e * 2 ^ l ≡ 2 ^ (l + suc (emax f)) * down e = simp (mul_assoc, mul_comm, mul_left_comm, pow-add) in
    subst (λ (x : Float). HasValue x s (m * up e * 2 ^ b) (down e)) (sym (mul_power f s m e b))
    (round_exact f s (m * up e * 2 ^ b) (down e) m (j + b) (down_pos e) (fits_prec f s m e t) (lt_of_mul-lt-mul_right (down e) (lt_of_le_of_lt (le_of_eq (sym v)) (lt_of_lt_of_le (mul-lt-mul_of_pos_right h (pow_pos l)) (le_of_eq w)))) v)

-- ---- n / 2 ^ b has a float, where n has no more digits than the format keeps
pub round_part : (f : Format) (s : Bool) (n b : ℕ) → n < 2 ^ prec f → b ≤ low f → HasValue (round f s n (2 ^ b)) s n (2 ^ b)
round_part f s n b h k =
    let l = low f in
    let r = reach f in
    let i : prec f + (l - b) ≤ l + suc (emax f) = omega arith in
    round_exact f s n (2 ^ b) n (l - b) (pow_pos b) h (lt_of_lt_of_le (shl_lt (prec f) (l - b) h) (pow_mono i))
    (ap (λ (x : ℕ). n * x) (ap (λ (x : ℕ). 2 ^ x) (sym (back l b k)) ∙ pow-add 2 (l - b) b) ∙ sym (mul_assoc n (2 ^ (l - b)) (2 ^ b)))

-- ---- overflow
inf_of_le : (y : Float) → T (le (inf false) y) → y ≡ inf false
unfolding le
inf_of_le nan t = absurd t
inf_of_le (inf true) t = absurd t
inf_of_le (inf false) t = refl
inf_of_le (fin s m e) t = absurd t

units_inf : (f : Format) (s : Bool) (q k : ℕ) → units f false q k ≡ inf false → units f s q k ≡ inf s
unfolding units
units_inf f s q k = go (ltb (q * 2 ^ k) (2 ^ (low f + suc (emax f))))
  where
    go : (b : Bool) → cond b (odd (suc (prec f)) false q k (low f)) (inf false) ≡ inf false → cond b (odd (suc (prec f)) s q k (low f)) (inf s) ≡ inf s
    go true e = absurd (subst (λ (z : Float). HasValue z false (q * 2 ^ k) (2 ^ low f)) e (odd_sign (suc (prec f)) false q k (low f)))
    go false e = refl

infinite : round binary64 false (2 ^ 1024) 1 ≡ inf false
unfolding round
infinite = refl

round_over : (s : Bool) (a c : ℕ) → 0 < c → 2 ^ 1024 * c ≤ a → round binary64 s a c ≡ inf s
round_over s a c C h =
    let e : round binary64 false a c ≡ inf false = inf_of_le (round binary64 false a c)
    (subst (λ (z : Float). T (le z (round binary64 false a c))) infinite (round_mono binary64 (2 ^ 1024) 1 a c (zero-lt-suc 0) C (le_trans h (le_of_eq (sym (mul-one a)))))) in
    let n = a * 2 ^ low binary64 in
    round_is binary64 s a c ∙ units_inf binary64 s (kept 53 n c) (drop 53 n c) (sym (round_is binary64 false a c) ∙ e)

pub scale_over : (s : Bool) (m : ℕ) (e : ℤ) (b : ℕ) → 2 ^ 1024 * down e ≤ m * up e * 2 ^ b → mul binary64 (fin s m e) (power b) ≡ inf s
scale_over s m e b h = mul_power binary64 s m e b ∙ round_over s (m * up e * 2 ^ b) (down e) (down_pos e) h

-- ---- 2 ^ b, as the machine makes it: one, shifted, as a double
power_fits : (b : ℕ) → b ≤ 31 → T (fits binary64 (power b))
unfolding fits
power_fits b h = lt→ltb (1 * 2 ^ b) (2 ^ 1024 * 1) (lt_of_le_of_lt (le_of_eq (one-mul (2 ^ b))) (pow-lt {j = 1024} (lt_of_le_of_lt h (lit< tt))))

pub power_is : (b : ℕ) → b ≤ 31 → of_int binary64 (pos (1 * 2 ^ b % 2 ^ 32)) ≡ power b
power_is b h =
    let e : 1 * 2 ^ b % 2 ^ 32 ≡ 2 ^ b = shl_exact 1 b 32 (lit< tt) (omega arith) ∙ one-mul (2 ^ b) in
    ap (λ (x : ℕ). of_int binary64 (pos x)) e
    ∙ whole_unique binary64 (of_int binary64 (pos (2 ^ b))) (power b) false (2 ^ b) (of_int-fits binary64 (pos (2 ^ b))) (power_fits b h)
    (of_int_value (pos (2 ^ b)) (pow_mono {j = 53} (le_trans h (lit≤ tt)))) (refl, ap (λ (x : ℕ). x * 1) (one-mul (2 ^ b)))
