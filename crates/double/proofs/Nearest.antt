-- The nearest integer to a fraction z / d: `round_nearest` is it (`nearest_is`), no other is (`nearest_only`), and it leans to neither side
-- (`nearest_negates`). Assumes nothing.
use Rattle.std.proofs.Common.{◌≡◌, ℕ, zero, suc, ◌+◌, ◌-◌, ◌*◌, ◌/◌, ◌%◌, ◌^◌, ◌<◌, ◌≤◌, Bool, true, false, not, T, eqb, ℤ, pos, negsuc, ◌-ℤ◌, ◌*ℤ◌, neg_ℤ, nat_abs, ◌≤ℤ◌, sym, refl, ap, ◌∙◌, subst, mul-le-mul_right, mod-lt, lt_of_mul-lt-mul_right, div-add-mod', le_of_mul-le-mul_right, arith, eqb→eq, leb→le}
use Prim.Native.Nat.{compare, Ordering}
use lib.Arith.{lt_of_le-ne}
use lib.Dec.{is_le, compare_is_eq, nleb→lt, eqb_refl}
use lib.Ieee.{Float, nan, inf, fin, nearest}
use lib.Ieee as binary
use lib.Ieee.Fits.{down_pos}
use lib.Ieee.Nearest.{closest, closest_same}
use lib.Signed.{lt_z, lt_z_yes, lt_z_no}
use Rattle.integer.specs.Parts.{Ex, up, dn, int, nat, val, plus, minus, ◌⊖◌, ◌⊡◌, neg}
use Rattle.integer.proofs.Parts.{eq!, eq?, le!, le?, lt?, abs!, abs_both, abs_parts}
use Rattle.integer.proofs.Laws.{≤ℤ-antisym, abs_neg}
use Rattle.double.specs.Double.{signed, round_nearest, rounded}
use Rattle.double.specs.Nearest.{distance, IsNearest}
use Rattle.double.proofs.Signs.{abs_signed, signed_not}

-- ---- of naturals: c × d is at most half of d away from a, and by less where c is odd
pub record Closest (a d c : ℕ) : Type 0 where
  pub lower : 2 * (c * d) ≤ 2 * a + d
  pub upper : 2 * a ≤ 2 * (c * d) + d
  pub odd_less : c % 2 ≡ 1 → (2 * (c * d) < 2 * a + d) × (2 * a < 2 * (c * d) + d)

-- at a tie the even one of q and q + 1
tied : (a q d : ℕ) → 2 * a ≡ 2 * (q * d) + d → (r : ℕ) → q % 2 ≡ r → Closest a d (q + r)
tied a q d h zero e = record { lower = omega arith; upper = omega arith; odd_less = λ o. absurd (omega arith) }
tied a q d h (suc zero) e = record { lower = omega arith; upper = omega arith; odd_less = λ o. absurd (omega arith) }
tied a q d h (suc (suc r)) e = absurd (omega arith)

pub closest_is : (a : ℕ) {d : ℕ} → 0 < d → Closest a d (closest a d)
closest_is a {d} D =
    let x = a % d * 2 in
    by (compare x d) (leb→le x d) (nleb→lt x d) (eqb→eq x d) (λ (e : x ≡ d). subst (λ (z : ℕ). T (eqb x z)) e (eqb_refl x))
  where
    by : (o : Ordering) → (T (is_le o) → a % d * 2 ≤ d) → (T (not (is_le o)) → d < a % d * 2) → (T (compare_is_eq o) → a % d * 2 ≡ d) → (a % d * 2 ≡ d → T (compare_is_eq o)) → Closest a d (nearest (a / d) o)
    by Ordering.lt h k e n =
        let g = div-add-mod' a d in
        let l = lt_of_le-ne (h tt) n in
        record { lower = omega arith; upper = omega arith; odd_less = λ o. (omega arith, omega arith) }
    by Ordering.eq h k e n = let g = div-add-mod' a d in let l = e tt in tied a (a / d) d (omega arith) (a / d % 2) refl
    by Ordering.gt h k e n =
        let g = div-add-mod' a d in
        let l = k tt in
        let m = mod-lt a D in
        record { lower = omega arith; upper = omega arith; odd_less = λ o. (omega arith, omega arith) }

-- ---- of integers
pub twice_abs : (v : Ex) {k : ℕ} → 2 * plus v ≤ 2 * minus v + k → 2 * minus v ≤ 2 * plus v + k → 2 * nat_abs (val v) ≤ k
twice_abs v {k} h i = let a = abs! v {n = k / 2} (omega arith) (omega arith) in omega arith

-- what is at most half away has none nearer
pub nearest_by : (z n : ℤ) {d : ℕ} → 2 * distance z d n ≤ d → (2 * distance z d n ≡ d → nat_abs n % 2 ≡ 0) → IsNearest z d n
nearest_by z n {d} h t = record { within_half = h; no_nearer = λ k. by k (lt_z k n) refl (lt_z n k) refl; tie_even = t }
  where
    by : (k : ℤ) (u : Bool) → lt_z k n ≡ u → (v : Bool) → lt_z n k ≡ v → distance z d n ≤ distance z d k
    by k true e v f =
        let i = mul-le-mul_right d (lt? (int k) (int n) (lt_z_yes (subst T (sym e) tt))) in
        let a = abs_both (int n ⊡ d ⊖ int z) in
        let b = abs_both (int k ⊡ d ⊖ int z) in
        omega arith
    by k false e true f =
        let i = mul-le-mul_right d (lt? (int n) (int k) (lt_z_yes (subst T (sym f) tt))) in
        let a = abs_both (int n ⊡ d ⊖ int z) in
        let b = abs_both (int k ⊡ d ⊖ int z) in
        omega arith
    by k false e false f = rw (≤ℤ-antisym {a = n} {b = k} (lt_z_no (rw e tt)) (lt_z_no (rw f tt))) (omega arith)

signed_nearest : (s : Bool) (a c : ℕ) {d : ℕ} → Closest a d c → 0 < d → IsNearest (signed s a) d (signed s c)
signed_nearest s a c {d} k D = nearest_by (signed s a) (signed s c) (half s d k.lower k.upper) (λ t. by (c % 2) refl t)
  where
    half : (s : Bool) (j : ℕ) → 2 * (c * d) ≤ 2 * a + j → 2 * a ≤ 2 * (c * d) + j → 2 * distance (signed s a) d (signed s c) ≤ j
    half false j h i = twice_abs (nat c ⊡ d ⊖ nat a) (omega arith) (omega arith)
    half true j h i = twice_abs (neg (nat c) ⊡ d ⊖ neg (nat a)) (omega arith) (omega arith)

    by : (r : ℕ) → c % 2 ≡ r → 2 * distance (signed s a) d (signed s c) ≡ d → nat_abs (signed s c) % 2 ≡ 0
    by zero e t = rw (abs_signed s c) e
    by (suc zero) e t = let l = k.odd_less e in let h = half s (d - 1) (omega arith) (omega arith) in absurd (omega arith)
    by (suc (suc r)) e t = absurd (omega arith)

pub nearest_is : (z : ℤ) {d : ℕ} → 0 < d → IsNearest z d (round_nearest z d)
nearest_is (pos a) D = signed_nearest false a _ (closest_is a D) D
nearest_is (negsuc a) D = signed_nearest true (suc a) _ (closest_is (suc a) D) D

-- of two, neither is above the other: they would be neighbours, and both even
no_more : (z n r : ℤ) {d : ℕ} → 0 < d → IsNearest z d n → IsNearest z d r → n ≤ℤ r
no_more z n r {d} D N R = by (lt_z r n) refl
  where
    by : (u : Bool) → lt_z r n ≡ u → n ≤ℤ r
    by false e = lt_z_no (rw e tt)
    by true e =
        let i = lt? (int r) (int n) (lt_z_yes (subst T (sym e) tt)) in
        let a = abs_both (int n ⊡ d ⊖ int z) in
        let b = abs_both (int r ⊡ d ⊖ int z) in
        let h = N.within_half in
        let g = R.within_half in
        let j : up n + dn r ≤ up r + dn n + 1 = le_of_mul-le-mul_right {k = d} (omega arith) D in
        let p : up n + dn r ≡ up r + dn n + 1 = omega arith in
        let q : (up n + dn r) * d ≡ (up r + dn n + 1) * d = ap (λ (x : ℕ). x * d) p in
        let s = N.tie_even (omega arith) in
        let t = R.tie_even (omega arith) in
        absurd (omega (arith, abs_parts n, abs_parts r))

pub nearest_only : (z n : ℤ) {d : ℕ} → 0 < d → IsNearest z d n → n ≡ round_nearest z d
nearest_only z n {d} D N = ≤ℤ-antisym (no_more z n (round_nearest z d) D N (nearest_is z D)) (no_more z (round_nearest z d) n D (nearest_is z D) N)

-- ---- no lean: the opposite is rounded to the opposite
pub nearest_negates : (z : ℤ) {d : ℕ} → 0 < d → round_nearest (neg_ℤ z) d ≡ neg_ℤ (round_nearest z d)
nearest_negates z {d} D = sym (nearest_only (neg_ℤ z) (neg_ℤ n) D (nearest_by (neg_ℤ z) (neg_ℤ n) (rw same N.within_half) (rw (same, abs_neg n) N.tie_even)))
  where
    n : ℤ
    n = round_nearest z d

    N : IsNearest z d n
    N = nearest_is z D

    same : distance (neg_ℤ z) d (neg_ℤ n) ≡ distance z d n
    same = ap nat_abs (eq! (neg (int n) ⊡ d ⊖ neg (int z)) (neg (int n ⊡ d ⊖ int z)) (omega arith)) ∙ abs_neg (n *ℤ pos d -ℤ z)

-- ---- what a rule has to be
pub nearest_same : (y z : ℤ) {c d : ℕ} → 0 < c → 0 < d → y *ℤ pos d ≡ z *ℤ pos c → round_nearest y c ≡ round_nearest z d
nearest_same (pos a) (pos b) {c} {d} C D e = ap pos (closest_same a c b d C D (omega (arith, eq? (nat a ⊡ d) (nat b ⊡ c) e)))
nearest_same (pos a) (negsuc b) {c} {d} C D e = absurd (omega (arith, eq? (nat a ⊡ d) (int (negsuc b) ⊡ c) e))
nearest_same (negsuc a) (pos b) {c} {d} C D e = absurd (omega (arith, eq? (int (negsuc a) ⊡ d) (nat b ⊡ c) e))
nearest_same (negsuc a) (negsuc b) {c} {d} C D e =
    ap (λ (n : ℕ). neg_ℤ (pos n)) (closest_same (suc a) c (suc b) d C D (omega (arith, eq? (int (negsuc a) ⊡ d) (int (negsuc b) ⊡ c) e)))

module _ (n z : ℤ) {d : ℕ} (D : 0 < d) where
  abbrev r : ℤ
  r = round_nearest z d

  pub nearest_not_below : (n *ℤ pos d) ≤ℤ z → n ≤ℤ r
  nearest_not_below h =
      let i = le? (int n ⊡ d) (int z) h in
      let a = abs_both (int r ⊡ d ⊖ int z) in
      let w = (nearest_is z D).within_half in
      let j : up n + dn r < up r + dn n + 1 = lt_of_mul-lt-mul_right d (omega arith) in
      le! (int n) (int r) (omega arith)

  pub nearest_not_above : z ≤ℤ (n *ℤ pos d) → r ≤ℤ n
  nearest_not_above h =
      let i = le? (int z) (int n ⊡ d) h in
      let a = abs_both (int r ⊡ d ⊖ int z) in
      let w = (nearest_is z D).within_half in
      let j : up r + dn n < up n + dn r + 1 = lt_of_mul-lt-mul_right d (omega arith) in
      le! (int r) (int n) (omega arith)

-- ---- of a double: the opposite number has the opposite count
pub count_negates : (b : ℕ) (x : Float) → rounded round_nearest b (binary.neg x) ≡ neg_ℤ (rounded round_nearest b x)
unfolding rounded binary.neg
count_negates b nan = refl
count_negates b (inf s) = refl
count_negates b (fin s m e) =
    let n = m * binary.up e * 2 ^ b in
    ap (λ (z : ℤ). round_nearest z (binary.down e)) (signed_not s n) ∙ nearest_negates (signed s n) (down_pos e)
