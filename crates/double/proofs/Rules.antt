-- What a rounding rule of a fraction z / d has to be for the laws of a conversion (`IsRule`), that each rule is one, and what down and up mean;
-- `Nearest.antt` has what nearest means.
-- Another rule joins by a proof that it is one. Assumes nothing.
use Rattle.std.proofs.Common.{◌≡◌, ℕ, ◌+◌, ◌*◌, ◌^◌, ◌<◌, ◌≤◌, true, ℤ, pos, negsuc, ◌+ℤ◌, ◌-ℤ◌, ◌*ℤ◌, neg_ℤ, nat_abs, ◌≤ℤ◌, ◌<ℤ◌, sym, refl, ap, ◌∙◌, subst, mul-le-mul_right, lt_of_mul-lt-mul_right, mul-lt-mul_of_pos_right, le_of_mul-le-mul_right, arith}
use lib.IntN.{neg_ℤ-neg_ℤ}
use lib.Ieee.{Float, nan, inf, fin}
use lib.Ieee as binary
use lib.Ieee.Fits.{down_pos}
use Rattle.integer.specs.Parts.{up, dn, int, nat, ◌⊕◌, ◌⊖◌, ◌⊡◌, neg}
use Rattle.integer.specs.Round.{floor}
use Rattle.integer.proofs.Parts.{le!, lt!, eq?, le?, lt?, abs!, abs?, abs_parts}
use Rattle.integer.proofs.Laws.{neg_mul, ≤ℤ-antisym, ≤ℤ-of-≡}
use Rattle.integer.proofs.Floor.{floor_lower, floor_upper, floor_le, floor_gt, floor_unique, floor_mono, floor_exact}
use Rattle.integer.proofs.Tests.{of_true}
use Rattle.double.specs.Double.{round_down, round_up, round_nearest, rule_of, rounded, scalable, signed}
use Rattle.double.specs.Nearest.{IsRounded, IsRoundedCount}
use Rattle.double.specs.declared.Rounding.{Rounding}
use Rattle.double.specs.declared.Rounding.TheVariants.{Down, Up, Nearest}
use Rattle.double.proofs.Nearest.{nearest_is, nearest_same, nearest_not_below, nearest_not_above}

-- ---- what each rule means: z / d - 1 < down ≤ z / d ≤ up < z / d + 1
pub down_lower : (z : ℤ) {d : ℕ} → 0 < d → (round_down z d *ℤ pos d) ≤ℤ z
down_lower z D = floor_le z D

pub down_upper : (z : ℤ) {d : ℕ} → 0 < d → z <ℤ (round_down z d *ℤ pos d +ℤ pos d)
down_upper z D = floor_gt z D

pub up_lower : (z : ℤ) {d : ℕ} → 0 < d → z ≤ℤ (round_up z d *ℤ pos d)
up_lower z {d} D =
    let q = floor (neg_ℤ z) d in
    let h = le? (int q ⊡ d) (neg (int z)) (floor_le (neg_ℤ z) D) in
    le! (int z) (neg (int q) ⊡ d) (omega arith)

pub up_upper : (z : ℤ) {d : ℕ} → 0 < d → (round_up z d *ℤ pos d) <ℤ (z +ℤ pos d)
up_upper z {d} D =
    let q = floor (neg_ℤ z) d in
    let h = lt? (neg (int z)) (int q ⊡ d ⊕ nat d) (floor_gt (neg_ℤ z) D) in
    lt! (neg (int q) ⊡ d) (int z ⊕ nat d) (omega arith)

-- ---- so each rounding is what its name says, of a fraction and of a double
rounded_is : (how : Rounding) (z : ℤ) {d : ℕ} → 0 < d → IsRounded how z d (rule_of how z d)
rounded_is Down z D = (down_lower z D, down_upper z D)
rounded_is Up z D = (up_lower z D, up_upper z D)
rounded_is Nearest z D = nearest_is z D

pub rounded_count : (how : Rounding) (b : ℕ) (x : Float) → scalable b x ≡ true → IsRoundedCount how b x (rounded (rule_of how) b x)
unfolding scalable rounded
rounded_count how b nan h = absurd (of_true h)
rounded_count how b (inf s) h = absurd (of_true h)
rounded_count how b (fin s m e) h = rounded_is how (signed s (m * binary.up e * 2 ^ b)) (down_pos e)

-- ---- a rule

-- it depends on the value of the fraction alone, and no integer lies strictly between the value and its rounding
pub record IsRule (rule : ℤ → ℕ → ℤ) : Type 0 where
  pub same : (y z : ℤ) {c d : ℕ} → 0 < c → 0 < d → y *ℤ pos d ≡ z *ℤ pos c → rule y c ≡ rule z d
  pub not_below : (n z : ℤ) {d : ℕ} → 0 < d → (n *ℤ pos d) ≤ℤ z → n ≤ℤ rule z d
  pub not_above : (n z : ℤ) {d : ℕ} → 0 < d → z ≤ℤ (n *ℤ pos d) → rule z d ≤ℤ n

floor_same : (y z : ℤ) {c d : ℕ} → 0 < c → 0 < d → y *ℤ pos d ≡ z *ℤ pos c → floor y c ≡ floor z d
floor_same y z {c} {d} C D e =
    let q = floor z d in
    let h = eq? (int y ⊡ d) (int z ⊡ c) e in
    let l : c * up q + dn y ≤ up y + c * dn q = le_of_mul-le-mul_right {k = d} (omega (arith, mul-le-mul_right c (floor_lower z D))) D in
    let u : up y + c * dn q < c * up q + dn y + c = lt_of_mul-lt-mul_right d (omega (arith, mul-lt-mul_of_pos_right (floor_upper z D) C)) in
    floor_unique y q C (le! (int q ⊡ c) (int y) (omega arith)) (lt! (int y) (int q ⊡ c ⊕ nat c) (omega arith))

pub down_rule : IsRule round_down
down_rule = record {
  same = floor_same;
  not_below = λ n z {d} D h. subst (λ (k : ℤ). k ≤ℤ floor z d) (floor_exact n D) (floor_mono (n *ℤ pos d) z D h);
  not_above = λ n z {d} D h. subst (λ (k : ℤ). floor z d ≤ℤ k) (floor_exact n D) (floor_mono z (n *ℤ pos d) D h);
}

neg_le : {a b : ℤ} → a ≤ℤ b → neg_ℤ b ≤ℤ neg_ℤ a
neg_le {a} {b} h = let k = le? (int a) (int b) h in le! (neg (int b)) (neg (int a)) (omega arith)

pub up_rule : IsRule round_up
up_rule = record {
  same = λ y z C D e. ap neg_ℤ (floor_same (neg_ℤ y) (neg_ℤ z) C D (neg_mul y _ ∙ ap neg_ℤ e ∙ sym (neg_mul z _)));
  not_below = λ n z {d} D h.
      subst (λ (k : ℤ). k ≤ℤ round_up z d) (neg_ℤ-neg_ℤ n) (neg_le (down_rule.not_above (neg_ℤ n) (neg_ℤ z) D (subst (λ (k : ℤ). neg_ℤ z ≤ℤ k) (sym (neg_mul n (pos d))) (neg_le h))));
  not_above = λ n z {d} D h.
      subst (λ (k : ℤ). round_up z d ≤ℤ k) (neg_ℤ-neg_ℤ n) (neg_le (down_rule.not_below (neg_ℤ n) (neg_ℤ z) D (subst (λ (k : ℤ). k ≤ℤ neg_ℤ z) (sym (neg_mul n (pos d))) (neg_le h))));
}

pub nearest_rule : IsRule round_nearest
nearest_rule = record { same = nearest_same; not_below = nearest_not_below; not_above = nearest_not_above }

pub is_rule : (how : Rounding) → IsRule (rule_of how)
is_rule Down = down_rule
is_rule Up = up_rule
is_rule Nearest = nearest_rule

-- ---- every rule keeps an integer, takes no value that is k or more in magnitude to one that is less, and none that is k or less to one that is more
pub rule_integer : (rule : ℤ → ℕ → ℤ) → IsRule rule → (n : ℤ) {d : ℕ} → 0 < d → rule (n *ℤ pos d) d ≡ n
rule_integer rule R n D = ≤ℤ-antisym (R.not_above n _ D (≤ℤ-of-≡ refl)) (R.not_below n _ D (≤ℤ-of-≡ refl))

pub rule_large : (rule : ℤ → ℕ → ℤ) → IsRule rule → (k : ℕ) (z : ℤ) {d : ℕ} → 0 < d → k * d ≤ nat_abs z → k ≤ nat_abs (rule z d)
rule_large rule R k (pos a) {d} D h =
    let g = le? (nat k) (int (rule (pos a) d)) (R.not_below (pos k) (pos a) D (le! (nat k ⊡ d) (nat a) (omega arith))) in
    omega (arith, abs_parts (rule (pos a) d))
rule_large rule R k (negsuc a) {d} D h =
    let g = le? (int (rule (negsuc a) d)) (neg (nat k)) (R.not_above (neg_ℤ (pos k)) (negsuc a) D (le! (int (negsuc a)) (neg (nat k) ⊡ d) (omega arith))) in
    omega (arith, abs_parts (rule (negsuc a) d))

pub rule_small : (rule : ℤ → ℕ → ℤ) → IsRule rule → (k : ℕ) (z : ℤ) {d : ℕ} → 0 < d → nat_abs z ≤ k * d → nat_abs (rule z d) ≤ k
rule_small rule R k z {d} D h =
    let a = abs? (int z) h in
    let l = le? (neg (nat k)) (int (rule z d)) (R.not_below (neg_ℤ (pos k)) z D (le! (neg (nat k) ⊡ d) (int z) (omega arith))) in
    let u = le? (int (rule z d)) (nat k) (R.not_above (pos k) z D (le! (int z) (nat k ⊡ d) (omega arith))) in
    abs! (int (rule z d)) (omega arith) (omega arith)

-- ---- down by an integer n that is less than 1 away from z / d
pub record Within1 (z n : ℤ) (d : ℕ) : Type 0 where
  pub lower : (n *ℤ pos d) <ℤ (z +ℤ pos d)
  pub upper : z <ℤ (n *ℤ pos d +ℤ pos d)

module _ (z n : ℤ) {d : ℕ} (D : 0 < d) (k : Within1 z n d) where
  pub down_less : z <ℤ (n *ℤ pos d) → n -ℤ pos 1 ≡ round_down z d
  down_less h =
      let a = lt? (int z) (int n ⊡ d) h in
      let b = lt? (int n ⊡ d) (int z ⊕ nat d) k.lower in
      sym (floor_unique z (n -ℤ pos 1) D (le! ((int n ⊖ nat 1) ⊡ d) (int z) (omega arith)) (lt! (int z) ((int n ⊖ nat 1) ⊡ d ⊕ nat d) (omega arith)))

  pub down_same : (n *ℤ pos d) ≤ℤ z → n ≡ round_down z d
  down_same h = sym (floor_unique z n D h k.upper)
