-- Products and row sums of intervals: where the values lie, how large the ends are, and intervals of one value. Assumes nothing.
use mathlib.Core.Path.{◌≡◌, refl}
use mathlib.Core.Bool.{Bool, true, false, not, cond}
use mathlib.Core.List.{List, [], ◌∷◌, map, ◌++◌}
use Prim.Native.Nat.{ℕ, zero, ◌*◌, ◌≤◌, ◌<◌}
use native.Mathlib.Omega.{arith}
use lib.Dec.{T}
use lib.IntN.{ℤ, pos, nat_abs, ◌-ℤ◌, ◌*ℤ◌}
use lib.Signed.{◌≤ℤ◌, ◌<ℤ◌, lt_z, lt_z_yes, lt_z_no}
use Rattle.integer.proofs.Parts.{whole}
use Rattle.integer.proofs.Laws.{add_mono, sub_mono, factor_mono, factor_anti}
use Rattle.integer.proofs.Floor.{floor_mono}
use Rattle.gradient.specs.Vector.{total, All2, nil2, cons2}
use Rattle.gradient.specs.Scheme.{products, row_sum}
use Rattle.gradient.specs.Bounds.{weight}
use Rattle.gradient.proofs.Vector.{abs_sum}
use Rattle.gradient.proofs.Terms.{product_most}
use Rattle.ranges.specs.Interval.{Interval, interval, degenerate, End, low, high, opposite, end_of, input_intervals, Encloses, taken_end, taken_ends, interval_difference}
use Rattle.ranges.specs.Sweeps.{row_interval}
use Rattle.ranges.specs.Claim.{Ends}

-- ---- ends
pub degenerate_end : (e : End) (a : ℤ) → end_of e (degenerate a) ≡ a
degenerate_end low a = refl
degenerate_end high a = refl

-- what holds by the sign of the factor: of both ends that it takes, and of one
pub by_signs : (P : ℤ → ℤ → Type 0) (c : ℤ) (x : Interval) → (c <ℤ pos zero → P x.highest x.lowest) → (pos zero ≤ℤ c → P x.lowest x.highest)
    → P (taken_end low c x) (taken_end high c x)
unfolding taken_end
by_signs P c x f g = pick (lt_z c (pos zero)) (λ t. f (lt_z_yes t)) (λ t. g (lt_z_no t))
  where
    pick : (t : Bool) → (T t → P x.highest x.lowest) → (T (not t) → P x.lowest x.highest) → P (cond t x.highest x.lowest) (cond t x.lowest x.highest)
    pick true f g = f tt
    pick false f g = g tt

by_sign : (P : ℤ → Type 0) (e : End) (c : ℤ) (x : Interval) → (c <ℤ pos zero → P (end_of (opposite e) x)) → (pos zero ≤ℤ c → P (end_of e x)) → P (taken_end e c x)
by_sign P low c x f g = by_signs (λ (a b : ℤ). P a) c x f g
by_sign P high c x f g = by_signs (λ (a b : ℤ). P b) c x f g

product_encloses : (c : ℤ) (x : Interval) (a : ℤ) → Encloses x a → Encloses (interval (c *ℤ taken_end low c x) (c *ℤ taken_end high c x)) (c *ℤ a)
product_encloses c x a h = record {
  above = by_sign (λ (m : ℤ). (c *ℤ m) ≤ℤ (c *ℤ a)) low c x (λ n. factor_anti n h.below) (λ n. factor_mono n h.above);
  below = by_sign (λ (m : ℤ). (c *ℤ a) ≤ℤ (c *ℤ m)) high c x (λ n. factor_anti n h.above) (λ n. factor_mono n h.below);
}

taken_most : (e : End) (c : ℤ) (x : Interval) (b : ℕ) → Ends (λ (a : ℤ). nat_abs a ≤ b) x → nat_abs (c *ℤ taken_end e c x) ≤ nat_abs c * b
taken_most e c x b h =
    by_sign (λ (m : ℤ). nat_abs (c *ℤ m) ≤ nat_abs c * b) e c x (λ n. product_most c _ b (h (opposite e))) (λ n. product_most c _ b (h e))

-- ---- a row
total_encloses : (cs : List ℤ) {xs : List Interval} {vs : List ℤ} → All2 Encloses xs vs
    → Encloses (interval (total (products cs (taken_ends low cs xs))) (total (products cs (taken_ends high cs xs)))) (total (products cs vs))
total_encloses [] h = record { above = omega (arith, whole); below = omega (arith, whole) }
total_encloses (c ∷ cs) nil2 = record { above = omega (arith, whole); below = omega (arith, whole) }
total_encloses (c ∷ cs) (cons2 {a = x} {b = a} h t) =
    let f = product_encloses c x a h in
    let g = total_encloses cs t in
    record { above = add_mono f.above g.above; below = add_mono f.below g.below }

pub row_encloses : (f : ℕ) → zero < f → (cs : List ℤ) {xs : List Interval} {vs : List ℤ} → All2 Encloses xs vs → Encloses (row_interval f cs xs) (row_sum f cs vs)
unfolding row_interval
row_encloses f pos-f cs {xs} {vs} h =
    let g = total_encloses cs h in
    record { above = floor_mono _ _ pos-f g.above; below = floor_mono _ _ pos-f g.below }

-- the magnitudes of the products, where both ends are at most b
pub taken_abs_sum : (e : End) (cs : List ℤ) {xs : List Interval} {bs : List ℕ} → All2 (λ (x : Interval) (b : ℕ). Ends (λ (a : ℤ). nat_abs a ≤ b) x) xs bs
    → abs_sum (products cs (taken_ends e cs xs)) ≤ weight cs bs
unfolding abs_sum weight
taken_abs_sum e [] h = omega arith
taken_abs_sum e (c ∷ cs) nil2 = omega arith
taken_abs_sum e (c ∷ cs) (cons2 {a = x} {b = b} h t) = omega (arith, taken_most e c x b h, taken_abs_sum e cs t)

-- ---- a difference
pub difference_encloses : (x y : Interval) (a b : ℤ) → Encloses x a → Encloses y b → Encloses (interval_difference x y) (a -ℤ b)
unfolding interval_difference
difference_encloses x y a b h k = record { above = sub_mono h.above k.below; below = sub_mono h.below k.above }

-- ---- intervals of one value
pub taken_degenerate : (e : End) (c a : ℤ) → taken_end e c (degenerate a) ≡ a
taken_degenerate e c a = by_sign (λ (m : ℤ). m ≡ a) e c (degenerate a) (λ n. degenerate_end (opposite e) a) (λ n. degenerate_end e a)

products_degenerate : (e : End) (cs vs : List ℤ) → products cs (taken_ends e cs (map degenerate vs)) ≡ products cs vs
products_degenerate e [] vs = refl
products_degenerate e (c ∷ cs) [] = refl
products_degenerate e (c ∷ cs) (a ∷ vs) = rw (taken_degenerate e c a, products_degenerate e cs vs) refl

pub row_degenerate : (f : ℕ) (cs vs : List ℤ) → row_interval f cs (map degenerate vs) ≡ degenerate (row_sum f cs vs)
unfolding row_interval
row_degenerate f cs vs = rw (products_degenerate low cs vs, products_degenerate high cs vs) refl

degenerate_encloses : (a : ℤ) → Encloses (degenerate a) a
degenerate_encloses a = record { above = omega (arith, whole); below = omega (arith, whole) }

pub degenerates_enclose : (vs : List ℤ) → All2 Encloses (map degenerate vs) vs
degenerates_enclose [] = nil2
degenerates_enclose (a ∷ vs) = cons2 (degenerate_encloses a) (degenerates_enclose vs)

-- a state inside its ranges, with the one target
pub inputs_enclose : (target : List ℤ) {ranges : List Interval} {state : List ℤ} → All2 Encloses ranges state → All2 Encloses (input_intervals ranges target) (state ++ target)
unfolding input_intervals
inputs_enclose target nil2 = degenerates_enclose target
inputs_enclose target (cons2 h t) = cons2 h (inputs_enclose target t)
