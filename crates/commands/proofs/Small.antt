-- What an iteration of the commands makes is small. Assumes nothing.
use mathlib.Core.Path.{◌≡◌, ap, ◌∙◌}
use mathlib.Core.Bool.{Bool, true, ◌&&◌}
use mathlib.Core.List.{List}
use mir.Syntax.{w64}
use mir.Val.{SFits, to_z, of_z}
use mir.Facts.{to_z-of_z}
use Rattle.std.proofs.lemmas.Bool.{and_parts, eqb-true}
use Rattle.array.proofs.Filling.{stored_same}
use Prim.Native.Nat.{ℕ, ◌^◌, ◌≤◌, ◌<◌}
use native.Mathlib.Nat.{mul-le-mul, mul-le-mul_right}
use native.Mathlib.Omega.{arith}
use lib.Dec.{eqb}
use lib.ListN.{get_or, set}
use lib.IntN.{ℤ, pos, nat_abs, ◌*ℤ◌}
use lib.Pow.{pow_pos, pow_mono}
use Rattle.integer.specs.Round.{floor, ceil}
use Rattle.integer.proofs.Laws.{abs_mul}
use Rattle.integer.proofs.Floor.{floor_abs, ceil_least, ceil_most}
use Rattle.integer.proofs.Clamping.{clamp_most}
use Rattle.array.specs.Arrays.{Filled, WordsTo}
use Rattle.commands.specs.declared.CommandTerms.{CommandTerms}
use Rattle.commands.specs.Steps.{unclamped_of, command_of, z_at, Fitting}

-- a sum in 64 bits, divided
pub divided_size : (s : ℤ) (b : ℕ) → nat_abs s < 2 ^ 63 → 4 ≤ b → nat_abs (floor s (2 ^ b)) ≤ 2 ^ 59
divided_size s b h k =
    let c : ceil (2 ^ 63) (2 ^ b) ≤ 2 ^ 59 = ceil_least (pow_pos b) (mul-le-mul_right {m = 2 ^ 4} (2 ^ 59) (pow_mono k)) in
    let l : nat_abs s ≤ 2 ^ 63 = omega arith in
    omega (arith, floor_abs s (pow_pos b) l)

-- a new z is a word
pub z_words : (m : List (List ℤ)) {t : CommandTerms} (y : List ℤ) {r : List ℤ} → Fitting t → Filled (pos 0) t.n (z_at m t y) r → WordsTo t.n r
unfolding command_of
z_words m {t} y f r i h =
    rw (r.each i h) (clamp_most (get_or t.limits.lower i (pos 0)) (get_or t.limits.upper i (pos 0)) (unclamped_of t i _) (f.lowers i h) (f.uppers i h))

-- a product of a new y, of a factor of at most 21 bits and a word, and what is left of it
pub factor_size : (k : ℕ) (z : ℤ) → k ≤ 2 ^ 21 → nat_abs z ≤ 2 ^ 31 → nat_abs (pos k *ℤ z) ≤ 2 ^ 52
factor_size k z h l = rw (abs_mul (pos k) z) (mul-le-mul h l)

pub kept_size : (p : ℤ) (b : ℕ) → nat_abs p ≤ 2 ^ 52 → nat_abs (floor p (2 ^ b)) ≤ 2 ^ 52
kept_size p b h = omega (arith, floor_abs p (pow_pos b) h, ceil_most (2 ^ 52) (pow_pos b))

-- a flag that a loop keeps where what it stores is what stood there
pub kept_more : {old l : List ℤ} (i : ℕ) (v : ℤ) {before same : Bool} → SFits w64 (get_or l i (pos 0)) → (same ≡ true → (before ≡ true) × (l ≡ old))
    → (same && eqb (of_z w64 v) (of_z w64 (get_or l i (pos 0)))) ≡ true → (before ≡ true) × (set l i (to_z w64 (of_z w64 v)) ≡ old)
kept_more i v fits kept both =
    let p = and_parts _ _ both in
    let q = kept p.0 in
    (q.0, stored_same (pos 0) i q.1 (ap (to_z w64) (eqb-true _ _ p.1) ∙ to_z-of_z fits))
