-- Which lines due are limits. Assumes nothing.
use mathlib.Core.Path.{◌≡◌, refl, sym, ap, ◌∙◌}
use mathlib.Core.Bool.{Bool, true, false, cond}
use Prim.Native.Nat.{ℕ, ◌-◌, ◌*◌, ◌/◌, ◌%◌, ◌<◌}
use native.Mathlib.Omega.{arith}
use lib.Dec.{ltb}
use borrow.Author.Tests.{ltb-true, ltb-false}
use Rattle.image.specs.declared.Sizes.{Sizes}
use Rattle.image.specs.Sizes.{command_count}
use Rattle.frame.specs.declared.Due.{Due}
use Rattle.frame.specs.Frame.{due, due_at, is_high, is_low, low_base}
use Rattle.frame.proofs.Laws.{due_4, due_5, flat, past2, past3, past4, past5, past6, past7, past8}

-- no line behind the commands' limits is one of them
abbrev late : (e f g h : Bool) (r₆ r₇ r₈ c₈ r₉ : ℕ) → Due
late e f g h r₆ r₇ r₈ c₈ r₉ = cond e (due 6 r₆ 0) (cond f (due 7 r₇ 0) (cond g (due 8 r₈ c₈) (cond h (due 9 r₉ 0) (due 0 0 0))))

no_limit : (e f g h : Bool) (r₆ r₇ r₈ c₈ r₉ : ℕ) → ((late e f g h r₆ r₇ r₈ c₈ r₉).kind ≡ 4 → ⊥) × ((late e f g h r₆ r₇ r₈ c₈ r₉).kind ≡ 5 → ⊥)
no_limit true f g h r₆ r₇ r₈ c₈ r₉ = (λ q. omega arith, λ q. omega arith)
no_limit false true g h r₆ r₇ r₈ c₈ r₉ = (λ q. omega arith, λ q. omega arith)
no_limit false false true h r₆ r₇ r₈ c₈ r₉ = (λ q. omega arith, λ q. omega arith)
no_limit false false false true r₆ r₇ r₈ c₈ r₉ = (λ q. omega arith, λ q. omega arith)
no_limit false false false false r₆ r₇ r₈ c₈ r₉ = (λ q. omega arith, λ q. omega arith)

-- with those before them
abbrev pick : (a b c d : Bool) (r₂ c₂ r₃ c₃ r₄ c₄ r₅ c₅ : ℕ) → Due → Due
pick a b c d r₂ c₂ r₃ c₃ r₄ c₄ r₅ c₅ rest = cond a (due 2 r₂ c₂) (cond b (due 3 r₃ c₃) (cond c (due 4 r₄ c₄) (cond d (due 5 r₅ c₅) rest)))

four : (a b c d : Bool) (r₂ c₂ r₃ c₃ r₄ c₄ r₅ c₅ : ℕ) (rest : Due) → (rest.kind ≡ 4 → ⊥) → (pick a b c d r₂ c₂ r₃ c₃ r₄ c₄ r₅ c₅ rest).kind ≡ 4 → (a ≡ false) × (b ≡ false) × (c ≡ true)
four true b c d r₂ c₂ r₃ c₃ r₄ c₄ r₅ c₅ rest n h = let x : ⊥ = omega arith in absurd x
four false true c d r₂ c₂ r₃ c₃ r₄ c₄ r₅ c₅ rest n h = let x : ⊥ = omega arith in absurd x
four false false true d r₂ c₂ r₃ c₃ r₄ c₄ r₅ c₅ rest n h = (refl, refl, refl)
four false false false true r₂ c₂ r₃ c₃ r₄ c₄ r₅ c₅ rest n h = let x : ⊥ = omega arith in absurd x
four false false false false r₂ c₂ r₃ c₃ r₄ c₄ r₅ c₅ rest n h = absurd (n h)

five : (a b c d : Bool) (r₂ c₂ r₃ c₃ r₄ c₄ r₅ c₅ : ℕ) (rest : Due) → (rest.kind ≡ 5 → ⊥) → (pick a b c d r₂ c₂ r₃ c₃ r₄ c₄ r₅ c₅ rest).kind ≡ 5 → (a ≡ false) × (b ≡ false) × (c ≡ false) × (d ≡ true)
five true b c d r₂ c₂ r₃ c₃ r₄ c₄ r₅ c₅ rest n h = let x : ⊥ = omega arith in absurd x
five false true c d r₂ c₂ r₃ c₃ r₄ c₄ r₅ c₅ rest n h = let x : ⊥ = omega arith in absurd x
five false false true d r₂ c₂ r₃ c₃ r₄ c₄ r₅ c₅ rest n h = let x : ⊥ = omega arith in absurd x
five false false false true r₂ c₂ r₃ c₃ r₄ c₄ r₅ c₅ rest n h = (refl, refl, refl, refl)
five false false false false r₂ c₂ r₃ c₃ r₄ c₄ r₅ c₅ rest n h = absurd (n h)

pub low_due : (z : Sizes) (i : ℕ) → is_low z i → due_at z i ≡ due 4 ((i - low_base z) % z.nu) ((i - low_base z) / z.nu)
unfolding low_base
low_due z i l =
    sym (due_4 z i (omega arith) (omega arith) (omega arith)) ∙ ap (λ (k : ℕ). due 4 (k % z.nu) (k / z.nu)) (omega arith)

pub high_due : (z : Sizes) (i : ℕ) → is_high z i → due_at z i ≡ due 5 ((i - low_base z - command_count z) % z.nu) ((i - low_base z - command_count z) / z.nu)
unfolding low_base
high_due z i l =
    sym (due_5 z i (omega arith) (omega arith) (omega arith) (omega arith)) ∙ ap (λ (k : ℕ). due 5 (k % z.nu) (k / z.nu)) (omega arith)

module _ (z : Sizes) (i : ℕ) where
  abbrev n : ℕ
  n = command_count z

  pub low_of : (due_at z i).kind ≡ 4 → is_low z i
  unfolding low_base
  low_of h =
      let p = four (ltb i (n * n)) (ltb (past2 z i) (n * z.nx)) (ltb (past3 z i) n) (ltb (past4 z i) n) _ _ _ _ _ _ _ _ _
      (no_limit (ltb (past5 z i) 1) (ltb (past6 z i) z.nx) (ltb (past7 z i) (n * z.nr)) (ltb (past8 z i) z.nr) _ _ _ _ _).0 (rw flat at h) in
      omega (arith, ltb-false i (n * n) p.0, ltb-false (past2 z i) (n * z.nx) p.1, ltb-true (past3 z i) n p.2)

  pub high_of : (due_at z i).kind ≡ 5 → is_high z i
  unfolding low_base
  high_of h =
      let p = five (ltb i (n * n)) (ltb (past2 z i) (n * z.nx)) (ltb (past3 z i) n) (ltb (past4 z i) n) _ _ _ _ _ _ _ _ _
      (no_limit (ltb (past5 z i) 1) (ltb (past6 z i) z.nx) (ltb (past7 z i) (n * z.nr)) (ltb (past8 z i) z.nr) _ _ _ _ _).1 (rw flat at h) in
      omega (arith, ltb-false i (n * n) p.0, ltb-false (past2 z i) (n * z.nx) p.1, ltb-false (past3 z i) n p.2, ltb-true (past4 z i) n p.3)

-- "all 04 still come first"
pub lows_first : (z : Sizes) (i j : ℕ) → (due_at z i).kind ≡ 4 → (due_at z j).kind ≡ 5 → i < j
lows_first z i j a b = omega (arith, low_of z i a, high_of z j b)
