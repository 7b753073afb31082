-- Line 01, and the lines due. Assumes nothing.
use mathlib.Core.Path.{◌≡◌, sym, ap, ◌∙◌}
use mathlib.Core.Bool.{Bool, true, false, cond}
use Prim.Native.Nat.{ℕ, ◌+◌, ◌-◌, ◌*◌, ◌/◌, ◌%◌, ◌≤◌, ◌<◌}
use native.Mathlib.Nat.{mul-one, div-one, mod-one}
use native.Mathlib.Omega.{arith}
use lib.Dec.{ltb}
use borrow.Author.Tests.{eq-eqb, ne_eqb, lt-ltb, le-ltb}
use Rattle.image.specs.declared.Sizes.{Sizes}
use Rattle.image.specs.Sizes.{command_count, body_count, sound, Sound}
use Rattle.std.specs.Prelude.{Result, Ok, Err}
use Rattle.refusal.specs.declared.Refusal.{Refusal}
use Rattle.refusal.specs.declared.Refusal.TheVariants.{Misplaced, Size}
use Rattle.line.specs.declared.Frame.{Frame}
use Rattle.frame.specs.Frame.{due, due_at, frame_sizes, head_of, total}

-- ---- line 01: what each of its tests gives
pub head_kind : (l : Result Frame Refusal) (k r c n : ℕ) → l ≡ Ok (record { kind = k; row = r; column = c; bits = n }) → (k ≡ 1 → ⊥) → Err Misplaced ≡ head_of l
unfolding head_of
head_kind l k r c n e h = rw (e, ne_eqb k 1 h)

pub head_tail : (l : Result Frame Refusal) (k r c n : ℕ) → l ≡ Ok (record { kind = k; row = r; column = c; bits = n }) → k ≡ 1 → (n % 65536 ≡ 0 → ⊥) → Err Misplaced ≡ head_of l
unfolding head_of
head_tail l k r c n e h t = rw (e, eq-eqb k 1 h, ne_eqb (n % 65536) 0 t)

module _ (l : Result Frame Refusal) (k r c n : ℕ) (z : Sizes) (b : Bool) (e : l ≡ Ok (record { kind = k; row = r; column = c; bits = n })) (h : k ≡ 1) (t : n % 65536 ≡ 0) (is : z ≡ frame_sizes r c n) (q : b ≡ sound z) where
  pub head_sized : b ≡ true → Ok z ≡ head_of l
  unfolding head_of
  head_sized y = rw (e, eq-eqb k 1 h, eq-eqb (n % 65536) 0 t, ap sound (sym is) ∙ sym q ∙ y) (ap Ok is)

  pub head_unsound : b ≡ false → Err Size ≡ head_of l
  unfolding head_of
  head_unsound y = rw (e, eq-eqb k 1 h, eq-eqb (n % 65536) 0 t, ap sound (sym is) ∙ sym q ∙ y)

-- ---- the lines due

-- as many as the image has words after the first eight
pub total_is : (z : Sizes) → total z ≡ body_count z
unfolding total
total_is z = omega arith

pub total_high : (z : Sizes) → Sound z → total z ≤ 561
total_high z o = omega (arith, total_is z)

-- a place behind the last table but one is in the last
last_part : (p a b t i : ℕ) → a ≤ p → t + p ≡ i → i < t + a + b → p - a < b
last_part p a b t i l e h = omega arith

module _ (z : Sizes) (i : ℕ) where
  abbrev n : ℕ
  n = command_count z

  -- what is left of a line's place behind the table of kind 2, behind that of kind 3, ..
  abbrev pub past2 : ℕ
  past2 = i - n * n

  abbrev pub past3 : ℕ
  past3 = past2 - n * z.nx

  abbrev pub past4 : ℕ
  past4 = past3 - n

  abbrev pub past5 : ℕ
  past5 = past4 - n

  abbrev pub past6 : ℕ
  past6 = past5 - 1

  abbrev pub past7 : ℕ
  past7 = past6 - z.nx

  abbrev pub past8 : ℕ
  past8 = past7 - n * z.nr

  pub flat : due_at z i ≡
      cond (ltb i (n * n)) (due 2 (i / n) (i % n))
      (cond (ltb past2 (n * z.nx)) (due 3 (past2 / z.nx) (past2 % z.nx))
      (cond (ltb past3 n) (due 4 (past3 % z.nu) (past3 / z.nu))
      (cond (ltb past4 n) (due 5 (past4 % z.nu) (past4 / z.nu))
      (cond (ltb past5 1) (due 6 past5 0)
      (cond (ltb past6 z.nx) (due 7 past6 0)
      (cond (ltb past7 (n * z.nr)) (due 8 (past7 / z.nr) (past7 % z.nr))
      (cond (ltb past8 z.nr) (due 9 past8 0) (due 0 0 0))))))))
  unfolding due_at
  flat = simp (mul-one, div-one, mod-one)

  -- the lines of some tables, by the tests that lead there
  module _ (a : n * n ≤ i) where
    module _ (b : n * z.nx ≤ past2) where
      pub due_4 : past3 < n → due 4 (past3 % z.nu) (past3 / z.nu) ≡ due_at z i
      due_4 c = rw (flat, le-ltb i (n * n) a, le-ltb past2 (n * z.nx) b, lt-ltb past3 n c)

      module _ (c : n ≤ past3) where
        pub due_5 : past4 < n → due 5 (past4 % z.nu) (past4 / z.nu) ≡ due_at z i
        due_5 d = rw (flat, le-ltb i (n * n) a, le-ltb past2 (n * z.nx) b, le-ltb past3 n c, lt-ltb past4 n d)

        module _ (d : n ≤ past4) where
          late : due_at z i ≡
              cond (ltb past5 1) (due 6 past5 0)
              (cond (ltb past6 z.nx) (due 7 past6 0)
              (cond (ltb past7 (n * z.nr)) (due 8 (past7 / z.nr) (past7 % z.nr))
              (cond (ltb past8 z.nr) (due 9 past8 0) (due 0 0 0))))
          late = rw (flat, le-ltb i (n * n) a, le-ltb past2 (n * z.nx) b, le-ltb past3 n c, le-ltb past4 n d)

          module _ (e : 1 ≤ past5) where
            pub due_7 : past6 < z.nx → due 7 past6 0 ≡ due_at z i
            due_7 f = rw (late, le-ltb past5 1 e, lt-ltb past6 z.nx f)

            module _ (f : z.nx ≤ past6) where
              pub due_9 : n * z.nr ≤ past7 → i < total z → due 9 past8 0 ≡ due_at z i
              due_9 g l =
                  let h : past8 < z.nr = last_part past7 (n * z.nr) z.nr (n * n + n * z.nx + 2 * n + 1 + z.nx) i g (omega arith) (omega (arith, total_is z)) in
                  rw (late, le-ltb past5 1 e, le-ltb past6 z.nx f, le-ltb past7 (n * z.nr) g, lt-ltb past8 z.nr h)
