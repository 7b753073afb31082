-- Parts of one length, one after the other. Assumes nothing.
use mathlib.Core.Path.{◌≡◌, refl, sym, ap, ◌∙◌, subst}
use mathlib.Core.List.{List, ◌++◌}
use mathlib.Core.Logic.{⊎_elim}
use Prim.Native.Nat.{ℕ, zero, suc, ◌+◌, ◌*◌, ◌≤◌, ◌<◌}
use native.Mathlib.Nat.{eq-or-lt_of_le, le_of_suc-le-suc, not-suc-le-zero, mul-le-mul_left}
use native.Mathlib.Omega.{arith}
use lib.ListN.{length, get_or, take, drop, length-append, length-drop, get_or-append}
use lib.Seq.{ext_get_or, length-take-le, get_or-append-add}
use Rattle.word.specs.Buffer.{joined}
use Rattle.word.proofs.Buffer.{get_d_part}

pub joined_cong : (f g : ℕ → List ℕ) (n : ℕ) → ((i : ℕ) → i < n → f i ≡ g i) → joined f n ≡ joined g n
unfolding joined
joined_cong f g zero h = refl
joined_cong f g (suc n) h = rw (joined_cong f g n (λ i l. h i (omega arith)), h n (omega arith))

module _ (f : ℕ → List ℕ) (m : ℕ) where
  pub length_joined : (n : ℕ) → ((i : ℕ) → i < n → length (f i) ≡ m) → length (joined f n) ≡ m * n
  unfolding joined
  length_joined zero h = omega arith
  length_joined (suc n) h = omega (arith, length-append (joined f n) (f n), length_joined n (λ i l. h i (omega arith)), h n (omega arith))

  byte_joined : (n : ℕ) → ((i : ℕ) → i < n → length (f i) ≡ m) → (i j : ℕ) → i < n → j < m → get_or (joined f n) (m * i + j) 0 ≡ get_or (f i) j 0
  unfolding joined
  byte_joined zero h i j l k = absurd (not-suc-le-zero l)
  byte_joined (suc n) h i j l k =
      let e = length_joined n (λ i l. h i (omega arith)) in
      ⊎_elim
      (λ (q : i ≡ n). subst (λ (p : ℕ). get_or (joined f n ++ f n) (p + j) 0 ≡ get_or (f i) j 0) (e ∙ ap (λ (p : ℕ). m * p) (sym q)) (get_or-append-add (joined f n) (f n) j 0 ∙ ap (λ (p : ℕ). get_or (f p) j 0) (sym q)))
      (λ (p : i < n). get_or-append (joined f n) (f n) 0 (m * i + j) (omega (arith, mul-le-mul_left m p)) ∙ byte_joined n (λ i l. h i (omega arith)) i j p k)
      (eq-or-lt_of_le (le_of_suc-le-suc l))

  -- part i, where it stands
  pub part_joined : (n : ℕ) → ((i : ℕ) → i < n → length (f i) ≡ m) → (i : ℕ) → i < n → take m (drop (m * i) (joined f n)) ≡ f i
  part_joined n h i l =
      let room : m * i + m ≤ length (joined f n) = omega (arith, length_joined n h, mul-le-mul_left m l) in
      let e : length (take m (drop (m * i) (joined f n))) ≡ m = length-take-le m (drop (m * i) (joined f n)) (omega (arith, length-drop (m * i) (joined f n))) in
      ext_get_or 0 (take m (drop (m * i) (joined f n))) (f i) (e ∙ sym (h i l))
      (λ j k. let b : j < m = omega arith in get_d_part (joined f n) (m * i) m j b ∙ byte_joined n h i j l b)
