-- Sums of magnitudes times error bounds: one term more, four more, and a part of the terms. Assumes nothing.
use mathlib.Core.Path.{◌≡◌, ap, ◌∙◌}
use mathlib.Core.List.{List}
use Prim.Native.Nat.{ℕ, ◌+◌, ◌≤◌}
use native.Mathlib.Omega.{arith}
use Rattle.gradient.proofs.Index.{sum_n_next, sum_n_mono}
use Rattle.weight.specs.Sums.{term_at, weight_to, Weighable}

pub next : (r q : List ℕ) (j : ℕ) → weight_to r q (j + 1) ≡ weight_to r q j + term_at r q j
unfolding weight_to
next r q j = sum_n_next (term_at r q) j

pub weight_mono : (r q : List ℕ) {i n : ℕ} → i ≤ n → weight_to r q i ≤ weight_to r q n
unfolding weight_to
weight_mono r q {i} {n} h = sum_n_mono (term_at r q) i n h

-- what a part of the terms asks
pub part : {r q : List ℕ} {n n' : ℕ} → Weighable r q n → n' ≤ n → Weighable r q n'
part {r} {q} d h = record {
  few = omega (arith, d.few);
  left = λ i l. d.left i (omega arith);
  right = λ i l. d.right i (omega arith);
  small = omega (arith, d.small, weight_mono r q h);
}

-- four terms more
pub four : (r q : List ℕ) (j : ℕ) → weight_to r q (j + 4) ≡ weight_to r q j + term_at r q j + term_at r q (j + 1) + term_at r q (j + 2) + term_at r q (j + 3)
four r q j =
    let two : j + 2 ≡ j + 1 + 1 = omega arith in
    let three : j + 3 ≡ j + 2 + 1 = omega arith in
    let all : j + 4 ≡ j + 3 + 1 = omega arith in
    let b : weight_to r q (j + 2) ≡ weight_to r q (j + 1) + term_at r q (j + 1) = ap (weight_to r q) two ∙ next r q (j + 1) in
    let c : weight_to r q (j + 3) ≡ weight_to r q (j + 2) + term_at r q (j + 2) = ap (weight_to r q) three ∙ next r q (j + 2) in
    let d : weight_to r q (j + 4) ≡ weight_to r q (j + 3) + term_at r q (j + 3) = ap (weight_to r q) all ∙ next r q (j + 3) in
    omega (arith, next r q j)
