-- A sweep that changes nothing ends the solve: what each sweep makes is a function of what the last one left, so from there on nothing
-- changes any more. One law, for the iterates and for their error bounds. Assumes nothing.
use mathlib.Core.Path.{◌≡◌, refl, sym, ap, ◌∙◌}
use mathlib.Core.List.{List}
use Prim.Native.Nat.{ℕ, zero, suc, ◌+◌, ◌-◌, ◌≤◌}
use native.Mathlib.Nat.{add-zero, add-suc}
use native.Mathlib.Omega.{arith}
use lib.IntN.{ℤ}
use Rattle.gradient.specs.Problem.{Problem}
use Rattle.gradient.specs.Scheme.{Iterate, step, iterate}
use Rattle.gradient.specs.Bounds.{Error, error_step, error_after}

-- what a function is applied to again and again stays from where it stayed once
module _ {S : Type 0} (f : S → S) (s : ℕ → S) (made : (k : ℕ) → s (suc k) ≡ f (s k)) (k : ℕ) (h : s (suc k) ≡ s k) where
  later : (j : ℕ) → s (k + j) ≡ s k
  later zero = rw (add-zero k) refl
  later (suc j) = rw (add-suc k j) (made (k + j) ∙ ap f (later j) ∙ sym (made k) ∙ h)

  pub constant : (n : ℕ) → k ≤ n → s n ≡ s k
  constant n l = let e : k + (n - k) ≡ n = omega arith in ap s (sym e) ∙ later (n - k)

pub commands_settled : (p : Problem) (inputs start : List ℤ) (k : ℕ) → iterate p inputs start (suc k) ≡ iterate p inputs start k
    → (n : ℕ) → k ≤ n → iterate p inputs start n ≡ iterate p inputs start k
unfolding iterate
commands_settled p inputs start = constant (step p inputs) (iterate p inputs start) (λ k. refl)

pub bounds_settled : (p : Problem) (k : ℕ) → error_after p (suc k) ≡ error_after p k → (n : ℕ) → k ≤ n → error_after p n ≡ error_after p k
unfolding error_after
bounds_settled p = constant (error_step p) (error_after p) (λ k. refl)

-- the same iterates, and the same bounds, from their lists
pub same_iterate : {a b : Iterate} → a.z ≡ b.z → a.y ≡ b.y → a ≡ b
same_iterate p q = λ i. record { z = p i; y = q i }

pub same_error : {a b : Error} → a.e ≡ b.e → a.q ≡ b.q → a ≡ b
same_error p q = λ i. record { e = p i; q = q i }
