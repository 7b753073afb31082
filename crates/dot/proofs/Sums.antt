-- Sums of undivided products, as the code reads them back: each is a sum of neighbouring terms, so its size is given. Assumes nothing.
use mathlib.Core.Path.{◌≡◌, sym, ◌∙◌}
use mathlib.Core.List.{List}
use Prim.Native.Nat.{ℕ, ◌+◌, ◌≤◌}
use native.Mathlib.Omega.{arith}
use lib.IntN.{ℤ, ◌+ℤ◌}
use mir.Syntax.{w64}
use mir.Val.{to_z, of_z, SFits}
use mir.Facts.{to_z-of_z}
use Rattle.integer.proofs.Machine.{fit_abs}
use Rattle.gradient.specs.Index.{sum_z, product_at}
use Rattle.gradient.proofs.Index.{sum_z_split, sum_z_one}
use Rattle.dot.specs.Sums.{Summable}

-- an integer as it is read back from a local of 64 bits
abbrev pub stored : ℤ → ℤ
stored x = to_z w64 (of_z w64 x)

-- x is the sum of n terms from a on, and a local can hold it
pub record IsSum (r v : List ℤ) (a n : ℕ) (x : ℤ) : Type 0 where
  pub fits : SFits w64 x
  pub is : stored x ≡ sum_z (product_at r v) a n

pub is_sum : {r v : List ℤ} {c : ℕ} → Summable r v c → (a n : ℕ) → a + n ≤ c → {x : ℤ} → x ≡ sum_z (product_at r v) a n → IsSum r v a n x
is_sum d a n l {x} p =
    let f : SFits w64 x = fit_abs x (rw p (d.runs a n l)) in
    record { fits = f; is = to_z-of_z f ∙ p }

-- a term alone
pub single : {r v : List ℤ} {c : ℕ} → Summable r v c → (a : ℕ) → a + 1 ≤ c → {x : ℤ} → x ≡ product_at r v a → IsSum r v a 1 x
single {r} {v} d a l p = is_sum d a 1 l (p ∙ sym (sum_z_one (product_at r v) a))

-- the sum x of m terms, and y, that of the k behind them
pub join : {r v : List ℤ} {c : ℕ} → Summable r v c → (a m k : ℕ) → a + (m + k) ≤ c → {x y : ℤ} → x ≡ sum_z (product_at r v) a m → IsSum r v (a + m) k y → IsSum r v a (m + k) (x +ℤ stored y)
join {r} {v} d a m k l p q = is_sum d a (m + k) l ((cc (p, q.is)) ∙ sym (sum_z_split (product_at r v) a m k))

-- what a part of the terms asks
pub part : {r y : List ℤ} {n n' : ℕ} → Summable r y n → n' ≤ n → Summable r y n'
part d h = record {
  few = omega (arith, d.few);
  left = λ i l. d.left i (omega arith);
  right = λ i l. d.right i (omega arith);
  runs = λ a k l. d.runs a k (omega arith);
}
