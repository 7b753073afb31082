-- A sign and a magnitude. Assumes nothing.
use Rattle.std.proofs.Common.{◌≡◌, ℕ, zero, suc, ◌*◌, Bool, true, false, not, ℤ, pos, negsuc, ◌*ℤ◌, neg_ℤ, nat_abs, sym, refl, arith}
use lib.IntN.{neg_ℤ-neg_ℤ}
use Rattle.integer.specs.Parts.{nat, ◌⊡◌, neg}
use Rattle.integer.proofs.Parts.{eq! }
use Rattle.double.specs.Double.{signed, is_negative}

pub abs_signed : (s : Bool) (n : ℕ) → nat_abs (signed s n) ≡ n
abs_signed false n = refl
abs_signed true zero = refl
abs_signed true (suc n) = refl

pub signed_abs : (z : ℤ) → signed (is_negative z) (nat_abs z) ≡ z
signed_abs (pos n) = refl
signed_abs (negsuc n) = refl

pub signed_mul : (s : Bool) (n d : ℕ) → signed s (n * d) ≡ signed s n *ℤ pos d
signed_mul false n d = refl
signed_mul true n d = eq! (neg (nat (n * d))) (neg (nat n) ⊡ d) (omega arith)

pub signed_not : (s : Bool) (n : ℕ) → signed (not s) n ≡ neg_ℤ (signed s n)
signed_not false n = refl
signed_not true n = sym (neg_ℤ-neg_ℤ (pos n))
