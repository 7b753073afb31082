-- The next start by motor and step. Assumes nothing.
use mathlib.Core.Bool.{true, false}
use mathlib.Core.Path.{◌≡◌, refl, ap}
use mathlib.Core.List.{List}
use Prim.Native.Nat.{ℕ, ◌+◌, ◌*◌, ◌<◌}
use native.Mathlib.Nat.{mul-le-mul, le_refl}
use native.Mathlib.Omega.{arith}
use lib.Dec.{ltb}
use borrow.Author.Tests.{lt-ltb, le-ltb}
use Rattle.image.specs.declared.Sizes.{Sizes}
use Rattle.image.specs.Sizes.{command_count}
use Rattle.word.specs.Word.{word_at}
use Rattle.drive.specs.Move.{moved_at, command_of, clamp_at, MovedOn}

module _ (z : Sizes) (step motor : ℕ) (h : motor < z.nu) where
  abbrev k : ℕ
  k = command_of z step motor

  before_last : step + 1 < z.steps → ltb (k + z.nu) (command_count z) ≡ true
  before_last l =
      let m = mul-le-mul {n₁ = z.nu} {m₁ = step + 2} {n₂ = z.nu} {m₂ = z.steps} (le_refl z.nu) (omega arith) in
      lt-ltb (k + z.nu) (command_count z) (omega (arith, m))

  in_last : step + 1 ≡ z.steps → ltb (k + z.nu) (command_count z) ≡ false
  in_last e =
      let m : command_count z ≡ z.nu * (step + 1) = ap (λ (n : ℕ). z.nu * n) (omega (arith, e)) in
      le-ltb (k + z.nu) (command_count z) (omega (arith, m))

  next : k + z.nu ≡ command_of z (step + 1) motor
  next = omega arith

-- of every image and answer, whatever their bytes
pub moved_on : (z : Sizes) (image answer : List ℕ) (step motor : ℕ) → motor < z.nu → MovedOn z image answer step motor
unfolding moved_at
moved_on z image answer step motor h = record {
  forward = λ l. rw (before_last z step motor h l) (ap (λ (k : ℕ). clamp_at z image step motor (word_at answer (4 * k))) (next z step motor h));
  repeated = λ e. rw (in_last z step motor h e) refl;
}
