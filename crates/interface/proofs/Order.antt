-- 16 comes before 14: a call whose target is refused has that number, whatever its start. Assumes nothing.
use mathlib.Core.Path.{◌≡◌, refl}
use mathlib.Core.Bool.{true, false}
use mathlib.Core.List.{List}
use Prim.Native.Nat.{ℕ}
use Rattle.image.specs.declared.Input.TheVariants.{State, Target}
use Rattle.image.specs.Layout.{sizes_of}
use Rattle.interface.specs.Calls.{input_passes, call_number}

pub target_first : (image state target start : List ℕ) → input_passes State (sizes_of image) image state ≡ true → input_passes Target (sizes_of image) image target ≡ false
    → call_number image state target start ≡ 16
unfolding call_number
target_first image state target start s t = rw (s, t) refl
