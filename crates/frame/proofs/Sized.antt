-- What line 01 gives: sound sizes, those of its digits, or a fault that is not 0. Assumes nothing.
use mathlib.Core.Path.{◌≡◌, refl, sym, ap, ◌∙◌}
use mathlib.Core.Bool.{Bool, true, false, cond, ◌&&◌}
use mathlib.Core.List.{List}
use Prim.Native.Nat.{ℕ, ◌+◌}
use native.Mathlib.Omega.{arith}
use lib.Dec.{eqb}
use Rattle.hexadecimal.specs.Hex.{hex_at}
use Rattle.image.specs.declared.Sizes.{Sizes}
use Rattle.image.specs.Sizes.{sound, Sound}
use Rattle.image.proofs.Sized.{sound_facts}
use Rattle.line.specs.Line.{line_at, is_frame}
use Rattle.std.specs.Prelude.{Result, Ok, Err}
use Rattle.line.specs.declared.Frame.{Frame}
use Rattle.refusal.specs.declared.Refusal.{Refusal}
use Rattle.refusal.specs.declared.Refusal.TheVariants.{Misplaced, Size}
use Rattle.line.proofs.Laws.{framed}
use Rattle.frame.specs.Frame.{frame_sizes, frame_zeros, head_of}

pub differ : ◌≡◌ {A = ℕ} 0 1 → ⊥
differ e = omega arith

sized_by : (a b : Bool) (y z : Sizes) → sound y ≡ b → cond a (cond b (Ok y) (Err Size)) (Err Misplaced) ≡ Ok z → sound z ≡ true
sized_by true true y z e h = let s : y ≡ z = cc in ap sound (sym s) ∙ e
sized_by true false y z e h = cc
sized_by false b y z e h = cc

sizes_by : (a b : Bool) (y z : Sizes) → cond a (cond b (Ok y) (Err Size)) (Err Misplaced) ≡ Ok z → z ≡ y
sizes_by true true y z h = cc
sizes_by true false y z h = cc
sizes_by false b y z h = cc

pub head_true : (l : Result Frame Refusal) (z : Sizes) → head_of l ≡ Ok z → sound z ≡ true
unfolding head_of
head_true (Err why) z h = cc
head_true (Ok f) z h = sized_by (eqb f.kind 1 && frame_zeros f.bits) (sound (frame_sizes f.row f.column f.bits)) (frame_sizes f.row f.column f.bits) z refl h

pub head_sound : (l : Result Frame Refusal) (z : Sizes) → head_of l ≡ Ok z → Sound z
head_sound l z h = sound_facts z (head_true l z h)

-- the sizes are those of the line's digits
pub head_sizes : (s : List ℕ) (at : ℕ) (z : Sizes) → head_of (line_at s at) ≡ Ok z → (is_frame s at ≡ true) × (z ≡ frame_sizes (hex_at 2 s (at + 2)) (hex_at 2 s (at + 4)) (hex_at 16 s (at + 6)))
unfolding head_of
head_sizes s at z h =
    let p = framed (λ (l : Result Frame Refusal). head_of l ≡ Ok z) s at (λ e. differ (cc)) (λ e. differ (cc)) h in
    (p.0, sizes_by (eqb (hex_at 2 s at) 1 && frame_zeros (hex_at 16 s (at + 6))) (sound (frame_sizes (hex_at 2 s (at + 2)) (hex_at 2 s (at + 4)) (hex_at 16 s (at + 6)))) _ z p.1)
