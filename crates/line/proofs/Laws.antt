-- A line by its tests. Assumes nothing.
use mathlib.Core.Path.{◌≡◌, refl, sym, ap, ◌∙◌}
use mathlib.Core.Bool.{Bool, true, false, cond, and-false, false≢true}
use mathlib.Core.List.{List}
use Prim.Native.Nat.{ℕ, zero, suc, ◌+◌, ◌≤◌, ◌<◌}
use native.Mathlib.Nat.{add-zero}
use native.Mathlib.Omega.{arith}
use lib.Dec.{leb, ltb}
use lib.Seq.{get_or-take}
use borrow.Author.Tests.{le-leb, lt-leb, ne_eqb, leb-true, leb-false, ltb-true, ltb-false}
use lib.ListN.{length, get_or, take, length-take, get_or-eq_default}
use Rattle.std.specs.Prelude.{◌≢◌, Result, Ok, Err}
use Rattle.refusal.specs.declared.Refusal.{Refusal}
use Rattle.refusal.specs.declared.Refusal.TheVariants.{Malformed, Count}
use Rattle.line.specs.declared.Frame.{Frame}
use Rattle.line.specs.Line.{is_frame, frame_at, line_at, line_number, number_at}
use Rattle.hexadecimal.specs.Hex.{digit_of, hexes, hex_at}
use Rattle.word.proofs.Digits.{number_cong}

-- the line has the number that its tests give
pub line_number_lem : (s : List ℕ) (at : ℕ) → line_number (line_at s at) ≡ number_at s at
unfolding line_at
line_number_lem s at = by (leb (length s) at) (is_frame s at) _
  where
    by : (a b : Bool) (f : Frame) → line_number (cond a (Err Count) (cond b (Ok f) (Err Malformed))) ≡ cond a 4 (cond b 0 1)
    by true b f = refl
    by false true f = refl
    by false false f = refl

-- what a line's promise says follows from the line
pub told : (s : List ℕ) (at : ℕ) {l : Result Frame Refusal} → l ≡ line_at s at → (l ≡ line_at s at) × (line_number l ≡ number_at s at)
told s at e = (e, ap line_number e ∙ line_number_lem s at)

-- ---- by the tests
module _ (s : List ℕ) (at : ℕ) where
  pub no_line : length s ≤ at → Err Count ≡ line_at s at
  unfolding line_at
  no_line h = rw (le-leb (length s) at h)

  pub no_frame : at < length s → is_frame s at ≡ false → Err Malformed ≡ line_at s at
  unfolding line_at
  no_frame h f = rw (lt-leb (length s) at h, f)

  pub a_frame : {k r c n : ℕ} → at < length s → is_frame s at ≡ true → k ≡ hex_at 2 s at → r ≡ hex_at 2 s (at + 2) → c ≡ hex_at 2 s (at + 4) → n ≡ hex_at 16 s (at + 6) → Ok (record { kind = k; row = r; column = c; bits = n }) ≡ line_at s at
  unfolding line_at
  a_frame h f k r c n = rw (lt-leb (length s) at h, f, k, r, c, n)

-- "a cut line" is no frame
pub cut_frame : (s : List ℕ) (at : ℕ) → length s < at + 23 → is_frame s at ≡ false
cut_frame s at h = rw (get_or-eq_default s 0 {n = at + 22} (omega arith)) (and-false (hexes 22 s at))

-- a line that another byte ends, in the two forms that `line_at` ensures
pub no_end : (s : List ℕ) (at : ℕ) → at < length s → get_or s (at + 22) 0 ≢ 10 → Err Malformed ≡ line_at s at
no_end s at l h = no_frame s at l (rw (ne_eqb (get_or s (at + 22) 0) 10 h) (and-false (hexes 22 s at)))

pub no_end_number : (s : List ℕ) (at : ℕ) → at < length s → get_or s (at + 22) 0 ≢ 10 → 1 ≡ number_at s at
no_end_number s at l h = ap line_number (no_end s at l h) ∙ line_number_lem s at

-- what a line has that neither case without a frame has
pub framed : (P : Result Frame Refusal → Type 0) (s : List ℕ) (at : ℕ) → (P (Err Count) → ⊥) → (P (Err Malformed) → ⊥) → P (line_at s at) → (is_frame s at ≡ true) × P (Ok (frame_at s at))
unfolding line_at
framed P s at e m = by (leb (length s) at) (is_frame s at)
  where
    by : (a b : Bool) → P (cond a (Err Count) (cond b (Ok (frame_at s at)) (Err Malformed))) → (b ≡ true) × P (Ok (frame_at s at))
    by true b h = absurd (e h)
    by false true h = (refl, h)
    by false false h = absurd (m h)

-- a frame's bytes are all there
pub frame_end : (s : List ℕ) (at : ℕ) → is_frame s at ≡ true → at + 23 ≤ length s
frame_end s at h = by (ltb (length s) (at + 23)) refl
  where
    by : (b : Bool) → ltb (length s) (at + 23) ≡ b → at + 23 ≤ length s
    by true e = absurd (false≢true (sym (cut_frame s at (ltb-true _ _ e)) ∙ h))
    by false e = ltb-false (length s) (at + 23) e

-- ---- nothing past a line is looked at

-- whether a place is past the end shows in any more bytes than lead to it
pub end_take : (s : List ℕ) (m at : ℕ) → at < m → leb (length (take m s)) at ≡ leb (length s) at
end_take s m at h = by (leb (length s) at) refl
  where
    by : (b : Bool) → leb (length s) at ≡ b → leb (length (take m s)) at ≡ b
    by true e = le-leb (length (take m s)) at (omega (arith, leb-true (length s) at e, length-take m s))
    by false e = lt-leb (length (take m s)) at (omega (arith, leb-false (length s) at e, length-take m s))

module _ (s : List ℕ) (m at : ℕ) (h : at + 23 ≤ m) where
  hexes_take : (k : ℕ) → k ≤ 22 → hexes k (take m s) at ≡ hexes k s at
  unfolding hexes
  hexes_take zero l = refl
  hexes_take (suc k) l = rw (hexes_take k (omega arith), get_or-take m s (at + k) 0 (omega arith))

  hex_take : (k a : ℕ) → a + k ≤ 22 → hex_at k (take m s) (at + a) ≡ hex_at k s (at + a)
  unfolding hex_at
  hex_take k a l = number_cong 16 _ _ k (λ i n. ap digit_of (get_or-take m s (at + a + i) 0 (omega arith)))

  pub line_take : line_at (take m s) at ≡ line_at s at
  unfolding line_at
  line_take =
      let k : hex_at 2 (take m s) at ≡ hex_at 2 s at = rw add-zero at (hex_take 2 0 (omega arith)) in
      rw (end_take s m at (omega arith), hexes_take 22 (omega arith), get_or-take m s (at + 22) 0 (omega arith), k, hex_take 2 2 (omega arith), hex_take 2 4 (omega arith), hex_take 16 6 (omega arith))
