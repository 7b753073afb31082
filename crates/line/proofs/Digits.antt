-- A frame and its text: its digits read and written again, and the frame written and read again. Assumes nothing.
use mathlib.Core.Path.{◌≡◌, refl, sym, ap, ◌∙◌}
use mathlib.Core.Bool.{true}
use mathlib.Core.List.{List, [], ◌∷◌, ◌++◌, append_assoc}
use Prim.Native.Nat.{ℕ, ◌+◌, ◌^◌, ◌≤◌, ◌<◌}
use native.Mathlib.Omega.{arith}
use lib.Dec.{eqb}
use lib.ListN.{length, get_or, take, drop, length-append}
use lib.Seq.{get_or_at}
use borrow.Author.Tests.{eq-eqb}
use Rattle.integer.proofs.Tests.{both}
use Rattle.word.proofs.Buffer.{get_d_part, part_between, part_within}
use Rattle.hexadecimal.specs.Hex.{hex_at, hex_digits, hexes}
use Rattle.hexadecimal.proofs.Hex.{digits_back, frame_digits, hex_back, hexes_back, hexes_part, hexes_split, length_hex}
use Rattle.std.specs.Prelude.{Ok}
use Rattle.line.specs.Line.{is_frame, line_at}
use Rattle.line.proofs.Laws.{a_frame, frame_end}

-- k digits of a frame from its digit j on
pub frame_part : (s : List ℕ) (at j k : ℕ) → is_frame s at ≡ true → j + k ≤ 22 → hex_digits k (hex_at k s (at + j)) ≡ take k (drop (at + j) s)
frame_part s at j k f l =
    digits_back k s (at + j) (hexes_part 22 s at j k (both (hexes 22 s at) (eqb (get_or s (at + 22) 0) 10) f).0 l) (omega (arith, frame_end s at f))

-- the text of a frame
module _ (t : List ℕ) (at k r c n : ℕ) (e : take 23 (drop at t) ≡ hex_digits 2 k ++ hex_digits 2 r ++ hex_digits 2 c ++ hex_digits 16 n ++ 10 ∷ []) where
  abbrev K : List ℕ
  K = hex_digits 2 k

  abbrev R : List ℕ
  R = hex_digits 2 r

  abbrev C : List ℕ
  C = hex_digits 2 c

  abbrev N : List ℕ
  N = hex_digits 16 n

  field : (j m : ℕ) (xs ys zs : List ℕ) → j + m ≤ 23 → K ++ R ++ C ++ N ++ 10 ∷ [] ≡ xs ++ ys ++ zs → length xs ≡ j → length ys ≡ m → take m (drop (at + j) t) ≡ ys
  field j m xs ys zs h q a b =
      sym (part_within t at 23 j m h) ∙ part_between (take 23 (drop at t)) xs ys zs j m (e ∙ q) a b

  kind_field : take 2 (drop (at + 0) t) ≡ K
  kind_field = field 0 2 [] K (R ++ C ++ N ++ 10 ∷ []) (omega arith) (simp append_assoc) refl (length_hex 2 k)

  row_field : take 2 (drop (at + 2) t) ≡ R
  row_field = field 2 2 K R (C ++ N ++ 10 ∷ []) (omega arith) (simp append_assoc) (length_hex 2 k) (length_hex 2 r)

  column_field : take 2 (drop (at + 4) t) ≡ C
  column_field = field 4 2 (K ++ R) C (N ++ 10 ∷ []) (omega arith) (simp append_assoc) (simp (length-append, length_hex)) (length_hex 2 c)

  bits_field : take 16 (drop (at + 6) t) ≡ N
  bits_field = field 6 16 (K ++ R ++ C) N (10 ∷ []) (omega arith) refl (simp (length-append, length_hex)) (length_hex 16 n)

  last_byte : get_or t (at + 22) 0 ≡ 10
  last_byte =
      sym (get_d_part t at 23 22 (omega arith))
      ∙ ap (λ (l : List ℕ). get_or l 22 0) e
      ∙ get_or_at (K ++ R ++ C ++ N) 10 [] 0 22 (simp (length-append, length_hex))

  text_frame : is_frame t at ≡ true
  text_frame =
      let a : at + 0 ≡ at = omega arith in
      let b : at + 2 + 2 ≡ at + 4 = omega arith in
      let k2 : hexes 2 t at ≡ true = hexes_back 2 k t at (rw a at kind_field) in
      rw (frame_digits t at, hexes_split 2 4 t at, hexes_split 2 2 t (at + 2), b, k2, hexes_back 2 r t (at + 2) row_field, hexes_back 2 c t (at + 4) column_field, hexes_back 16 n t (at + 6) bits_field) (eq-eqb (get_or t (at + 22) 0) 10 last_byte)

  pub frame_back : k < 16 ^ 2 → r < 16 ^ 2 → c < 16 ^ 2 → n < 16 ^ 16 → line_at t at ≡ Ok (record { kind = k; row = r; column = c; bits = n })
  frame_back hk hr hc hn =
      let a : at + 0 ≡ at = omega arith in
      sym
      (a_frame t at (omega (arith, frame_end t at text_frame)) text_frame (sym (hex_back 2 k hk t at (rw a at kind_field))) (sym (hex_back 2 r hr t (at + 2) row_field)) (sym (hex_back 2 c hc t (at + 4) column_field))
      (sym (hex_back 16 n hn t (at + 6) bits_field)))
