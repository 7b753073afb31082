-- A line without a fault has the digits of the frame due and of its double. Assumes nothing.
use mathlib.Core.Path.{◌≡◌, sym, ap, ◌∙◌}
use mathlib.Core.List.{List, ◌++◌}
use Prim.Native.Nat.{ℕ, ◌+◌, ◌*◌}
use native.Mathlib.Omega.{arith}
use lib.Ieee.{binary64, to_bits}
use lib.Ieee.Bits.{to_bits-of_bits}
use lib.ListN.{take, drop}
use lib.Seq.{drop-drop, take-add}
use Rattle.hexadecimal.specs.Hex.{hex_at, hex_digits}
use Rattle.hexadecimal.proofs.Hex.{hex_lt}
use Rattle.image.specs.declared.Sizes.{Sizes}
use Rattle.line.proofs.Digits.{frame_part}
use Rattle.frame.specs.Frame.{due_at}
use Rattle.lines.specs.Lines.{line_double, line_fault}
use Rattle.lines.proofs.Step.{line_number_lem}
use Rattle.sheet.proofs.Entries.{column_due, kind_due, line_due, line_frame, row_due}

module _ (z : Sizes) (s : List ℕ) (i : ℕ) (f : line_fault z s i ≡ 0) where
  abbrev at : ℕ
  at = 23 * (i + 1)

  pub kind_digits : hex_digits 2 (due_at z i).kind ≡ take 2 (drop at s)
  kind_digits =
      let e : at + 0 ≡ at = omega arith in
      ap (hex_digits 2) (sym (kind_due z s i f)) ∙ rw e at (frame_part s at 0 2 (line_frame z s i f).0 (omega arith))

  pub place_digits : hex_digits 2 (due_at z i).row ++ hex_digits 2 (due_at z i).column ≡ take 4 (drop (at + 2) s)
  place_digits =
      let e : at + 2 + 2 ≡ at + 4 = omega arith in
      let r : hex_digits 2 (due_at z i).row ≡ take 2 (drop (at + 2) s) = ap (hex_digits 2) (sym (row_due z s i f)) ∙ frame_part s at 2 2 (line_frame z s i f).0 (omega arith) in
      let c : hex_digits 2 (due_at z i).column ≡ take 2 (drop (at + 4) s) = ap (hex_digits 2) (sym (column_due z s i f)) ∙ frame_part s at 4 2 (line_frame z s i f).0 (omega arith) in
      rw (r, c) (sym (take-add 2 2 (drop (at + 2) s) ∙ ap (λ (l : List ℕ). take 2 (drop (at + 2) s) ++ take 2 l) (drop-drop 2 (at + 2) s ∙ ap (λ (k : ℕ). drop k s) e)))

  -- the pattern of its double, which is no NaN
  pub double_bits : to_bits binary64 (line_double z s i) ≡ hex_at 16 s (at + 6)
  double_bits =
      ap (to_bits binary64) (line_due z s i f).1 ∙ to_bits-of_bits binary64 (hex_at 16 s (at + 6)) (hex_lt 16 s (at + 6)) (rw (line_due z s i f).1 at (line_number_lem z s i f))

  pub double_digits : hex_digits 16 (to_bits binary64 (line_double z s i)) ≡ take 16 (drop (at + 6) s)
  double_digits = ap (hex_digits 16) double_bits ∙ frame_part s at 6 16 (line_frame z s i f).0 (omega arith)
