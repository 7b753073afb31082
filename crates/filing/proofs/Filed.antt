-- A page's kept doubles as a sheet again: the same number, the same image, and nothing moves. Assumes nothing.
use mathlib.Core.Path.{◌≡◌, sym, ap, ◌∙◌}
use mathlib.Core.List.{List, [], ◌∷◌, ◌++◌, append_assoc}
use Prim.Native.Nat.{ℕ, ◌+◌, ◌*◌, ◌<◌}
use native.Mathlib.Omega.{arith}
use lib.Ieee.{Float, binary64, to_bits}
use lib.Ieee.Bits.{of_bits-to_bits, to_bits-lt}
use lib.ListN.{length, take, drop, length-append}
use lib.Seq.{drop-append-add, length-take-le, take_at}
use Rattle.word.specs.Buffer.{joined}
use Rattle.word.proofs.Joined.{joined_cong, length_joined, part_joined}
use Rattle.hexadecimal.specs.Hex.{hex_digits}
use Rattle.hexadecimal.proofs.Hex.{hex_lt, length_hex}
use Rattle.double.specs.Double.{double_value}
use Rattle.image.specs.Sizes.{Sound}
use Rattle.image.specs.declared.Sizes.{Sizes}
use Rattle.image.proofs.Sized.{sound_format}
use Rattle.line.specs.Line.{line_at}
use Rattle.std.specs.Prelude.{Ok}
use Rattle.line.proofs.Digits.{frame_back}
use Rattle.line.proofs.Laws.{frame_end, line_take}
use Rattle.frame.specs.declared.Due.{Due}
use Rattle.frame.specs.Frame.{due_at, head_of, total, value_double, value_of}
use Rattle.frame.proofs.Sized.{head_sizes, head_sound}
use Rattle.frame.proofs.Word.{due_value, word_back}
use Rattle.lines.specs.Lines.{line_double, line_fault, line_value, line_word}
use Rattle.lines.proofs.Step.{fault_word}
use Rattle.sheet.specs.Sheet.{sheet_image, sheet_number}
use Rattle.sheet.proofs.Answer.{image_cong, Passing, passing, sized_passes}
use Rattle.sheet.proofs.Entries.{column_due, kind_due, passes, row_due}
use Rattle.sheet.proofs.Fits.{input_limit, line_word_in}
use Rattle.intake.proofs.Laws.{intake_cong}
use Rattle.page_line.proofs.Kept.{mark_same}
use Rattle.design_page.specs.Page.{page_line, sheet_page, word_double}
use Rattle.design_page.proofs.Call.{count_sized, page_sized}
use Rattle.design_page.proofs.Effects.{word_double_fits}
use Rattle.design_page.proofs.Fields.{kept_at, kind_at, line_text_lem, place_at}
use Rattle.filing.specs.Laws.{kept_line, kept_sheet, kept_twice, LosesNothing}

module _ (s : List ℕ) (e : sheet_number s ≡ 0) where
  abbrev p : Passing s
  p = passing s e

  abbrev z : Sizes
  z = p.sizes

  abbrev t : List ℕ
  t = kept_sheet s

  sizes_sound : Sound z
  sizes_sound = head_sound (line_at s 0) z p.head

  -- ---- a line of the page as one of a sheet
  module _ (i : ℕ) (l : i < total z) where
    abbrev d : Due
    d = due_at z i

    abbrev y : Float
    y = word_double z s i

    no_fault : line_fault z s i ≡ 0
    no_fault = (passes s e).0 i l

    kept_text : kept_line (sheet_page s) i ≡ hex_digits 2 d.kind ++ hex_digits 2 d.row ++ hex_digits 2 d.column ++ hex_digits 16 (to_bits binary64 y) ++ 10 ∷ []
    kept_text =
        rw (kind_at z s p.head i l, place_at z s p.head i l)
        (ap (λ (x : List ℕ). hex_digits 2 d.kind ++ (hex_digits 2 d.row ++ hex_digits 2 d.column) ++ x ++ 10 ∷ []) (kept_at z s p.head i l no_fault)
        ∙ simp append_assoc)

    kept_length : length (kept_line (sheet_page s) i) ≡ 23
    kept_length = ap length kept_text ∙ simp (length-append, length_hex)

  -- ---- line 01, and where the others stand
  front : length (take 23 s) ≡ 23
  front = length-take-le 23 s (frame_end s 0 (head_sizes s 0 z p.head).0)

  kept_sheet_lem : t ≡ take 23 s ++ joined (kept_line (sheet_page s)) (total z)
  unfolding kept_sheet
  kept_sheet_lem = ap (λ (n : ℕ). take 23 s ++ joined (kept_line (sheet_page s)) n) (count_sized s z p.head)

  same_sizes : head_of (line_at t 0) ≡ Ok z
  same_sizes =
      let same : take 23 t ≡ take 23 s = ap (take 23) kept_sheet_lem ∙ take_at (take 23 s) (joined (kept_line (sheet_page s)) (total z)) 23 front in
      ap head_of (sym (line_take t 23 0 (omega arith)) ∙ ap (λ (x : List ℕ). line_at x 0) same ∙ line_take s 23 0 (omega arith)) ∙ p.head

  sheet_length : length t ≡ 23 * (total z + 1)
  sheet_length =
      omega (arith, ap length kept_sheet_lem, length-append (take 23 s) (joined (kept_line (sheet_page s)) (total z)), front, length_joined (kept_line (sheet_page s)) 23 (total z) kept_length)

  -- ---- a line of that sheet
  module _ (i : ℕ) (l : i < total z) where
    abbrev at : ℕ
    at = 23 * (i + 1)

    line_part : take 23 (drop at t) ≡ kept_line (sheet_page s) i
    line_part =
        let lines = joined (kept_line (sheet_page s)) (total z) in
        let q : at ≡ length (take 23 s) + 23 * i = omega (arith, front) in
        ap (take 23) (ap (drop at) kept_sheet_lem ∙ ap (λ (k : ℕ). drop k (take 23 s ++ lines)) q ∙ drop-append-add (take 23 s) lines (23 * i))
        ∙ part_joined (kept_line (sheet_page s)) 23 (total z) kept_length i l

    line_is : line_at t at ≡ Ok (record { kind = (d i l).kind; row = (d i l).row; column = (d i l).column; bits = to_bits binary64 (y i l) })
    line_is =
        let f = no_fault i l in
        frame_back t at (d i l).kind (d i l).row (d i l).column (to_bits binary64 (y i l)) (line_part ∙ kept_text i l)
        (rw (kind_due z s i f) at (hex_lt 2 s at)) (rw (row_due z s i f) at (hex_lt 2 s (at + 2))) (rw (column_due z s i f) at (hex_lt 2 s (at + 4)))
        (to_bits-lt binary64 (y i l) (word_double_fits z s i sizes_sound))

    value_is : line_value z t i ≡ Ok (y i l)
    unfolding line_value
    value_is =
        ap (value_of (d i l)) line_is ∙ due_value (d i l) (to_bits binary64 (y i l)) ∙ ap Ok (of_bits-to_bits binary64 (y i l) (word_double_fits z s i sizes_sound))

    -- it has no fault, and the same word
    same_line : (line_fault z t i ≡ 0) × (line_word z t i ≡ line_word z s i)
    same_line =
        fault_word z t i (y i l) (line_word z s i) value_is
        (word_back z (d i l).kind (line_word z s i) (sound_format z sizes_sound) (line_word_in z s i) (input_limit z s i))

    -- on its page the double is given, and kept
    page_line_lem : page_line z t i ≡ kept_twice (sheet_page s) i
    page_line_lem =
        let given : line_double z t i ≡ y i l = ap value_double value_is in
        let kept : word_double z t i ≡ y i l = ap (double_value z.b z.w) same_line.1 in
        line_text_lem z t i sizes_sound same_line.0
        ∙ rw (given, kept, mark_same z.b z.w (line_word z s i) (sound_format z sizes_sound) (line_word_in z s i), kind_at z s p.head i l, place_at z s p.head i l, kept_at z s p.head i l (no_fault i l))

  -- ---- the whole
  passes_again : sheet_number t ≡ 0
  passes_again = sized_passes z t same_sizes (λ i l. (same_line i l).0) (omega (arith, sheet_length))

  same_image : sheet_image t ≡ sheet_image s
  same_image = image_cong z t s same_sizes p.head passes_again e (λ i l. (same_line i l).1)

  pub loses_nothing : LosesNothing s
  loses_nothing = record {
    number = intake_cong t s (passes_again ∙ sym e) same_image;
    image = same_image;
    page = page_sized t z same_sizes ∙ joined_cong (page_line z t) (kept_twice (sheet_page s)) (total z) page_line_lem ∙ ap (joined (kept_twice (sheet_page s))) (sym (count_sized s z p.head));
  }
