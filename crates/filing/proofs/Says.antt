-- What the lines of a page say of sheet and image. Assumes nothing.
use mathlib.Core.Path.{◌≡◌, sym, ap, ◌∙◌, subst}
use mathlib.Core.List.{List}
use Prim.Native.Nat.{ℕ, ◌+◌, ◌*◌, ◌<◌}
use native.Mathlib.Omega.{arith}
use lib.Ieee.{binary64, of_bits, to_bits}
use lib.Ieee.Bits.{of_bits-to_bits, to_bits-lt}
use Rattle.hexadecimal.specs.Hex.{hex_at, hex_digits}
use Rattle.hexadecimal.proofs.Hex.{hex_back, hex_lt}
use Rattle.image.specs.Sizes.{Sound}
use Rattle.image.specs.Layout.{sizes_of}
use Rattle.image.specs.declared.Sizes.{Sizes}
use Rattle.line.specs.Line.{line_at}
use Rattle.frame.specs.Frame.{total}
use Rattle.frame.proofs.Laws.{total_is}
use Rattle.frame.proofs.Sized.{head_sound}
use Rattle.lines.specs.Lines.{line_fault, line_word}
use Rattle.sheet.specs.Sheet.{sheet_image, sheet_number}
use Rattle.sheet.proofs.Answer.{Passing, passing}
use Rattle.sheet.proofs.Digits.{double_bits, double_digits, kind_digits, place_digits}
use Rattle.sheet.proofs.Entries.{line_due, passes}
use Rattle.sheet.proofs.Image.{image_sizes, image_word}
use Rattle.page_line.specs.Effect.{mark}
use Rattle.design_page.specs.Page.{design_count, line_effect, sheet_page, word_double}
use Rattle.design_page.proofs.Call.{count_sized}
use Rattle.design_page.proofs.Effects.{mark_says, word_double_fits, word_exact}
use Rattle.design_page.proofs.Fields.{given_at, kept_at, line_at_lem, line_text_lem}
use Rattle.filing.specs.Laws.{LineSays, word_in}

module _ (s : List ℕ) (e : sheet_number s ≡ 0) where
  abbrev p : Passing s
  p = passing s e

  abbrev z : Sizes
  z = p.sizes

  sizes_sound : Sound z
  sizes_sound = head_sound (line_at s 0) z p.head

  module _ (i : ℕ) (l : i < total z) where
    no_fault : line_fault z s i ≡ 0
    no_fault = (passes s e).0 i l

    word_is : word_in s i ≡ line_word z s i
    word_is = image_word s p i (omega (arith, total_is z))

    given_read : hex_at 16 (sheet_page s) (44 * i + 8) ≡ hex_at 16 s (23 * (i + 1) + 6)
    given_read =
        hex_back 16 (hex_at 16 s (23 * (i + 1) + 6)) (hex_lt 16 s (23 * (i + 1) + 6)) (sheet_page s) (44 * i + 8)
        (given_at z s p.head i l ∙ ap (hex_digits 16) (double_bits z s i no_fault))

    kept_read : of_bits binary64 (hex_at 16 (sheet_page s) (44 * i + 25)) ≡ word_double z s i
    kept_read =
        let fit = word_double_fits z s i sizes_sound in
        ap (of_bits binary64)
        (hex_back 16 (to_bits binary64 (word_double z s i)) (to_bits-lt binary64 (word_double z s i) fit) (sheet_page s) (44 * i + 25) (kept_at z s p.head i l no_fault))
        ∙ of_bits-to_bits binary64 (word_double z s i) fit

    line_says : LineSays z s i
    line_says = record {
      mark = mark (line_effect z s i);
      line = rw word_is (line_at_lem z s p.head i l ∙ line_text_lem z s i sizes_sound no_fault ∙ rw (kind_digits z s i no_fault, place_digits z s i no_fault, double_digits z s i no_fault));
      given_back = given_read;
      kept_back = rw word_is kept_read;
      exact = rw word_is (word_exact z s i sizes_sound);
      marked = rw (word_is, sym (line_due z s i no_fault).1) (mark_says z s i sizes_sound);
    }

  pub says : (i : ℕ) → i < design_count s → LineSays (sizes_of (sheet_image s)) s i
  says i l = subst (λ (y : Sizes). LineSays y s i) (sym (image_sizes s p)) (line_says i (omega (arith, count_sized s z p.head)))
