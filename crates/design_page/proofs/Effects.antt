-- A line without a fault: what rounding did to its design number. Assumes nothing.
use mathlib.Core.Path.{◌≡◌}
use mathlib.Core.Bool.{not, true}
use mathlib.Core.List.{List}
use Prim.Native.Nat.{ℕ, ◌+◌, ◌*◌, ◌^◌}
use lib.Dec.{T}
use lib.Ieee.{binary64, fits, is_nan}
use lib.Ieee.Bits.{of_bits-fits}
use Rattle.word.specs.Format.{is_format, in_word}
use Rattle.hexadecimal.specs.Hex.{hex_at}
use Rattle.double.specs.Double.{HasQuotient}
use Rattle.double.proofs.Back.{value_exact}
use Rattle.image.specs.Sizes.{Sound}
use Rattle.image.specs.declared.Sizes.{Sizes}
use Rattle.image.proofs.Sized.{sound_format}
use Rattle.lines.specs.Lines.{line_double, line_fault, line_word}
use Rattle.lines.proofs.Step.{line_number_lem}
use Rattle.sheet.proofs.Entries.{line_due}
use Rattle.sheet.proofs.Fits.{line_word_in}
use Rattle.page_line.specs.Effect.{given, kept, mark}
use Rattle.page_line.specs.Laws.{Marks}
use Rattle.page_line.proofs.Kept.{given_is, kept_is, mark_is, value_number_lem, word_fits}
use Rattle.design_page.specs.Page.{line_effect, word_double}

module _ (z : Sizes) (s : List ℕ) (i : ℕ) (o : Sound z) where
  format_is : is_format z.b z.w ≡ true
  format_is = sound_format z o

  word_in : in_word z.w (line_word z s i) ≡ true
  word_in = line_word_in z s i

  -- the double of the word is exactly word / 2^b
  pub word_exact : HasQuotient (word_double z s i) (line_word z s i) (2 ^ z.b)
  word_exact = value_exact z.b z.w (line_word z s i) format_is word_in

  pub word_double_fits : T (fits binary64 (word_double z s i))
  word_double_fits = word_fits z.b z.w (line_word z s i) format_is word_in

  pub mark_says : Marks (mark (line_effect z s i)) (line_double z s i) (line_word z s i) z.b
  mark_says = mark_is z.b z.w (line_word z s i) format_is word_in (line_double z s i)

  module _ (f : line_fault z s i ≡ 0) where
    double_fits : T (fits binary64 (line_double z s i))
    double_fits = rw (line_due z s i f).1 (of_bits-fits binary64 (hex_at 16 s (23 * (i + 1) + 6)))

    pub kept_double : kept (line_effect z s i) ≡ word_double z s i
    kept_double = kept_is z.b z.w (line_word z s i) format_is word_in (line_double z s i) double_fits

    pub given_number : T (not (is_nan (given (line_effect z s i))))
    given_number = rw (given_is (line_double z s i) (word_double z s i)) (line_number_lem z s i f)

    pub kept_number : T (not (is_nan (kept (line_effect z s i))))
    kept_number = rw kept_double (value_number_lem (word_double z s i) (line_word z s i) (2 ^ z.b) word_exact)
