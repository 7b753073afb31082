-- What the words that were read give at each way out, of the design's reading and of the call. Assumes nothing.
use mathlib.Core.Path.{◌≡◌, sym, ap, ◌∙◌}
use mathlib.Core.Bool.{cond}
use mathlib.Core.List.{List}
use Prim.Native.Nat.{ℕ, ◌*◌}
use lib.Dec.{eqb}
use lib.IntN.{ℤ}
use lib.ListN.{length, take}
use borrow.Author.Tests.{ne_eqb}
use Rattle.word.specs.Word.{words_out}
use Rattle.image.specs.Order.{or_else, buffer_number}
use Rattle.image.proofs.Ordering.{none, onward, refused, buffer_fits, buffer_refused}
use Rattle.sheet.specs.Reading.{Answered}
use Rattle.sheet.specs.Sheet.{sheet_image, sheet_number, sheet_words}
use Rattle.sheet.proofs.Answer.{image_length, read_fit, read_image, read_passing}
use Rattle.sheet.proofs.Image.{image_whole}
use Rattle.intake.specs.Intake.{ImageWords, design_number, intake_number, own_tables}

-- ---- a refusal leaves the caller's buffer
pub unwritten : (n : ℕ) (before written : List ℕ) → (n ≡ 0 → ⊥) → before ≡ cond (eqb n 0) written before
unwritten n before written h = rw (ne_eqb n 0 h)

-- ---- lines and end, then the tables
module _ (s : List ℕ) (n c : ℕ) (ws : List ℤ) (a : Answered (sheet_number s) (sheet_words s) n c ws) where
  lines_number_lem : (n ≡ 0 → ⊥) → n ≡ design_number s
  unfolding design_number
  lines_number_lem h = refused (sheet_number s) (own_tables (sheet_image s)) n a.number_is h

  pub refused_lines : (n ≡ 0 → ⊥) → Answered (design_number s) (sheet_words s) n c ws
  refused_lines h = record { number_is = lines_number_lem h; words_are = λ e. absurd (h e); count_is = λ e. absurd (h e); count_high = a.count_high }

  module _ (e : n ≡ 0) where
    pub image_words : ImageWords (take c ws)
    image_words = record {
      fit = read_fit s n c ws a e;
      whole = rw (read_image s n c ws a e) (image_whole s (read_passing s n c ws a e));
    }

    module _ (f : ℕ) (t : f ≡ own_tables (words_out (take c ws))) where
      tables_number_lem : f ≡ design_number s
      unfolding design_number
      tables_number_lem = onward (sheet_number s) (own_tables (sheet_image s)) n f a.number_is e (t ∙ ap own_tables (read_image s n c ws a e))

      pub read_tables : Answered (design_number s) (sheet_words s) f c ws
      read_tables = record { number_is = tables_number_lem; words_are = λ _. a.words_are e; count_is = λ _. a.count_is e; count_high = a.count_high }

-- an accepted design passed both
pub accepted_design : (s : List ℕ) → design_number s ≡ 0 → (sheet_number s ≡ 0) × (own_tables (sheet_image s) ≡ 0)
unfolding design_number
accepted_design s e = none (sheet_number s) (own_tables (sheet_image s)) e

-- ---- then 15
module _ (s : List ℕ) (n c : ℕ) (ws : List ℤ) (a : Answered (design_number s) (sheet_words s) n c ws) where
  -- a design that is refused, whatever the buffer
  pub refused_design : (b : ℕ) → (n ≡ 0 → ⊥) → n ≡ or_else (design_number s) b
  refused_design b h = refused (design_number s) b n a.number_is h

  pub refused_call : (room : ℕ) → (n ≡ 0 → ⊥) → n ≡ intake_number s room
  unfolding intake_number
  refused_call room h = refused_design (buffer_number (length (sheet_image s)) room) h

  -- and one that passed
  module _ (e : n ≡ 0) where
    pub read_lines : Answered (sheet_number s) (sheet_words s) n c ws
    read_lines = record { number_is = e ∙ sym (accepted_design s (sym a.number_is ∙ e)).0; words_are = a.words_are; count_is = a.count_is; count_high = a.count_high }

    pub then_buffer : (b r : ℕ) → r ≡ b → r ≡ or_else (design_number s) b
    then_buffer b r h = onward (design_number s) b n r a.number_is e h

    size_is : (room : ℕ) → buffer_number (4 * c) room ≡ buffer_number (length (sheet_image s)) room
    size_is room = ap (λ (k : ℕ). buffer_number k room) (sym (image_length s n c ws read_lines e))

    pub refused_room : (room : ℕ) → (room ≡ 4 * c → ⊥) → 15 ≡ intake_number s room
    unfolding intake_number
    refused_room room h = then_buffer (buffer_number (length (sheet_image s)) room) 15 (buffer_refused (4 * c) room h ∙ size_is room)

    pub accepted_call : (room : ℕ) → room ≡ 4 * c → 0 ≡ intake_number s room
    unfolding intake_number
    accepted_call room h = then_buffer (buffer_number (length (sheet_image s)) room) 0 (buffer_fits (4 * c) room h ∙ size_is room)
