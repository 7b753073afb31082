-- Document 01, "The label program", and document 02, request 1: what the files of a state and a target are tested for before a solve is.
-- Definitions only.
use Rattle.std.specs.Prelude.{ℕ, Bool, ◌||◌, List, [], ◌∷◌, eqb}
use Rattle.image.specs.declared.Sizes.{Sizes}
use Rattle.image.specs.declared.Input.TheVariants.{State}
use Rattle.image.specs.Order.{check, first_fault}
use Rattle.interface.specs.Calls.{input_passes}
use Rattle.word_file.specs.WordFile.{is_word_file, file_words}

-- "from target.hex, formed as state.hex, .. when nr is above 0": with nr 0 it may hold anything
unfoldable pub target_form : ℕ → List ℕ → Bool
target_form nr target = eqb nr 0 || is_word_file nr target

-- the number of the two files: "anything else is 13", and so is a state beyond its limits; "directly after 13" the target's form, "else 16"
unfoldable pub form_number : Sizes → List ℕ → List ℕ → List ℕ → ℕ
form_number z image state target =
    first_fault
    (check 13 (is_word_file z.nx state)
    ∷ check 13 (input_passes State z image (file_words z.nx state))
    ∷ check 16 (target_form z.nr target)
    ∷ [])
