-- The cold start of an accepted image is an accepted start, so a label whose sheet is accepted is refused with 13 or 16 or not at all. Assumes nothing.
use mathlib.Core.Path.{◌≡◌, refl, sym, ap, subst}
use mathlib.Core.Logic.{◌⊎◌, inl, inr}
use mathlib.Core.Bool.{Bool, true, false, cond}
use mathlib.Core.List.{List}
use Prim.Native.Nat.{ℕ, ◌*◌}
use lib.ListN.{length}
use borrow.Author.Tests.{eq-eqb}
use Rattle.image.specs.Order.{or_else}
use Rattle.image.specs.Sizes.{command_count}
use Rattle.image.proofs.Ordering.{or_none}
use Rattle.image.specs.Layout.{sizes_of}
use Rattle.image.specs.declared.Input.TheVariants.{Target}
use Rattle.interface.specs.Tables.{image_number}
use Rattle.interface.specs.Calls.{input_passes, cold_answer, call_number, solvable_number, answer_length, solve_number}
use Rattle.interface.proofs.Stop.{cold_start_accepted}
use Rattle.word_file.specs.WordFile.{file_words}
use Rattle.label_files.specs.Files.{target_form}
use Rattle.label_files.proofs.Form.{by_tests, in_order, state_form, state_limits}
use Rattle.label_text.specs.Label.{files_number}

-- what is left of the tests: the form of each file, and its limits
left : Bool → Bool → Bool → Bool → ℕ
left form limits target-form target_limits = or_else (in_order form limits target-form) (cond limits (cond target_limits 0 16) 13)

left_13_16 : (f l g m : Bool) → (left f l g m ≡ 0 → ⊥) → (left f l g m ≡ 13) ⊎ (left f l g m ≡ 16)
unfolding left
left_13_16 true true true true h = absurd (h refl)
left_13_16 true true true false h = inr refl
left_13_16 true true false m h = inr refl
left_13_16 true false g m h = inl refl
left_13_16 false l g m h = inl refl

module _ (image state target : List ℕ) (e : image_number image ≡ 0) where
  tests : files_number image state target
      ≡ left (state_form (sizes_of image) image state target) (state_limits (sizes_of image) image state target)
      (target_form (sizes_of image).nr target) (input_passes Target (sizes_of image) image (file_words (sizes_of image).nr target))
  unfolding files_number solve_number solvable_number call_number left
  tests =
      let start = cold_start_accepted image e in
      let n = command_count (sizes_of image) in
      rw (by_tests (sizes_of image) image state target, e, eq-eqb (length (cold_answer image)) (4 * n) start.size, start.within, eq-eqb (answer_length (sizes_of image)) (answer_length (sizes_of image)) refl)
      (ap (or_else (in_order (state_form (sizes_of image) image state target) (state_limits (sizes_of image) image state target) (target_form (sizes_of image).nr target)))
      (or_none (cond (state_limits (sizes_of image) image state target) (cond (input_passes Target (sizes_of image) image (file_words (sizes_of image).nr target)) 0 16) 13)))

  pub only_13_16 : (files_number image state target ≡ 0 → ⊥) → (files_number image state target ≡ 13) ⊎ (files_number image state target ≡ 16)
  only_13_16 h = subst (λ (k : ℕ). (k ≡ 0 → ⊥) → (k ≡ 13) ⊎ (k ≡ 16)) (sym tests) (left_13_16 _ _ _ _) h
