-- The number of the files, by their tests: what each failing test gives, and what number 0 says of the files. Assumes nothing.
use mathlib.Core.Path.{◌≡◌, refl, sym, ◌∙◌}
use mathlib.Core.Bool.{Bool, true, false, cond}
use mathlib.Core.List.{List}
use Prim.Native.Nat.{ℕ, ◌*◌, ◌≤◌}
use native.Mathlib.Omega.{arith}
use lib.Dec.{eqb, lit<}
use lib.ListN.{length}
use borrow.Author.Tests.{eqb-true, eqb-false, eq-eqb, ne_eqb}
use Rattle.image.proofs.Ordering.{passed}
use Rattle.image.specs.declared.Sizes.{Sizes}
use Rattle.image.specs.declared.Input.TheVariants.{State}
use Rattle.interface.specs.Calls.{input_passes}
use Rattle.word_file.specs.WordFile.{is_word_file, file_words}
use Rattle.word_file.proofs.WordFile.{file_length}
use Rattle.label_files.specs.Files.{form_number, target_form}

-- ---- the target's form
module _ (nr : ℕ) (target : List ℕ) where
  pub none_due : nr ≡ 0 → target_form nr target ≡ true
  unfolding target_form
  none_due e = rw (eq-eqb nr 0 e)

  pub some_due : (nr ≡ 0 → ⊥) → target_form nr target ≡ is_word_file nr target
  unfolding target_form
  some_due h = rw (ne_eqb nr 0 h)

  target_long : target_form nr target ≡ true → 8 * nr ≤ length target
  target_long e = by (eqb nr 0) refl
    where
      by : (b : Bool) → eqb nr 0 ≡ b → 8 * nr ≤ length target
      by true q = omega (arith, eqb-true nr 0 q)
      by false q = omega (arith, file_length nr target (sym (some_due (eqb-false nr 0 q)) ∙ e))

-- ---- the tests in order: the state's form and its limits, then the target's form
abbrev pub in_order : Bool → Bool → Bool → ℕ
in_order form limits target = cond form (cond limits (cond target 0 16) 13) 13

pub unformed_no : (form limits : Bool) → in_order form limits false ≡ 0 → ⊥
unformed_no true true e = omega arith
unformed_no true false e = omega arith
unformed_no false limits e = omega arith

-- the digits of both files are there to read
pub record Long (z : Sizes) (state target : List ℕ) : Type 0 where
  pub of_state : 8 * z.nx ≤ length state
  pub of_target : 8 * z.nr ≤ length target

module _ (z : Sizes) (image state target : List ℕ) where
  abbrev pub state_form : Bool
  state_form = is_word_file z.nx state

  abbrev pub state_limits : Bool
  state_limits = input_passes State z image (file_words z.nx state)

  pub malformed : state_form ≡ false → form_number z image state target ≡ 13
  unfolding form_number
  malformed f = rw f

  -- whatever the target
  pub beyond : state_form ≡ true → state_limits ≡ false → form_number z image state target ≡ 13
  unfolding form_number
  beyond f l = rw (f, l)

  pub mistargeted : state_form ≡ true → state_limits ≡ true → target_form z.nr target ≡ false → form_number z image state target ≡ 16
  unfolding form_number
  mistargeted f l t = rw (f, l, t)

  pub formed : state_form ≡ true → state_limits ≡ true → target_form z.nr target ≡ true → form_number z image state target ≡ 0
  unfolding form_number
  formed f l t = rw (f, l, t)

  pub by_tests : form_number z image state target ≡ in_order state_form state_limits (target_form z.nr target)
  unfolding form_number
  by_tests = refl

  pub long : form_number z image state target ≡ 0 → Long z state target
  long e =
      let a = passed state_form 13 _ (lit< tt) (sym by_tests ∙ e) in
      let b = passed state_limits 13 _ (lit< tt) a.1 in
      let c = passed (target_form z.nr target) 16 _ (lit< tt) b.1 in
      record { of_state = omega (arith, file_length z.nx state a.0); of_target = target_long z.nr target c.0 }
