-- The image of a sheet: its sizes, its words, and that its own checks up to 5 pass where the sheet's do. Assumes nothing.
use mathlib.Core.Path.{◌≡◌, sym, ap, ◌∙◌}
use mathlib.Core.Bool.{true}
use mathlib.Core.List.{List}
use Prim.Native.Nat.{ℕ, ◌+◌, ◌*◌, ◌<◌}
use native.Mathlib.Omega.{arith}
use lib.IntN.{pos}
use lib.ListN.{length, get_or, get_or-append}
use lib.Signed.{le_z}
use borrow.Author.Tests.{eq-eqb, le-leb}
use mir.Syntax.{w32}
use mir.Val.{of_z}
use mir.Facts.{Fits-of_z}
use Rattle.word.specs.Word.{nat_at, word_at, words_out}
use Rattle.word.proofs.Words.{length_words, word_of_words, nat_of_words}
use Rattle.gradient.specs.Index.{tab, all_to}
use Rattle.gradient.proofs.Tests.{all_of}
use Rattle.image.specs.Sizes.{command_count, input_count, body_count, sound, Sound, Whole}
use Rattle.image.specs.Layout.{sizes_of, limit_at, state_limit_place, limits_from, target_limit_place}
use Rattle.image.specs.Checks.{head_number, body_number, word_test, limit_test}
use Rattle.image.specs.declared.Sizes.{Sizes}
use Rattle.image.specs.declared.Input.{Input}
use Rattle.image.specs.declared.Input.TheVariants.{State, Target}
use Rattle.line.specs.Line.{line_at}
use Rattle.frame.specs.declared.Due.{Due}
use Rattle.frame.specs.Frame.{due_at, is_input_limit, total}
use Rattle.frame.proofs.Sized.{head_sound, head_true}
use Rattle.frame.proofs.Laws.{due_7, due_9, total_is}
use Rattle.lines.specs.Lines.{line_word, size_words}
use Rattle.sheet.specs.Sheet.{lines_words, sheet_image}
use Rattle.sheet.proofs.Answer.{Passing}
use Rattle.sheet.proofs.Fits.{input_limit, line_word_in, lines_fit}
use Rattle.sheet.proofs.Whole.{line_at_lem, long}

-- ---- the image of lines with sound sizes
module _ (z : Sizes) (s : List ℕ) (o : Sound z) where
  abbrev image : List ℕ
  image = words_out (lines_words z s)

  size_at : (k : ℕ) → k < 8 → nat_at image (4 * k) ≡ of_z w32 (get_or (size_words z) k (pos 0))
  size_at k h =
      nat_of_words (lines_words z s) k (λ j l. (Fits-of_z (lines_fit z s o j l)).fits) (omega (arith, long z s))
      ∙ ap (of_z w32) (get_or-append (size_words z) (tab (line_word z s) (total z)) (pos 0) k h)

  pub line_sizes : sizes_of image ≡ z
  unfolding sizes_of
  line_sizes = rw (size_at 0 (omega arith), size_at 1 (omega arith), size_at 2 (omega arith), size_at 3 (omega arith), size_at 4 (omega arith), size_at 5 (omega arith), size_at 6 (omega arith))

  pub line_size : length image ≡ 4 * (8 + body_count z)
  line_size = length_words (lines_words z s) ∙ ap (λ (k : ℕ). 4 * k) (long z s ∙ ap (λ (k : ℕ). 8 + k) (total_is z))

  pub line_word_lem : (i : ℕ) → i < body_count z → word_at image (4 * (8 + i)) ≡ line_word z s i
  line_word_lem i h =
      let l : i < total z = omega (arith, total_is z) in
      word_of_words (lines_words z s) (8 + i) (lines_fit z s o) (omega (arith, long z s)) ∙ line_at_lem z s i l

  -- checks 6, 3 and 6
  line_head : sound z ≡ true → head_number image ≡ 0
  unfolding head_number
  line_head e =
      rw (line_sizes, le-leb 32 (length image) (omega (arith, line_size)), e, eq-eqb (nat_at image 28) 0 (size_at 7 (omega arith)), eq-eqb (length image) (4 * (8 + body_count z)) line_size)

  -- check 5
  line_words : all_to (word_test z image) (body_count z) ≡ true
  line_words = all_of (word_test z image) (body_count z) (λ i h. rw (line_word_lem i h) (line_word_in z s i))

  -- a limit of an input, by its line
  line_limit : (i at : ℕ) → i < body_count z → is_input_limit (due_at z i).kind ≡ true → at ≡ 4 * (8 + i) → le_z (pos 0) (word_at image at) ≡ true
  line_limit i at h k e = rw (e, line_word_lem i h) (input_limit z s i k)

  line_limits : (v : Input) → all_to (limit_test v z image) (input_count v z) ≡ true
  unfolding limit_at
  line_limits v = all_of (limit_test v z image) (input_count v z) (λ j h. at v j h)
    where
      at : (v : Input) (j : ℕ) → j < input_count v z → le_z (pos 0) (word_at image (limits_from v z + 4 * j)) ≡ true
      at State j h =
          let n = command_count z in
          let i = n * n + n * z.nx + 2 * n + 1 + j in
          line_limit i (state_limit_place z + 4 * j) (omega arith)
          (ap (λ (d : Due). is_input_limit d.kind) (sym (due_7 z i (omega arith) (omega arith) (omega arith) (omega arith) (omega arith) (omega arith)))) (omega arith)
      at Target j h =
          let n = command_count z in
          let i = n * n + n * z.nx + 2 * n + 1 + z.nx + n * z.nr + j in
          line_limit i (target_limit_place z + 4 * j) (omega arith)
          (ap (λ (d : Due). is_input_limit d.kind) (sym (due_9 z i (omega arith) (omega arith) (omega arith) (omega arith) (omega arith) (omega arith) (omega arith) (omega (arith, total_is z))))) (omega arith)

  line_body : body_number z image ≡ 0
  unfolding body_number
  line_body = rw (line_words, line_limits State, line_limits Target)

-- ---- the image of a sheet that passes
module _ (s : List ℕ) (p : Passing s) where
  abbrev sizes : Sizes
  sizes = p.sizes

  sound_sizes : Sound sizes
  sound_sizes = head_sound (line_at s 0) sizes p.head

  pub image_is : sheet_image s ≡ words_out (lines_words sizes s)
  unfolding sheet_image
  image_is = ap words_out p.words

  pub image_sizes : sizes_of (sheet_image s) ≡ sizes
  image_sizes = rw image_is (line_sizes sizes s sound_sizes)

  pub image_whole : Whole (sizes_of (sheet_image s)) (sheet_image s)
  image_whole = rw (image_sizes, image_is) (record { sizes = sound_sizes; size = line_size sizes s sound_sizes })

  pub image_word : (i : ℕ) → i < body_count sizes → word_at (sheet_image s) (4 * (8 + i)) ≡ line_word sizes s i
  image_word i h = rw image_is (line_word_lem sizes s sound_sizes i h)

  pub image_head : head_number (sheet_image s) ≡ 0
  image_head = rw image_is (line_head sizes s sound_sizes (head_true (line_at s 0) sizes p.head))

  pub image_body : body_number (sizes_of (sheet_image s)) (sheet_image s) ≡ 0
  image_body = rw (image_sizes, image_is) (line_body sizes s sound_sizes)
