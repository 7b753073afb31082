-- A sheet whose line 01 needs none of the requests that a version lacks has the number, the image, the page and the label that it has by that
-- version. Assumes nothing.
use mathlib.Core.Path.{◌≡◌, refl, ap, ◌∙◌}
use mathlib.Core.Bool.{Bool, true, false, cond, ◌&&◌, ◌||◌}
use mathlib.Core.List.{List, [], ◌∷◌, ◌++◌}
use Prim.Native.Nat.{ℕ, ◌/◌, ◌%◌}
use lib.Dec.{eqb}
use lib.IntN.{ℤ}
use lib.Ieee.{Float}
use lib.ListN.{length}
use borrow.Author.Tests.{eqb-true, eq-eqb}
use Rattle.std.specs.Prelude.{Result, Ok, Err}
use Rattle.refusal.specs.declared.Refusal.{Refusal}
use Rattle.refusal.specs.declared.Refusal.TheVariants.{Misplaced, Size}
use Rattle.word.specs.Buffer.{joined}
use Rattle.word.proofs.Joined.{joined_cong}
use Rattle.double.specs.Double.{converted_number}
use Rattle.gradient.specs.Index.{tab}
use Rattle.gradient.proofs.Index.{tab_cong}
use Rattle.image.specs.declared.Sizes.{Sizes}
use Rattle.image.specs.declared.Input.TheVariants.{State}
use Rattle.image.specs.Order.{Check, check, first_fault, buffer_number}
use Rattle.image.specs.Sizes.{command_count, sound}
use Rattle.image.specs.Layout.{sizes_of}
use Rattle.image.proofs.Ordering.{none}
use Rattle.interface.specs.Calls.{answer_length, solve_number, solve_answer}
use Rattle.line.specs.Line.{line_at}
use Rattle.line.specs.declared.Frame.{Frame}
use Rattle.line.proofs.Laws.{framed}
use Rattle.frame.specs.Frame.{frame_sizes, frame_zeros, head_of, value_number, word_of}
use Rattle.frame.proofs.Sized.{differ, head_sizes}
use Rattle.lines.specs.Lines.{line_value, line_fault, line_word, size_words}
use Rattle.sheet.specs.Sheet.{lines_number, lines_words, head_number, head_words, sheet_number, sheet_words, sheet_image}
use Rattle.sheet.proofs.Answer.{passing}
use Rattle.sheet.proofs.Image.{image_sizes}
use Rattle.sheet.proofs.Reach.{first_cong}
use Rattle.intake.specs.Intake.{design_number, intake_number, intake_image, own_tables}
use Rattle.design_page.specs.Page.{page_line, lines_page, head_page, head_count, sheet_page, design_count, page_number}
use Rattle.word_file.specs.WordFile.{is_word_file, file_words}
use Rattle.text.specs.Text.{lines, refusal}
use Rattle.label_files.specs.Files.{target_form, form_number}
use Rattle.label_text.specs.Label.{files_number, image_text, label_text}
use Rattle.page_text.specs.Text.{page_text}
use Rattle.former.specs.Version.{Version}
use Rattle.former.specs.Former as former
use Rattle.former.specs.Laws.{SameSheet, fourth_byte, steps_byte}
use Rattle.former.proofs.Calls.{Fits, part, cold_same, solvable_same, same_calls, tables_same, within_same}
use Rattle.former.proofs.Due.{due_same, total_same}

-- ---- the lines after line 01
module _ (v : Version) (z : Sizes) (f : Fits v z) where
  word_is : (kind : ℕ) (x : Float) → word_of z kind x ≡ former.word_of v z kind x
  unfolding word_of former.word_of
  word_is kind x = rw f.nearest

  value_is : (kind : ℕ) (x : Result Float Refusal) → value_number z kind x ≡ former.value_number v z kind x
  value_is kind (Ok x) = ap converted_number (word_is kind x)
  value_is kind (Err why) = refl

  module _ (s : List ℕ) where
    value_same : (i : ℕ) → line_value z s i ≡ former.line_value v z s i
    unfolding line_value former.line_value
    value_same i = rw (due_same v z f i)

    fault_same : (i : ℕ) → line_fault z s i ≡ former.line_fault v z s i
    unfolding line_fault former.line_fault
    fault_same i = rw (value_same i, due_same v z f i) (value_is (former.due_at v z i).kind (former.line_value v z s i))

    word_same : (i : ℕ) → line_word z s i ≡ former.line_word v z s i
    unfolding line_word former.line_word
    word_same i = rw (value_same i, due_same v z f i, word_is (former.due_at v z i).kind)

    page_line_same : (i : ℕ) → page_line z s i ≡ former.page_line v z s i
    unfolding page_line former.page_line
    page_line_same i = rw (value_same i, due_same v z f i, word_same i)

    lines_same : lines_number z s ≡ former.lines_number v z s
    lines_same =
        rw (total_same v z f)
        (first_cong (line_fault z s) (former.line_fault v z s) (former.total v z) (former.end_number v z s) (former.end_number v z s) (λ k h. fault_same k) refl)

    words_same : lines_words z s ≡ former.lines_words v z s
    words_same =
        ap (λ (l : List ℤ). size_words z ++ l)
        (ap (tab (line_word z s)) (total_same v z f) ∙ tab_cong (line_word z s) (former.line_word v z s) (former.total v z) (λ i h. word_same i))

    page_same : lines_page z s ≡ former.lines_page v z s
    page_same = rw (total_same v z f) (joined_cong (page_line z s) (former.page_line v z s) (former.total v z) (λ i h. page_line_same i))

-- ---- the label of an image
module _ (v : Version) (image state target : List ℕ) (f : Fits v (sizes_of image)) where
  abbrev z : Sizes
  z = sizes_of image

  no_file : v.targets ≡ false → file_words z.nr target ≡ []
  unfolding file_words joined
  no_file e = rw (f.no_targets e)

  form_same : form_number z image state target ≡ former.form_number v z image state target
  unfolding form_number former.form_number target_form
  form_same =
      rw (within_same v z f image State (file_words z.nx state))
      (part v (λ (l : List Check). first_fault (check 13 (is_word_file z.nx state) ∷ check 13 (former.input_passes v State z image (file_words z.nx state)) ∷ l))
      (check 16 (target_form z.nr target) ∷ []) (λ e. rw (f.no_targets e)))

  -- the solve from the cold start: the buffer has the answer's length on either side
  pub files_same : files_number image state target ≡ former.files_number v image state target
  unfolding files_number former.files_number solve_number former.solve_number
  files_same =
      rw (
        form_same,
        cold_same v image f,
        solvable_same v image f (file_words z.nx state) (file_words z.nr target) (former.cold_answer v image) no_file,
        eq-eqb (answer_length z) (answer_length z) refl,
        eq-eqb (former.answer_length v z) (former.answer_length v z) refl,
      )

  -- its lines, with request 8
  module _ (d : v.distance ≡ true) where
    answer_same : solve_answer image (file_words z.nx state) (file_words z.nr target) (former.cold_answer v image)
        ≡ former.solve_answer v image (file_words z.nx state) (file_words z.nr target) (former.cold_answer v image)
    answer_same = (same_calls v image (file_words z.nx state) (file_words z.nr target) (former.cold_answer v image) 0 f d no_file).answer

    lines_same_text : (n : ℕ) (answer : List ℕ) (k : ℕ) → lines n answer k ≡ former.lines v n answer k
    unfolding lines former.lines former.line_of
    lines_same_text n answer k = rw d

    text_same : image_text image state target ≡ former.image_text v image state target
    unfolding image_text former.image_text
    text_same = rw (files_same, cold_same v image f, answer_same, lines_same_text (command_count z))

-- ---- line 01
-- one that needs none of the requests that a version lacks
pub record FitsSheet (v : Version) (s : List ℕ) : Type 0 where
  pub no_targets : v.targets ≡ false → fourth_byte (line_at s 0) ≡ 0
  pub one_step : v.horizon ≡ false → steps_byte s ≡ 1
  pub nearest : v.nearest ≡ true

pub head_same : (v : Version) (l : Result Frame Refusal) → (v.targets ≡ false → fourth_byte l ≡ 0) → head_of l ≡ former.head_of v l
unfolding head_of former.head_of
head_same v (Err why) h = refl
head_same v (Ok f) h =
    ap (λ (b : Bool). cond (eqb f.kind 1 && (b && frame_zeros f.bits)) (cond (sound (frame_sizes f.row f.column f.bits)) (Ok (frame_sizes f.row f.column f.bits)) (Err Size)) (Err Misplaced)) (by v.targets refl)
  where
    by : (t : Bool) → v.targets ≡ t → true ≡ t || eqb (f.bits / 0x1_0000_0000 % 256) 0
    by true e = refl
    by false e = let q : f.bits / 0x1_0000_0000 % 256 ≡ 0 = h e in rw q

-- nr of the sizes that it gives
nr_zero : (s : List ℕ) (z : Sizes) → head_of (line_at s 0) ≡ Ok z → fourth_byte (line_at s 0) ≡ 0 → z.nr ≡ 0
unfolding head_of
nr_zero s z q e =
    let p = framed (λ (l : Result Frame Refusal). (head_of l ≡ Ok z) × (fourth_byte l ≡ 0)) s 0 (λ h. let x = h.0 in differ (cc)) (λ h. let x = h.0 in differ (cc)) (q, e) in
    ap (λ (x : Sizes). x.nr) (head_sizes s 0 z q).1 ∙ p.1.1

-- ---- the sheet
module _ (v : Version) (s : List ℕ) (fit : FitsSheet v s) where
  same : head_of (line_at s 0) ≡ former.head_of v (line_at s 0)
  same = head_same v (line_at s 0) fit.no_targets

  fits : (z : Sizes) → head_of (line_at s 0) ≡ Ok z → Fits v z
  fits z q = record {
    no_targets = λ e. nr_zero s z q (fit.no_targets e);
    one_step = λ e. ap (λ (x : Sizes). x.steps) (head_sizes s 0 z q).1 ∙ fit.one_step e;
    nearest = fit.nearest;
  }

  after_same : (h : Result Sizes Refusal) → ((z : Sizes) → h ≡ Ok z → Fits v z)
      → (head_number h s ≡ former.after_head v h s) × (head_words h s ≡ former.head_words v h s) × (head_page h s ≡ former.head_page v h s) × (head_count h ≡ former.head_count v h)
  after_same (Ok z) k = let f = k z refl in (lines_same v z f s, words_same v z f s, page_same v z f s, total_same v z f)
  after_same (Err why) k = (refl, refl, refl, refl)

  sheet_number_lem : sheet_number s ≡ former.sheet_number v s
  unfolding sheet_number former.sheet_number
  sheet_number_lem = rw (← same) (after_same (head_of (line_at s 0)) fits).0

  pub sheet_image_lem : sheet_image s ≡ former.sheet_image v s
  unfolding sheet_image former.sheet_image sheet_words former.sheet_words
  sheet_image_lem = rw (sheet_number_lem, ← same, (after_same (head_of (line_at s 0)) fits).1)

  -- the sizes of the image of a sheet that passes
  pub image_fits : sheet_number s ≡ 0 → Fits v (sizes_of (sheet_image s))
  image_fits q = let p = passing s q in rw (image_sizes s p) (fits p.sizes p.head)

  design_same : design_number s ≡ former.design_number v s
  unfolding design_number former.design_number
  design_same = rw (← sheet_number_lem, ← sheet_image_lem) (by (eqb (sheet_number s) 0) refl)
    where
      by : (b : Bool) → eqb (sheet_number s) 0 ≡ b → cond b (own_tables (sheet_image s)) (sheet_number s) ≡ cond b (former.own_tables v (sheet_image s)) (sheet_number s)
      by true q = tables_same v (sizes_of (sheet_image s)) (image_fits (eqb-true (sheet_number s) 0 q)) (sheet_image s)
      by false q = refl

  pub intake_same : (room : ℕ) → intake_number s room ≡ former.intake_number v s room
  unfolding intake_number former.intake_number
  intake_same room = rw (design_same, sheet_image_lem)

  pub sheet_page_lem : sheet_page s ≡ former.sheet_page v s
  unfolding sheet_page former.sheet_page
  sheet_page_lem = rw (← same) (after_same (head_of (line_at s 0)) fits).2

  count_same : design_count s ≡ former.design_count v s
  unfolding design_count former.design_count
  count_same = rw (← same) (after_same (head_of (line_at s 0)) fits).3

  pub page_number_same : (room : ℕ) → page_number s room ≡ former.page_number v s room
  unfolding page_number former.page_number
  page_number_same room = rw (design_same, count_same)

  -- an accepted sheet passes lines and end
  abbrev number : ℕ
  number = intake_number s (length (intake_image s))

  pub passes : number ≡ 0 → sheet_number s ≡ 0
  unfolding intake_number design_number
  passes h = (none (sheet_number s) (own_tables (intake_image s)) (none (design_number s) (buffer_number (length (intake_image s)) (length (intake_image s))) h).0).0

  label_same : v.distance ≡ true → (state target : List ℕ) → label_text s state target ≡ former.label_text v s state target
  unfolding label_text former.label_text
  label_same d state target = rw (← sheet_image_lem, ← intake_same (length (intake_image s))) (by (eqb number 0) refl)
    where
      by : (b : Bool) → eqb number 0 ≡ b
          → cond b (image_text (intake_image s) state target) (refusal number) ≡ cond b (former.image_text v (intake_image s) state target) (refusal number)
      by true q = text_same v (intake_image s) state target (image_fits (passes (eqb-true number 0 q))) d
      by false q = refl

  pub page_text_same : page_text s ≡ former.page_text v s
  unfolding page_text former.page_text
  page_text_same = rw (page_number_same, count_same, sheet_page_lem)

  -- ---- the law, of a version with request 8
  pub same_sheet : v.distance ≡ true → (state target : List ℕ) (room : ℕ) → SameSheet v s state target room
  same_sheet d state target room = record {
    number = intake_same room;
    image = sheet_image_lem;
    page_number_lem = page_number_same room;
    page = sheet_page_lem;
    printed_page = page_text_same;
    label = label_same d state target;
  }
