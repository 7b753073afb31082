-- The definitions of today, from image to label, over a version: each has the name and the text that it has today, and a request that the
-- version may lack shows as a case. All else is cited. That with all four requests they are today's is a law (`restated`). Definitions only.
use Rattle.std.specs.Prelude.{ℕ, ◌+◌, ◌-◌, ◌*◌, ◌/◌, ◌%◌, ◌^◌, Bool, cond, ◌&&◌, ◌||◌, List, [], ◌∷◌, ◌++◌, map, eqb, leb, ℤ, pos, nat_abs, ◌+ℤ◌, ◌-ℤ◌, ◌*ℤ◌, Float, Option, drop, length, Result, Ok, Err}
use Rattle.std.specs.Int.Signed.{le_z}
use Rattle.refusal.specs.Number.{number}
use Rattle.refusal.specs.declared.Refusal.{Refusal}
use Rattle.refusal.specs.declared.Refusal.TheVariants.{Misplaced, Size}
use Rattle.word.specs.Word.{nat_at, word_at, pattern_at, words_at, words_out, pattern_bytes}
use Rattle.hexadecimal.specs.Hex.{hex_digits}
use Rattle.word.specs.Buffer.{joined}
use Rattle.word.specs.Format.{top}
use Rattle.double.specs.Double.{convert, converted_number, double_value, rule_of}
use Rattle.double.specs.declared.Rounding.{Rounding}
use Rattle.double.specs.declared.Rounding.TheVariants.{Down, Up, Nearest}
use Rattle.gradient.specs.Index.{tab, all_to}
use Rattle.gradient.specs.Problem.{Command, Problem, cold_start}
use Rattle.gradient.specs.Scheme.{iterate}
use Rattle.gradient.specs.Bounds.{range_p, range_y, range_a, range_b, error_after}
use Rattle.gradient.specs.Demand.{every2, start_within}
use Rattle.image.specs.declared.Sizes.{Sizes}
use Rattle.image.specs.declared.Input.{Input}
use Rattle.image.specs.declared.Input.TheVariants.{State, Target}
use Rattle.image.specs.Order.{check, first_fault, or_else, buffer_number}
use Rattle.image.specs.Sizes.{command_count, input_count, sound}
use Rattle.image.specs.Layout.{sizes_of, gain_place, lower_place, entry_at}
use Rattle.image.specs.Checks.{word_test}
use Rattle.optimum.specs.Optimum.{optimum_bound}
use Rattle.interface.specs.Tables.{symmetry_test, margin_test, total_test, least_margin, margin_of, largest_total}
use Rattle.interface.specs.Calls.{values_of, start_of}
use Rattle.line.specs.Line.{line_at}
use Rattle.line.specs.declared.Frame.{Frame}
use Rattle.frame.specs.declared.Due.{Due}
use Rattle.frame.specs.Frame.{Table, table, limit_table, count_in, due_in, frame_sizes, is_table_entry, is_input_limit, not_below_zero, converted_word, value_of, value_double}
use Rattle.lines.specs.Lines.{size_words}
use Rattle.sheet.specs.Sheet.{first}
use Rattle.page_line.specs.declared.Effect.{Effect}
use Rattle.page_line.specs.Effect.{effect_of, line_text}
use Rattle.word_file.specs.WordFile.{is_word_file, file_words}
use Rattle.text.specs.Text.{line, printed}
use Rattle.label_files.specs.Files.{target_form}
use Rattle.former.specs.Version.{Version}

module _ (v : Version) where
  -- ---- the cases
  -- what request 1 added to a list
  abbrev pub of_targets : {A : Type 0} → List A → List A
  of_targets l = cond v.targets l []

  -- how many lows an image has, and as many highs: "n lows and n highs"; without request 3 nu, those of a motor for all its steps
  abbrev pub limit_count : Sizes → ℕ
  limit_count z = cond v.horizon (command_count z) z.nu

  -- which of them command k has: "the limits of its own step"; without request 3 those of its motor, "k mod nu"
  abbrev pub limit_of : Sizes → ℕ → ℕ
  limit_of z k = cond v.horizon k (k % z.nu)

  -- ---- image: how many words, and where each stands
  abbrev pub body_count : Sizes → ℕ
  body_count z =
      command_count z * command_count z + command_count z * z.nx + 2 * limit_count z + 1 + z.nx + cond v.targets (command_count z * z.nr + z.nr) 0

  abbrev pub upper_place : Sizes → ℕ
  upper_place z = lower_place z + 4 * limit_count z

  abbrev pub momentum_place : Sizes → ℕ
  momentum_place z = upper_place z + 4 * limit_count z

  abbrev pub state_limit_place : Sizes → ℕ
  state_limit_place z = momentum_place z + 4

  abbrev pub target_gain_place : Sizes → ℕ
  target_gain_place z = state_limit_place z + 4 * z.nx

  abbrev pub target_limit_place : Sizes → ℕ
  target_limit_place z = target_gain_place z + 4 * (command_count z * z.nr)

  abbrev pub gains_from : Input → Sizes → ℕ
  gains_from State z = gain_place z
  gains_from Target z = target_gain_place z

  abbrev pub limits_from : Input → Sizes → ℕ
  limits_from State z = state_limit_place z
  limits_from Target z = target_limit_place z

  unfoldable pub lower_at : Sizes → List ℕ → ℕ → ℤ
  lower_at z s k = word_at s (lower_place z + 4 * limit_of z k)

  unfoldable pub upper_at : Sizes → List ℕ → ℕ → ℤ
  upper_at z s k = word_at s (upper_place z + 4 * limit_of z k)

  unfoldable pub momentum_at : Sizes → List ℕ → ℤ
  momentum_at z s = word_at s (momentum_place z)

  unfoldable pub limit_at : Input → Sizes → List ℕ → ℕ → ℤ
  limit_at i z s j = word_at s (limits_from i z + 4 * j)

  abbrev pub gains_of : Input → Sizes → List ℕ → ℕ → List ℤ
  gains_of i z s k = words_at (drop (gains_from i z + 4 * (k * input_count i z)) s) 0 (input_count i z)

  abbrev pub limits_of : Input → Sizes → List ℕ → List ℕ
  limits_of i z s = map nat_abs (words_at s (limits_from i z) (input_count i z))

  unfoldable pub command_at : Sizes → List ℕ → ℕ → Command
  command_at z s k = record {
    lower = lower_at z s k;
    upper = upper_at z s k;
    row = tab (entry_at z s k) (command_count z);
    gains = gains_of State z s k ++ of_targets (gains_of Target z s k);
  }

  unfoldable pub problem_at : Sizes → List ℕ → Problem
  problem_at z s = record {
    b = z.b;
    W = z.w;
    iterations = z.sweeps;
    momentum = nat_abs (momentum_at z s);
    commands = tab (command_at z s) (command_count z);
    input_limits = limits_of State z s ++ of_targets (limits_of Target z s);
  }

  unfoldable pub problem_of : List ℕ → Problem
  problem_of s = problem_at (sizes_of s) s

  -- ---- image: checks 6, 3, 6 and 5; without request 1 "word 6 .. not 0" is 3, so that nr, which `sizes_of` reads there, is 0
  unfoldable pub head_number : List ℕ → ℕ
  head_number s =
      first_fault
      (check 6 (leb 32 (length s))
      ∷ check 3 (sound (sizes_of s))
      ∷ check 3 (v.targets || eqb (nat_at s 24) 0)
      ∷ check 3 (eqb (nat_at s 28) 0)
      ∷ check 6 (eqb (length s) (4 * (8 + body_count (sizes_of s))))
      ∷ [])

  abbrev pub limit_test : Input → Sizes → List ℕ → ℕ → Bool
  limit_test i z s j = le_z (pos 0) (limit_at i z s j)

  unfoldable pub body_number : Sizes → List ℕ → ℕ
  body_number z s =
      first_fault
      (check 5 (all_to (word_test z s) (body_count z))
      ∷ check 5 (all_to (limit_test State z s) z.nx)
      ∷ of_targets (check 5 (all_to (limit_test Target z s) z.nr) ∷ []))

  -- ---- interface: checks 7, 17 and 8 to 12
  abbrev pub order_test : Sizes → List ℕ → ℕ → Bool
  order_test z s i = le_z (lower_at z s i) (upper_at z s i)

  abbrev pub stop_test : Sizes → List ℕ → ℕ → Bool
  stop_test z s i = le_z (lower_at z s i) (pos 0) && le_z (pos 0) (upper_at z s i)

  unfoldable pub momentum_range : Sizes → List ℕ → Bool
  momentum_range z s = le_z (pos 0) (momentum_at z s) && le_z (momentum_at z s) (pos (2 ^ z.b - 1))

  unfoldable pub momentum_ratio : Sizes → List ℕ → Bool
  momentum_ratio z s =
      let f = pos (2 ^ z.b) in
      let m = momentum_at z s in
      le_z ((f -ℤ m) *ℤ (f -ℤ m) *ℤ largest_total z s) ((f +ℤ m) *ℤ (f +ℤ m) *ℤ least_margin z s)

  unfoldable pub range_test : Sizes → List ℕ → ℕ → Bool
  range_test z s i = leb (range_p (problem_at z s) (command_at z s i)) (top z.w) && leb (range_y (problem_at z s) (command_at z s i)) (top z.w)

  unfoldable pub row_test : Sizes → List ℕ → ℕ → Bool
  row_test z s i = leb (range_a (problem_at z s) (command_at z s i) + range_b (problem_at z s) (command_at z s i)) (top z.w)

  unfoldable pub tables_number : Sizes → List ℕ → ℕ
  tables_number z s =
      let n = command_count z in
      first_fault
      (check 7 (all_to (order_test z s) n)
      ∷ check 17 (all_to (stop_test z s) n)
      ∷ check 8 (all_to (symmetry_test z s) n)
      ∷ check 9 (all_to (margin_test z s) n)
      ∷ check 10 (all_to (total_test z s) n)
      ∷ check 11 (momentum_range z s)
      ∷ check 11 (momentum_ratio z s)
      ∷ check 12 (all_to (range_test z s) n)
      ∷ check 12 (all_to (row_test z s) n)
      ∷ [])

  unfoldable pub image_number : List ℕ → ℕ
  image_number s = or_else (head_number s) (or_else (body_number (sizes_of s) s) (tables_number (sizes_of s) s))

  -- ---- interface: the calls and their answers; without request 1 a solve has no target, and what is given for one has no say
  unfoldable pub inputs_of : Sizes → List ℕ → List ℕ → List ℤ
  inputs_of z state target = values_of State z state ++ of_targets (values_of Target z target)

  unfoldable pub cold_number : List ℕ → ℕ → ℕ
  cold_number image room = or_else (image_number image) (buffer_number (4 * command_count (sizes_of image)) room)

  unfoldable pub cold_answer : List ℕ → List ℕ
  cold_answer image = words_out (cold_start (problem_of image))

  unfoldable pub values_within : Input → Sizes → List ℕ → List ℕ → Bool
  values_within i z image values = every2 (λ (x : ℤ) (b : ℕ). leb (nat_abs x) b) (values_of i z values) (limits_of i z image)

  abbrev pub input_passes : Input → Sizes → List ℕ → List ℕ → Bool
  input_passes i z image values = eqb (length values) (4 * input_count i z) && values_within i z image values

  unfoldable pub call_number : List ℕ → List ℕ → List ℕ → List ℕ → ℕ
  call_number image state target start =
      let z = sizes_of image in
      let p = problem_of image in
      first_fault
      (check 13 (input_passes State z image state)
      ∷ of_targets (check 16 (input_passes Target z image target) ∷ [])
      ++ check 14 (eqb (length start) (4 * command_count z))
      ∷ check 14 (start_within p (start_of z start))
      ∷ [])

  unfoldable pub solvable_number : List ℕ → List ℕ → List ℕ → List ℕ → ℕ
  solvable_number image state target start = or_else (image_number image) (call_number image state target start)

  -- without request 8 "8n bytes"
  abbrev pub answer_length : Sizes → ℕ
  answer_length z = 8 * command_count z + cond v.distance 8 0

  unfoldable pub solve_number : List ℕ → List ℕ → List ℕ → List ℕ → ℕ → ℕ
  solve_number image state target start room = or_else (solvable_number image state target start) (buffer_number (answer_length (sizes_of image)) room)

  unfoldable pub commands_after : List ℕ → List ℕ → List ℕ → List ℕ → ℕ → List ℤ
  commands_after image state target start k = (iterate (problem_of image) (inputs_of (sizes_of image) state target) (start_of (sizes_of image) start) k).z

  unfoldable pub bounds_after : List ℕ → ℕ → List ℕ
  bounds_after image k = (error_after (problem_of image) k).e

  unfoldable pub distance_after : List ℕ → List ℕ → List ℕ → List ℕ → ℕ → ℕ
  distance_after image state target start k =
      optimum_bound (problem_of image) (margin_of image) (inputs_of (sizes_of image) state target) (commands_after image state target start k)

  abbrev pub commands_and_bounds : List ℕ → List ℕ → List ℕ → List ℕ → ℕ → List ℕ
  commands_and_bounds image state target start k = words_out (commands_after image state target start k) ++ words_out (map pos (bounds_after image k))

  abbrev pub answer_after : List ℕ → List ℕ → List ℕ → List ℕ → ℕ → List ℕ
  answer_after image state target start k =
      commands_and_bounds image state target start k ++ cond v.distance (pattern_bytes (distance_after image state target start k)) []

  unfoldable pub solve_answer : List ℕ → List ℕ → List ℕ → List ℕ → List ℕ
  solve_answer image state target start = answer_after image state target start (sizes_of image).sweeps

  -- ---- frame: line 01; without request 1 the fourth value byte is one of "the three 0 bytes"
  abbrev pub frame_zeros : ℕ → Bool
  frame_zeros bits = (v.targets || eqb (bits / 0x1_0000_0000 % 256) 0) && eqb (bits % 65536) 0

  unfoldable pub head_of : Result Frame Refusal → Result Sizes Refusal
  head_of (Err why) = Err why
  head_of (Ok f) =
      cond (eqb f.kind 1 && frame_zeros f.bits) (cond (sound (frame_sizes f.row f.column f.bits)) (Ok (frame_sizes f.row f.column f.bits)) (Err Size)) (Err Misplaced)

  -- ---- frame: the lines due after it; without request 3 "row the motor, column 0", without request 1 neither 08 nor 09
  abbrev pub limits : ℕ → Sizes → Table
  limits kind z = cond v.horizon (limit_table kind z.nu z.steps) (table kind z.nu 1)

  abbrev pub tables : Sizes → List Table
  tables z =
      table 2 (command_count z) (command_count z)
      ∷ table 3 (command_count z) z.nx
      ∷ limits 4 z
      ∷ limits 5 z
      ∷ table 6 1 1
      ∷ table 7 z.nx 1
      ∷ of_targets (table 8 (command_count z) z.nr ∷ table 9 z.nr 1 ∷ [])

  unfoldable pub total : Sizes → ℕ
  total z = count_in (tables z)

  unfoldable pub due_at : Sizes → ℕ → Due
  due_at z i = due_in (tables z) i

  -- ---- frame: the word of a line's double; without request 7 "02 and 03 down", 08 "rounded as 03"
  abbrev pub rounding_of : ℕ → Rounding
  rounding_of kind = cond (is_table_entry kind) (cond v.nearest Nearest Down) (cond (eqb kind 5) Down Up)

  unfoldable pub word_of : Sizes → ℕ → Float → Option ℤ
  word_of z kind x =
      cond (is_input_limit kind) (not_below_zero (convert (rule_of (rounding_of kind)) z.b z.w x)) (convert (rule_of (rounding_of kind)) z.b z.w x)

  abbrev pub value_number : Sizes → ℕ → Result Float Refusal → ℕ
  value_number z kind (Ok x) = converted_number (word_of z kind x)
  value_number z kind (Err why) = number why

  -- ---- lines: a line after line 01 by its place
  unfoldable pub line_value : Sizes → List ℕ → ℕ → Result Float Refusal
  line_value z s i = value_of (due_at z i) (line_at s (23 * (i + 1)))

  abbrev pub line_double : Sizes → List ℕ → ℕ → Float
  line_double z s i = value_double (line_value z s i)

  unfoldable pub line_fault : Sizes → List ℕ → ℕ → ℕ
  line_fault z s i = value_number z (due_at z i).kind (line_value z s i)

  unfoldable pub line_word : Sizes → List ℕ → ℕ → ℤ
  line_word z s i = converted_word (word_of z (due_at z i).kind (line_double z s i))

  -- ---- sheet: the number through lines and end, and the image
  abbrev pub end_number : Sizes → List ℕ → ℕ
  end_number z s = first_fault (check 4 (leb (length s) (23 * (total z + 1))) ∷ [])

  abbrev pub lines_number : Sizes → List ℕ → ℕ
  lines_number z s = first (line_fault z s) (total z) (end_number z s)

  abbrev pub lines_words : Sizes → List ℕ → List ℤ
  lines_words z s = size_words z ++ tab (line_word z s) (total z)

  -- (this one has the name `head_number` today, as image's has)
  abbrev pub after_head : Result Sizes Refusal → List ℕ → ℕ
  after_head (Ok z) s = lines_number z s
  after_head (Err why) s = number why

  abbrev pub head_words : Result Sizes Refusal → List ℕ → List ℤ
  head_words (Ok z) s = lines_words z s
  head_words (Err why) s = []

  unfoldable pub sheet_number : List ℕ → ℕ
  sheet_number s = after_head (head_of (line_at s 0)) s

  unfoldable pub sheet_words : List ℕ → List ℤ
  sheet_words s = cond (eqb (sheet_number s) 0) (head_words (head_of (line_at s 0)) s) []

  unfoldable pub sheet_image : List ℕ → List ℕ
  sheet_image s = words_out (sheet_words s)

  -- ---- intake: the checks of a sheet's tables, then the buffer's length
  abbrev pub own_tables : List ℕ → ℕ
  own_tables image = tables_number (sizes_of image) image

  unfoldable pub design_number : List ℕ → ℕ
  design_number sheet = or_else (sheet_number sheet) (own_tables (sheet_image sheet))

  unfoldable pub intake_number : List ℕ → ℕ → ℕ
  intake_number sheet room = or_else (design_number sheet) (buffer_number (length (sheet_image sheet)) room)

  abbrev pub intake_image : List ℕ → List ℕ
  intake_image sheet = sheet_image sheet

  -- ---- design_page, page_text: the page of a sheet, and what the page program prints
  abbrev pub word_double : Sizes → List ℕ → ℕ → Float
  word_double z s i = double_value z.b z.w (line_word z s i)

  abbrev pub line_effect : Sizes → List ℕ → ℕ → Effect
  line_effect z s i = effect_of (line_double z s i) (word_double z s i)

  unfoldable pub page_line : Sizes → List ℕ → ℕ → List ℕ
  page_line z s i = line_text (due_at z i) (line_effect z s i)

  abbrev pub lines_page : Sizes → List ℕ → List ℕ
  lines_page z s = joined (page_line z s) (total z)

  abbrev pub head_page : Result Sizes Refusal → List ℕ → List ℕ
  head_page (Ok z) s = lines_page z s
  head_page (Err why) s = []

  unfoldable pub sheet_page : List ℕ → List ℕ
  sheet_page s = head_page (head_of (line_at s 0)) s

  abbrev pub head_count : Result Sizes Refusal → ℕ
  head_count (Ok z) = total z
  head_count (Err why) = 0

  unfoldable pub design_count : List ℕ → ℕ
  design_count s = head_count (head_of (line_at s 0))

  unfoldable pub page_number : List ℕ → ℕ → ℕ
  page_number sheet room = or_else (design_number sheet) (buffer_number (44 * design_count sheet) room)

  unfoldable pub page_text : List ℕ → List ℕ
  page_text drive = printed (page_number drive (44 * design_count drive)) (sheet_page drive)

  -- ---- text: a label's lines; without request 8 "command, space, bound, 8 digits each"
  unfoldable pub line_of : ℕ → ℕ → ℕ → List ℕ
  line_of command bound D = cond v.distance (line command bound D) (hex_digits 8 command ++ 32 ∷ [] ++ hex_digits 8 bound ++ 10 ∷ [])

  unfoldable pub lines : ℕ → List ℕ → ℕ → List ℕ
  lines n answer k = joined (λ (i : ℕ). line_of (nat_at answer (4 * i)) (nat_at answer (4 * (n + i))) (pattern_at answer (8 * n))) k

  -- ---- label_files, label_text: what the label program prints
  unfoldable pub form_number : Sizes → List ℕ → List ℕ → List ℕ → ℕ
  form_number z image state target =
      first_fault
      (check 13 (is_word_file z.nx state)
      ∷ check 13 (input_passes State z image (file_words z.nx state))
      ∷ of_targets (check 16 (target_form z.nr target) ∷ []))

  unfoldable pub files_number : List ℕ → List ℕ → List ℕ → ℕ
  files_number image state target =
      let z = sizes_of image in
      or_else (form_number z image state target) (solve_number image (file_words z.nx state) (file_words z.nr target) (cold_answer image) (answer_length z))

  unfoldable pub image_text : List ℕ → List ℕ → List ℕ → List ℕ
  image_text image state target =
      let z = sizes_of image in
      printed (files_number image state target) (lines (command_count z) (solve_answer image (file_words z.nx state) (file_words z.nr target) (cold_answer image)) (command_count z))

  unfoldable pub label_text : List ℕ → List ℕ → List ℕ → List ℕ
  label_text drive state target = printed (intake_number drive (length (intake_image drive))) (image_text (intake_image drive) state target)
