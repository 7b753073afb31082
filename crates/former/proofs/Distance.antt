-- Request 8: D stands behind the answer that it was, and a label's line begins with the line that it was. Assumes nothing.
use mathlib.Core.Path.{◌≡◌, refl, sym, ap, ◌∙◌}
use mathlib.Core.Bool.{Bool, true, false, cond, true≢false}
use mathlib.Core.List.{List, [], ◌∷◌, ◌++◌, append-nil}
use Prim.Native.Nat.{ℕ, ◌+◌, ◌*◌, ◌≤◌, ◌<◌}
use native.Mathlib.Nat.{zero-add}
use native.Mathlib.Omega.{arith}
use lib.Dec.{eqb}
use lib.ListN.{length, take, drop, length-append}
use lib.Seq.{take_at, take-take}
use borrow.Author.Tests.{eqb-true, eqb-false, eq-eqb, ne_eqb}
use Rattle.word.specs.Buffer.{joined}
use Rattle.word.specs.Word.{nat_at, pattern_at, pattern_bytes}
use Rattle.word.proofs.Joined.{part_joined}
use Rattle.word.proofs.Words.{nat_part, length_bytes}
use Rattle.hexadecimal.specs.Hex.{hex_digits}
use Rattle.hexadecimal.proofs.Hex.{length_hex}
use Rattle.image.specs.Order.{or_else}
use Rattle.image.specs.Sizes.{command_count}
use Rattle.image.specs.Layout.{sizes_of}
use Rattle.image.proofs.Ordering.{none}
use Rattle.interface.specs.Calls.{cold_number, cold_answer, solve_number, distance_after, solve_answer}
use Rattle.interface.proofs.Guaranteed.{solve_length}
use Rattle.intake.specs.Intake.{intake_number, intake_image}
use Rattle.word_file.specs.WordFile.{file_words}
use Rattle.text.specs.Text.{distance_digits, line, lines, refusal}
use Rattle.text.proofs.Written.{length_line, line_begins}
use Rattle.label_text.specs.Label.{files_number, image_text, label_text}
use Rattle.former.specs.Version.{before_distance}
use Rattle.former.specs.Former as former
use Rattle.former.specs.Laws.{Grown, Lengthened}
use Rattle.former.proofs.Calls.{Fits, image_same, cold_same, solvable_same, front_same}
use Rattle.former.proofs.Sheets.{FitsSheet, files_same, intake_same, sheet_image_lem, page_number_same, sheet_page_lem, page_text_same}

-- ---- every image and every sheet does without request 8
fits : (image : List ℕ) → Fits before_distance (sizes_of image)
fits image = record { no_targets = λ e. absurd (true≢false e); one_step = λ e. absurd (true≢false e); nearest = refl }

fits_sheet : (sheet : List ℕ) → FitsSheet before_distance sheet
fits_sheet sheet = record { no_targets = λ e. absurd (true≢false e); one_step = λ e. absurd (true≢false e); nearest = refl }

-- ---- a solve
-- eight bytes more on either side
eight_more : (n room : ℕ) → eqb (room + 8) (n + 8) ≡ eqb room (n + 0)
eight_more n room = by (eqb room (n + 0)) refl
  where
    by : (t : Bool) → eqb room (n + 0) ≡ t → eqb (room + 8) (n + 8) ≡ t
    by true q = eq-eqb (room + 8) (n + 8) (omega (arith, eqb-true room (n + 0) q))
    by false q = ne_eqb (room + 8) (n + 8) (λ e. eqb-false room (n + 0) q (omega arith))

pub grown : (image state target start : List ℕ) (room : ℕ) → Grown image state target start room
unfolding cold_number former.cold_number solve_number former.solve_number solve_answer former.solve_answer
grown image state target start room =
    let none : before_distance.targets ≡ false → target ≡ [] = λ e. absurd (true≢false e) in
    let k = (sizes_of image).sweeps in
    record {
      cold_number_lem = rw (image_same before_distance image (fits image));
      cold_answer_lem = cold_same before_distance image (fits image);
      number = rw (solvable_same before_distance image (fits image) state target start none, eight_more (8 * command_count (sizes_of image)) room);
      answer = rw (front_same before_distance image (fits image) state target start none k, append-nil (former.commands_and_bounds before_distance image state target start k));
    }

-- ---- a label's lines
-- part i of parts of m bytes, of which the first 17 are x
part_begins : (f : ℕ → List ℕ) (m n i : ℕ) (x : List ℕ) → 17 ≤ m → ((j : ℕ) → j < n → length (f j) ≡ m) → i < n → take 17 (f i) ≡ x → take 17 (drop (m * i) (joined f n)) ≡ x
part_begins f m n i x h k l e = sym (take-take 17 m (drop (m * i) (joined f n)) h) ∙ ap (take 17) (part_joined f m n k i l) ∙ e

-- command and bound of an answer, as a line begins with them
abbrev beginning : ℕ → List ℕ → ℕ → List ℕ
beginning n answer i = hex_digits 8 (nat_at answer (4 * i)) ++ 32 ∷ [] ++ hex_digits 8 (nat_at answer (4 * (n + i)))

today_begins : (n : ℕ) (answer : List ℕ) (i : ℕ) → i < n → take 17 (drop ((19 + distance_digits (pattern_at answer (8 * n))) * i) (lines n answer n)) ≡ beginning n answer i
unfolding lines
today_begins n answer i l =
    let D = pattern_at answer (8 * n) in
    part_begins (λ (i : ℕ). line (nat_at answer (4 * i)) (nat_at answer (4 * (n + i))) D) (19 + distance_digits D) n i (beginning n answer i) (omega arith)
    (λ j m. length_line (nat_at answer (4 * j)) (nat_at answer (4 * (n + j))) (distance_digits D) D) l
    (line_begins (nat_at answer (4 * i)) (nat_at answer (4 * (n + i))) (distance_digits D) D)

former_begins : (n : ℕ) (answer : List ℕ) (i : ℕ) → i < n → take 17 (drop (18 * i) (former.lines before_distance n answer n)) ≡ beginning n answer i
unfolding former.lines former.line_of
former_begins n answer i l =
    part_begins (λ (i : ℕ). beginning n answer i ++ 10 ∷ []) 18 n i (beginning n answer i) (omega arith)
    (λ j m. omega (arith, length-append (beginning n answer j) (10 ∷ []), size j)) l (take_at (beginning n answer i) (10 ∷ []) 17 (size i))
  where
    size : (j : ℕ) → length (beginning n answer j) ≡ 17
    size j =
        let c = hex_digits 8 (nat_at answer (4 * j)) in
        let b = hex_digits 8 (nat_at answer (4 * (n + j))) in
        omega (arith, length-append (c ++ 32 ∷ []) b, length-append c (32 ∷ []), length_hex 8 (nat_at answer (4 * j)), length_hex 8 (nat_at answer (4 * (n + j))))

-- a number in front of what was added
nat_front : (xs ys : List ℕ) (at : ℕ) → at + 4 ≤ length xs → nat_at (xs ++ ys) at ≡ nat_at xs at
nat_front xs ys at h =
    ap (nat_at (xs ++ ys)) (sym (zero-add at)) ∙ sym (nat_part 4 (xs ++ ys) 0 (length xs) at h) ∙ ap (λ (l : List ℕ). nat_at l at) (take_at xs ys (length xs) refl)

-- so both begin alike
begin_alike : (image state target start : List ℕ) (i : ℕ) → i < command_count (sizes_of image)
    → beginning (command_count (sizes_of image)) (solve_answer image state target start) i ≡ beginning (command_count (sizes_of image)) (former.solve_answer before_distance image state target start) i
begin_alike image state target start i l =
    let n = command_count (sizes_of image) in
    let was = former.solve_answer before_distance image state target start in
    let D = distance_after image state target start (sizes_of image).sweeps in
    let g = (grown image state target start 0).answer in
    let size : length was ≡ 8 * n = omega (arith, ap length g, length-append was (pattern_bytes D), length_bytes 8 D, solve_length image state target start) in
    rw (g, nat_front was (pattern_bytes D) (4 * i) (omega arith), nat_front was (pattern_bytes D) (4 * (n + i)) (omega arith))

-- ---- a label
module _ (image state target : List ℕ) where
  text_refused : (files_number image state target ≡ 0 → ⊥) → image_text image state target ≡ former.image_text before_distance image state target
  unfolding image_text former.image_text
  text_refused h = rw (← (files_same before_distance image state target (fits image)), ne_eqb (files_number image state target) 0 h)

  module _ (e : files_number image state target ≡ 0) (i : ℕ) (l : i < command_count (sizes_of image)) where
    abbrev answer : List ℕ
    answer = solve_answer image (file_words (sizes_of image).nx state) (file_words (sizes_of image).nr target) (cold_answer image)

    text_begins : take 17 (drop ((19 + distance_digits (pattern_at answer (8 * command_count (sizes_of image)))) * i) (image_text image state target))
        ≡ take 17 (drop (18 * i) (former.image_text before_distance image state target))
    unfolding image_text former.image_text
    text_begins =
        let n = command_count (sizes_of image) in
        rw (← (files_same before_distance image state target (fits image)), e, ← (cold_same before_distance image (fits image)))
        (today_begins n answer i l
        ∙ begin_alike image (file_words (sizes_of image).nx state) (file_words (sizes_of image).nr target) (cold_answer image) i l
        ∙ sym (former_begins n (former.solve_answer before_distance image (file_words (sizes_of image).nx state) (file_words (sizes_of image).nr target) (cold_answer image)) i l))

pub lengthened : (sheet state target : List ℕ) (room : ℕ) → Lengthened sheet state target room
unfolding label_text former.label_text
lengthened sheet state target room = record {
  number = intake_same before_distance sheet (fits_sheet sheet) room;
  image = sheet_image_lem before_distance sheet (fits_sheet sheet);
  page_number_lem = page_number_same before_distance sheet (fits_sheet sheet) room;
  page = sheet_page_lem before_distance sheet (fits_sheet sheet);
  printed_page = page_text_same before_distance sheet (fits_sheet sheet);
  refused = λ h. rw (← (sheet_image_lem before_distance sheet (fits_sheet sheet)), ← (intake_same before_distance sheet (fits_sheet sheet) (length image))) (by (eqb number 0) refl h);
  begins = λ e i l. let p = none number (files_number image state target) e in
      rw (← (sheet_image_lem before_distance sheet (fits_sheet sheet)), ← (intake_same before_distance sheet (fits_sheet sheet) (length image)), p.0)
      (text_begins image state target p.1 i l);
}
  where
    image : List ℕ
    image = intake_image sheet

    number : ℕ
    number = intake_number sheet (length image)

    by : (t : Bool) → eqb number 0 ≡ t → (or_else number (files_number image state target) ≡ 0 → ⊥)
        → cond t (image_text image state target) (refusal number) ≡ cond t (former.image_text before_distance image state target) (refusal number)
    by true q h = text_refused image state target (λ e. h (rw q e))
    by false q h = refl
