-- Document 01, "Cases at the edges": "the starred cases together form one table", and those of the change requests stand with them. Each
-- line is one case; `holds` says what is computed of it, over the definitions that the calls' promises cite. Assumes nothing.
use Rattle.std.specs.Prelude.{Bool, true, ◌&&◌, List, [], ◌∷◌, ◌++◌, map, ℕ, suc, ◌+◌, ◌*◌, eqb, ℤ, pos, neg_ℤ, ◌*ℤ◌, length, take, drop}
use Prim.Native.String.{String}
use Rattle.std.specs.Float.{binary64}
use Rattle.std.specs.Float.Ieee.{of_bits}
use Rattle.word.specs.Ascii.{ascii}
use Rattle.word.specs.Word.{words_out, pattern_bytes}
use Rattle.double.specs.Double.{converted_number}
use Rattle.gradient.specs.Index.{tab}
use Rattle.gradient.specs.Vector.{zip_with}
use Rattle.gradient.specs.Problem.{Command, F}
use Rattle.gradient.specs.Demand.{every2}
use Rattle.optimum.specs.Optimum.{projected_step}
use Rattle.image.specs.declared.Sizes.{Sizes}
use Rattle.image.specs.Layout.{problem_of}
use Rattle.interface.specs.Tables.{eq_z, image_number}
use Rattle.interface.specs.Calls.{cold_answer, solve_number, solve_answer}
use Rattle.interface.specs.Demand.{with_sweeps}
use Rattle.frame.specs.Frame.{converted_word, word_of}
use Rattle.sheet.specs.Sample.{changed, former_lines, lines, mixed_lines, step_lines, target_lines, text}
use Rattle.intake.specs.Intake.{intake_image, intake_number}
use Rattle.design_page.specs.Page.{page_number, sheet_page}
use Rattle.label_text.specs.Label.{label_text}

-- a case, and what the document says of it
pub data Case : Type 0 where
  -- an image, a state, a target: from the cold start, the commands, the bounds and D after 1, 2, .. sweeps
  solves : List ℕ → ℤ → List ℤ → List (List ℤ) → List (List ℕ) → List ℕ → Case
  -- an image, a state, a target: fractions, whole numbers over a denominator, that equal their own held gradient step
  optimum : List ℕ → ℤ → List ℤ → ℕ → List ℤ → Case
  -- an image has a number
  numbers : List ℕ → ℕ → Case
  -- a solve on an image from its cold start with a state and a target has a number
  answers : List ℕ → ℤ → List ℤ → ℕ → Case
  -- a solve on an image from its cold start with a state, with a buffer of so many bytes, has a number
  rooms : List ℕ → ℤ → ℕ → ℕ → Case
  -- a double (its bits) becomes a word by a kind
  converts : ℕ → ℕ → ℤ → Case
  -- the intake of a sheet, with a buffer of the image's length, is accepted and writes the image
  writes : List ℕ → List ℕ → Case
  -- drive.hex, state.hex and target.hex have a label
  labels : List ℕ → List ℕ → List ℕ → List ℕ → Case
  -- line i of a sheet's page has a text
  prints : List ℕ → ℕ → String → Case
  -- the call for a sheet's page, with a buffer of so many bytes, has a number
  pages : List ℕ → ℕ → ℕ → Case

-- "all have b 4, W 8": S's sizes
abbrev sizes : Sizes
sizes = record { nu = 1; steps = 1; nx = 1; b = 4; w = 8; sweeps = 3; nr = 0 }

-- a negative word
abbrev minus : ℕ → ℤ
minus n = neg_ℤ (pos n)

-- a text and its byte 10
abbrev text_line : String → List ℕ
text_line line = ascii line ++ 10 ∷ []

-- the values of one command after 1, 2, .. sweeps, and those of two
abbrev one : {A : Type 0} → List A → List (List A)
one {A} xs = map (λ (x : A). x ∷ []) xs

abbrev both : {A : Type 0} → List A → List A → List (List A)
both {A} xs ys = zip_with (λ (x y : A). x ∷ y ∷ []) xs ys

-- the number of a solve from the cold start, with a buffer of so many bytes, and its answer
abbrev number_of : List ℕ → ℤ → List ℤ → ℕ → ℕ
number_of image x t room = solve_number image (words_out (x ∷ [])) (words_out t) (cold_answer image) room

abbrev answer_of : List ℕ → ℤ → List ℤ → List ℕ
answer_of image x t = solve_answer image (words_out (x ∷ [])) (words_out t) (cold_answer image)

-- the answers of n commands, n bounds and D each
abbrev answers_of : List (List ℤ) → List (List ℕ) → List ℕ → List (List ℕ)
answers_of zss ess ds =
    zip_with (λ (front : List ℕ) (d : ℕ). front ++ pattern_bytes d) (zip_with (λ (zs : List ℤ) (es : List ℕ). words_out zs ++ words_out (map pos es)) zss ess) ds

-- "the same image with s as its sweeps", s + 1, ..: each solve is accepted, with a buffer of its answer's length, and has its answer
unfoldable pub solves_from : ℕ → List ℕ → ℤ → List ℤ → List (List ℕ) → Bool
solves_from s image x t [] = true
solves_from s image x t (answer ∷ later) =
    eqb (number_of (with_sweeps s image) x t (length answer)) 0
    && every2 eqb (answer_of (with_sweeps s image) x t) answer
    && solves_from (suc s) image x t later

unfoldable pub holds : Case → Bool
holds (solves image x t zss ess ds) =
    eqb (length zss) (length ess) && eqb (length zss) (length ds) && solves_from 1 image x t (answers_of zss ess ds)
holds (optimum image x t N Ps) =
    let p = problem_of image in
    every2 (λ (r : Command) (P : ℤ). eq_z (projected_step p (x ∷ t) N Ps r) (pos (F p) *ℤ P)) p.commands Ps
holds (numbers image n) = eqb (image_number image) n
holds (answers image x t n) = eqb (number_of image x t 16) n
holds (rooms image x room n) = eqb (number_of image x [] room) n
holds (converts kind bits z) =
    eqb (converted_number (word_of sizes kind (of_bits binary64 bits))) 0 && eq_z (converted_word (word_of sizes kind (of_bits binary64 bits))) z
holds (writes sheet image) = eqb (intake_number sheet (length image)) 0 && every2 eqb (intake_image sheet) image
holds (labels drive state target label) = every2 eqb (label_text drive state target) label
holds (prints sheet i line) = every2 eqb (take 44 (drop (44 * i) (sheet_page sheet))) (text_line line)
holds (pages sheet room n) = eqb (page_number sheet room) n

-- ---- the images
-- S with a step factor, limits −l and l, a state limit
unfoldable pub S : ℕ → ℕ → ℕ → List ℕ
S beta l stateLimit =
    words_out (map pos (1 ∷ 1 ∷ 1 ∷ 4 ∷ 8 ∷ 3 ∷ 0 ∷ 0 ∷ 8 ∷ 16 ∷ []) ++ (minus l ∷ map pos (l ∷ beta ∷ stateLimit ∷ [])))

-- one motor, two steps, and H with rows (d, o), (o, d); otherwise S's values, the limits at both steps
unfoldable pub two : ℕ → ℕ → ℕ → List ℕ
two d o beta =
    words_out (map pos (1 ∷ 2 ∷ 1 ∷ 4 ∷ 8 ∷ 3 ∷ 0 ∷ 0 ∷ d ∷ o ∷ o ∷ d ∷ 16 ∷ 16 ∷ []) ++ (minus 20 ∷ minus 20 ∷ map pos (20 ∷ 20 ∷ beta ∷ 10 ∷ [])))

-- S with one target value of limit `targetLimit`, and −1 as its entry of the target table: h is the state less the target
unfoldable pub following : ℕ → List ℕ
following targetLimit =
    words_out (map pos (1 ∷ 1 ∷ 1 ∷ 4 ∷ 8 ∷ 3 ∷ 1 ∷ 0 ∷ 8 ∷ 16 ∷ []) ++ (minus 20 ∷ map pos (20 ∷ 0 ∷ 10 ∷ []) ++ (minus 16 ∷ pos targetLimit ∷ [])))

-- one motor, two steps, and H diagonal: step 0 has S's limits, step 1 limits of its own
unfoldable pub varying : ℕ → ℤ → ℤ → List ℕ
varying beta low high =
    words_out (map pos (1 ∷ 2 ∷ 1 ∷ 4 ∷ 8 ∷ 3 ∷ 0 ∷ 0 ∷ 8 ∷ 0 ∷ 0 ∷ 8 ∷ 16 ∷ 16 ∷ []) ++ (minus 20 ∷ low ∷ pos 20 ∷ high ∷ map pos (beta ∷ 10 ∷ [])))

-- S with limits of its own
unfoldable pub limited : ℤ → ℤ → List ℕ
limited low high = words_out (map pos (1 ∷ 1 ∷ 1 ∷ 4 ∷ 8 ∷ 3 ∷ 0 ∷ 0 ∷ 8 ∷ 16 ∷ []) ++ (low ∷ high ∷ map pos (0 ∷ 10 ∷ [])))

-- one motor, two steps, and H with rows (8, 1), (0, 8), which is not symmetric: step 0 has S's limits, step 1 limits of its own
unfoldable pub skewed : ℤ → ℤ → List ℕ
skewed low high =
    words_out (map pos (1 ∷ 2 ∷ 1 ∷ 4 ∷ 8 ∷ 3 ∷ 0 ∷ 0 ∷ 8 ∷ 1 ∷ 0 ∷ 8 ∷ 16 ∷ 16 ∷ []) ++ (minus 20 ∷ low ∷ pos 20 ∷ high ∷ map pos (0 ∷ 10 ∷ [])))

-- S with limits −l and l, a state and a target value, and half of each as h
unfoldable pub halved : ℕ → ℕ → ℕ → List ℕ
halved l state target =
    words_out (map pos (1 ∷ 1 ∷ 1 ∷ 4 ∷ 8 ∷ 3 ∷ 1 ∷ 0 ∷ 8 ∷ 8 ∷ []) ++ (minus l ∷ map pos (l ∷ 0 ∷ state ∷ 8 ∷ target ∷ [])))

-- H is 1, so M and A are 0; Φ is 1 and the state limit top, and the target's entry 1 count with limit `targetLimit`
unfoldable pub full : ℕ → List ℕ
full targetLimit =
    words_out (map pos (1 ∷ 1 ∷ 1 ∷ 4 ∷ 8 ∷ 3 ∷ 1 ∷ 0 ∷ 16 ∷ 16 ∷ []) ++ (minus 20 ∷ map pos (20 ∷ 0 ∷ 127 ∷ 1 ∷ targetLimit ∷ [])))

-- S with an entry of Φ of its own
unfoldable pub gained : ℕ → List ℕ
gained gain = words_out (map pos (1 ∷ 1 ∷ 1 ∷ 4 ∷ 8 ∷ 3 ∷ 0 ∷ 0 ∷ 8 ∷ gain ∷ []) ++ (minus 20 ∷ map pos (20 ∷ 0 ∷ 10 ∷ [])))

-- one motor, two steps, H with rows (8, 1), (1, 4) and β 5 counts: the margins are 7 and 3
unfoldable pub uneven : List ℕ
uneven =
    words_out (map pos (1 ∷ 2 ∷ 1 ∷ 4 ∷ 8 ∷ 3 ∷ 0 ∷ 0 ∷ 8 ∷ 1 ∷ 1 ∷ 4 ∷ 16 ∷ 16 ∷ []) ++ (minus 20 ∷ minus 20 ∷ map pos (20 ∷ 20 ∷ 5 ∷ 10 ∷ [])))

-- a sheet with b 20 and W 32, one sweep: H is 1 count, Φ 1, the limits −1536 and 1536, the state limit 256
abbrev far_lines : List ℕ
far_lines =
    0x0101010114200000010000
    ∷ 0x0200003EB0000000000000
    ∷ 0x0300003FF0000000000000
    ∷ 0x040000C098000000000000
    ∷ 0x0500004098000000000000
    ∷ 0x0600000000000000000000
    ∷ 0x0700004070000000000000
    ∷ []

-- S in words of 32 bits with twelve state and four target values, every entry of the two tables and every limit of theirs the largest word
abbrev largest : ℕ → List ℤ
largest n = tab (λ (i : ℕ). pos 2147483647) n

unfoldable pub wide : List ℕ
wide =
    words_out
    (map pos (1 ∷ 1 ∷ 12 ∷ 4 ∷ 32 ∷ 3 ∷ 4 ∷ 0 ∷ 8 ∷ [])
    ++ (largest 12 ++ ((minus 20 ∷ pos 20 ∷ pos 0 ∷ []) ++ (largest 12 ++ (largest 4 ++ largest 4)))))

-- ---- the table
unfoldable pub table : List Case
table =
    -- S, sweeps 1 to 5
    solves (S 0 20 10) (pos 10) [] (one (minus 10 ∷ minus 15 ∷ minus 18 ∷ minus 19 ∷ minus 20 ∷ [])) (one (1 ∷ 2 ∷ 3 ∷ 3 ∷ 3 ∷ [])) (10 ∷ 5 ∷ 2 ∷ 1 ∷ 0 ∷ [])
    -- S with β 8 counts, sweeps 1 to 4
    ∷ solves (S 8 20 10) (pos 10) [] (one (minus 10 ∷ minus 18 ∷ minus 20 ∷ minus 20 ∷ [])) (one (1 ∷ 3 ∷ 4 ∷ 6 ∷ [])) (10 ∷ 2 ∷ 0 ∷ 0 ∷ [])
    -- S with limits −1 and 1 counts, sweeps 1 to 3
    ∷ solves (S 0 1 10) (pos 10) [] (one (minus 1 ∷ minus 1 ∷ minus 1 ∷ [])) (one (1 ∷ 2 ∷ 2 ∷ [])) (0 ∷ 0 ∷ 0 ∷ [])
    -- S with state limit 117 counts is accepted, with 118 refused 12
    ∷ numbers (S 0 20 117) 0
    ∷ numbers (S 0 20 118) 12
    -- H rows (8,8),(8,8): 9. (9,8),(8,9): 10. (8,7),(7,8): β 9 is 11, β 10 passes 11
    ∷ numbers (two 8 8 0) 9
    ∷ numbers (two 9 8 0) 10
    ∷ numbers (two 8 7 9) 11
    ∷ numbers (two 8 7 10) 0
    -- double 0.03125 as low limit is 1, as high limit 0; −0.03125 in Φ was −1 and is 0 by request 7
    ∷ converts 4 0x3FA0000000000000 (pos 1)
    ∷ converts 5 0x3FA0000000000000 (pos 0)
    ∷ converts 3 0xBFA0000000000000 (pos 0)
    -- state 10 passes 13 in S, 11 does not
    ∷ answers (S 0 20 10) (pos 10) [] 0
    ∷ answers (S 0 20 10) (pos 11) [] 13
    -- the sheet S has S's image, 56 bytes; with state 0000000A it "prints the single line FFFFFFEE 00000003 (command −18, bound 3)", by
    -- request 8 with D, 2
    ∷ writes (text lines) (S 0 20 10)
    ∷ labels (text lines) (text_line "0000000A") [] (text_line "FFFFFFEE 00000003 00000002")
    -- request 1: a target of 5 counts leaves h 5, sweeps 1 to 3; the state's own value as target leaves 0
    ∷ solves (following 10) (pos 10) (pos 5 ∷ []) (one (minus 5 ∷ minus 8 ∷ minus 9 ∷ [])) (one (1 ∷ 2 ∷ 3 ∷ [])) (5 ∷ 2 ∷ 1 ∷ [])
    ∷ solves (following 10) (pos 10) (pos 10 ∷ []) (one (pos 0 ∷ pos 0 ∷ pos 0 ∷ [])) (one (1 ∷ 2 ∷ 3 ∷ [])) (0 ∷ 0 ∷ 0 ∷ [])
    -- A is 10 and the state's part of B 10: a target limit of 107 counts is accepted, 108 refused 12
    ∷ numbers (following 107) 0
    ∷ numbers (following 108) 12
    -- 16: a value beyond its limit, none, one too many; with nr 0 one; 13 comes first
    ∷ answers (following 10) (pos 10) (minus 10 ∷ []) 0
    ∷ answers (following 10) (pos 10) (minus 11 ∷ []) 16
    ∷ answers (following 10) (pos 10) [] 16
    ∷ answers (following 10) (pos 10) (pos 0 ∷ pos 0 ∷ []) 16
    ∷ answers (S 0 20 10) (pos 10) (pos 0 ∷ []) 16
    ∷ answers (S 0 20 10) (pos 11) (pos 0 ∷ []) 13
    -- request 2: S with a high limit of 0.03125, with minus zero as β, and its own low limit; −0.03125 in Φ, and 9.6 counts as state limit
    ∷ prints (changed 4 0x0500003FA0000000000000) 3 "05 0000 3FA0000000000000 0000000000000000 M"
    ∷ prints (changed 5 0x0600008000000000000000) 4 "06 0000 8000000000000000 0000000000000000 K"
    ∷ prints (text lines) 2 "04 0000 BFF4000000000000 BFF4000000000000 K"
    ∷ prints (changed 2 0x030000BFA0000000000000) 1 "03 0000 BFA0000000000000 0000000000000000 M"
    ∷ prints (changed 6 0x0700003FE3333333333333) 5 "07 0000 3FE3333333333333 3FE4000000000000 M"
    -- six lines of 44 bytes, "else 15", after 12, which a state limit of 118 counts has; the empty sheet is 4
    ∷ pages (text lines) 264 0
    ∷ pages (text lines) 263 15
    ∷ pages (changed 6 0x070000401D800000000000) 263 12
    ∷ pages [] 0 4
    -- request 3: step 1 with limits −5 and 5, sweeps 1 to 3; with −1 and 1, where w holds the bound of step 1 alone
    ∷ solves (varying 0 (minus 5) (pos 5)) (pos 10) [] (both (minus 10 ∷ minus 15 ∷ minus 18 ∷ []) (minus 5 ∷ minus 5 ∷ minus 5 ∷ [])) (both (1 ∷ 2 ∷ 3 ∷ []) (1 ∷ 2 ∷ 3 ∷ [])) (10 ∷ 5 ∷ 2 ∷ [])
    ∷ solves (varying 0 (minus 1) (pos 1)) (pos 10) [] (both (minus 10 ∷ minus 15 ∷ minus 18 ∷ []) (minus 1 ∷ minus 1 ∷ minus 1 ∷ [])) (both (1 ∷ 2 ∷ 3 ∷ []) (1 ∷ 2 ∷ 2 ∷ [])) (10 ∷ 5 ∷ 2 ∷ [])
    -- by step 1 alone: 7; with β 8 counts Y is zb + w / 2, so −62 and 64 are accepted, −63 and 64 refused 12
    ∷ numbers (varying 0 (pos 6) (pos 5)) 7
    ∷ numbers (varying 8 (minus 62) (pos 64)) 0
    ∷ numbers (varying 8 (minus 63) (pos 64)) 12
    -- the page of step 1's low limit; a 05 before the last 04; the former layout, all of whose limits stand in column 0
    ∷ prints (text step_lines) 7 "04 0001 BFD4000000000000 BFD4000000000000 K"
    ∷ pages (text step_lines) 528 0
    ∷ pages (text mixed_lines) 528 2
    ∷ pages (text former_lines) 440 2
    -- request 4: M y with entries 7 and −3, where −84 / 16 and 36 / 16 would be rounded down to −6 and 2, their sum is −3; c is 1
    ∷ solves (two 9 3 3) (pos 10) [] (both (minus 10 ∷ minus 13 ∷ minus 14 ∷ minus 14 ∷ []) (minus 10 ∷ minus 13 ∷ minus 14 ∷ minus 14 ∷ [])) (both (1 ∷ 3 ∷ 5 ∷ 6 ∷ []) (1 ∷ 3 ∷ 5 ∷ 6 ∷ [])) (7 ∷ 1 ∷ 2 ∷ 2 ∷ [])
    -- h of a state of 1 and a target of 1 count is half a count twice, so 1; of −1 and −2 it is −1.5, so −2
    ∷ solves (halved 20 10 10) (pos 1) (pos 1 ∷ []) (one (minus 1 ∷ [])) (one (1 ∷ [])) (1 ∷ [])
    ∷ solves (halved 20 10 10) (minus 1) (minus 2 ∷ []) (one (pos 2 ∷ [])) (one (1 ∷ [])) (1 ∷ [])
    -- B of limits 117 and 117 is 117, where two terms of 58.5 would be 118; A is 10. Limits of 117 and 118 are 12, and still are where A is
    -- 9.5: A and B are rounded up apart
    ∷ numbers (halved 20 117 117) 0
    ∷ numbers (halved 20 117 118) 12
    ∷ numbers (halved 19 117 118) 12
    -- A is 0 and B's sum 2^b × top, the last that passes; one more is the first that does not
    ∷ numbers (full 0) 0
    ∷ numbers (full 1) 12
    -- B's sum is 2^66 − 2^36 + 16, which wraps to a number below 0 in 64 bits
    ∷ numbers wide 12
    -- request 6: a low of 1, and a high of −1, are 17, at the only step and by step 1 alone; zero at either limit, or at both, passes
    ∷ numbers (limited (pos 1) (pos 20)) 17
    ∷ numbers (limited (minus 20) (minus 1)) 17
    ∷ numbers (varying 0 (pos 1) (pos 5)) 17
    ∷ numbers (varying 0 (minus 5) (minus 1)) 17
    ∷ numbers (varying 0 (pos 0) (pos 5)) 0
    ∷ numbers (varying 0 (minus 5) (pos 0)) 0
    ∷ numbers (varying 0 (pos 0) (pos 0)) 0
    -- 7 comes before, so document 01's low of 1 with a high of 0 stays 7; 8 and 13 come behind
    ∷ numbers (limited (pos 1) (pos 0)) 7
    ∷ numbers (skewed (pos 1) (pos 5)) 17
    ∷ numbers (skewed (pos 0) (pos 5)) 8
    ∷ answers (limited (pos 1) (pos 20)) (pos 11) [] 17
    ∷ answers (limited (pos 0) (pos 20)) (pos 10) [] 0
    -- a one-sided step 1, from zeros: it stays at its low of 0; with a high of 2 and the state's other sign it goes to 2, and its bound to w
    ∷ solves (varying 0 (pos 0) (pos 5)) (pos 10) [] (both (minus 10 ∷ minus 15 ∷ minus 18 ∷ []) (pos 0 ∷ pos 0 ∷ pos 0 ∷ [])) (both (1 ∷ 2 ∷ 3 ∷ []) (1 ∷ 2 ∷ 3 ∷ [])) (10 ∷ 5 ∷ 2 ∷ [])
    ∷ solves (varying 0 (pos 0) (pos 2)) (minus 10) [] (both (pos 10 ∷ pos 15 ∷ pos 17 ∷ []) (pos 2 ∷ pos 2 ∷ pos 2 ∷ [])) (both (1 ∷ 2 ∷ 3 ∷ []) (1 ∷ 2 ∷ 2 ∷ [])) (10 ∷ 5 ∷ 3 ∷ [])
    -- S with a low limit of 0.03125, rounded up to 1, and of −0.03125, rounded up to 0; a high of −0.03125, rounded down to −1
    ∷ pages (changed 3 0x0400003FA0000000000000) 264 17
    ∷ pages (changed 3 0x040000BFA0000000000000) 264 0
    ∷ pages (changed 4 0x050000BFA0000000000000) 264 17
    -- request 7: 0.09375 becomes 2, as −0.09375 becomes −2; 2.5 and −2.5 counts go to the even one too, 2.5 with one bit more to 3
    ∷ converts 3 0x3FB8000000000000 (pos 2)
    ∷ converts 3 0xBFB8000000000000 (minus 2)
    ∷ converts 2 0x3FC4000000000000 (pos 2)
    ∷ converts 8 0xBFC4000000000000 (minus 2)
    ∷ converts 8 0x3FC4000000000001 (pos 3)
    -- "limits, β, state and target limits round as before": 19.75 counts as a high limit, −19.75 as a low, a quarter as β, 9.25 and 10.25 as limits
    ∷ converts 5 0x3FF3C00000000000 (pos 19)
    ∷ converts 4 0xBFF3C00000000000 (minus 19)
    ∷ converts 6 0x3F90000000000000 (pos 1)
    ∷ converts 7 0x3FE2800000000000 (pos 10)
    ∷ converts 9 0x3FE4800000000000 (pos 11)
    -- "and only then tested for 5": in Φ 127.25 counts are 127, 127.5 a tie that goes to 128; the same below zero
    ∷ pages (changed 2 0x030000401FD00000000000) 264 0
    ∷ pages (changed 2 0x030000401FE00000000000) 264 5
    ∷ pages (changed 2 0x030000C01FD00000000000) 264 0
    ∷ pages (changed 2 0x030000C01FE00000000000) 264 5
    -- H of half a count is 0, which is 9, and with one bit more 1; of 16.5 it is 16, and with one bit more 17, which is 10
    ∷ pages (changed 1 0x0200003FA0000000000000) 264 9
    ∷ pages (changed 1 0x0200003FA0000000000001) 264 0
    ∷ pages (changed 1 0x0200003FF0800000000000) 264 0
    ∷ pages (changed 1 0x0200003FF0800000000001) 264 10
    -- the page: the double next below zero in Φ moves to plus zero, minus zero is K; a target table of −24.5 counts, and a target limit of 10.5
    ∷ prints (changed 2 0x0300008000000000000001) 1 "03 0000 8000000000000001 0000000000000000 M"
    ∷ prints (changed 2 0x0300008000000000000000) 1 "03 0000 8000000000000000 0000000000000000 K"
    ∷ prints (text target_lines) 6 "08 0000 BFF8800000000000 BFF8000000000000 M"
    ∷ prints (text target_lines) 7 "09 0000 3FE5000000000000 3FE6000000000000 M"
    -- request 8: with an entry of 15 counts in Φ the optimum is −75 / 4 counts; S's own is −20, from which −18 is just its D, 2, away
    ∷ solves (gained 15) (pos 10) [] (one (minus 9 ∷ minus 14 ∷ minus 16 ∷ minus 17 ∷ [])) (one (1 ∷ 2 ∷ 3 ∷ 3 ∷ [])) (10 ∷ 5 ∷ 3 ∷ 2 ∷ [])
    ∷ optimum (gained 15) (pos 10) [] 4 (minus 75 ∷ [])
    ∷ optimum (S 0 20 10) (pos 10) [] 1 (minus 20 ∷ [])
    -- held to its limits: −1 is the optimum with limits of −1 and 1
    ∷ optimum (S 0 1 10) (pos 10) [] 1 (minus 1 ∷ [])
    -- m is the least margin, 3, not that of the first row; R is 110 after one sweep, of the second command; the optimum is −35 / 2 and −20
    ∷ solves uneven (pos 10) [] (both (minus 10 ∷ minus 17 ∷ minus 19 ∷ []) (minus 10 ∷ minus 20 ∷ minus 20 ∷ [])) (both (1 ∷ 3 ∷ 5 ∷ []) (1 ∷ 4 ∷ 7 ∷ [])) (37 ∷ 2 ∷ 4 ∷ [])
    ∷ optimum uneven (pos 10) [] 2 (minus 35 ∷ minus 40 ∷ [])
    -- 15 for the former 8n bytes, and for one more than 8n + 8
    ∷ rooms (S 0 20 10) (pos 10) 8 15
    ∷ rooms (S 0 20 10) (pos 10) 16 0
    ∷ rooms (S 0 20 10) (pos 10) 17 15
    -- a D of 2^48 − 2^28 takes sixteen digits
    ∷ labels (text far_lines) (text_line "10000000") [] (text_line "F0000000 00000001 0000FFFFF0000000")
    ∷ []
