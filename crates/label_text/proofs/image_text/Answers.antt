use native.Mathlib.Omega.{arith}
use mathlib.Core.Path.{◌≡◌, sym, ap, ◌∙◌}
use mathlib.Core.List.{List, ◌++◌}
use Prim.Native.Nat.{ℕ, ◌+◌, ◌*◌, ◌≤◌}
use lib.ListN.{length, take, drop, replicate}
use Rattle.std.proofs.lemmas.List.{length-replicate}
use Rattle.refusal.specs.Number.{number, number_of}
use lib.Seq.{take_at, length-take-le}
use Rattle.image.specs.Sizes.{command_count}
use Rattle.image.specs.Layout.{sizes_of}
use Rattle.interface.specs.Calls.{cold_answer, solve_answer}
use Rattle.interface.proofs.Accept.{accepted}
use Rattle.text.specs.Text.{lines}
use Rattle.word_file.specs.WordFile.{file_words}
use Rattle.label_files.proofs.Form.{long}
use Rattle.label_text.proofs.Printed.{answered, cold_passes, files_refused, handed, never, own_lines, own_number, solve_refused}
use Rattle.label_text.proofs.image_text.Goals.{After-command_count-n, After-of-image, After-gantry_cold_start, After-gantry_solve}
use Rattle.label_text.proofs.image_text.Goals as goal

-- the sizes
own : (c : After-of-image) → c.of-image.result.sizes ≡ sizes_of c.args.bytes.now
own c = c.of-image.ensures.1

pub of-image-requires : goal.of-image-requires
of-image-requires c = (accepted c.args.bytes.now c.requires).whole

pub returns-in_err-check_files : goal.returns-in_err-check_files
returns-in_err-check_files c =
    let a = c.args in
    let why = c.in_err-check_files.field-0.0 in
    handed why c.from_residual.result c.from_residual.ensures.1 (files_refused a.bytes.now a.state.now a.target.now why (rw (c.of-image.ensures.0, own (goal.at.returns-in_err-check_files c).After-of-image) at c.in_err-check_files.ensures))

pub file_words-x-requires : goal.file_words-x-requires
file_words-x-requires c =
    let i = c.of-image.result in
    (i.whole.sizes.nx_high, (long i.sizes i.bytes.now c.args.state.now c.args.target.now (sym c.in_ok-check_files.ensures)).of_state)

pub file_words-r-requires : goal.file_words-r-requires
file_words-r-requires c =
    let i = c.of-image.result in
    (omega (arith, i.whole.sizes.nr_high), (long i.sizes i.bytes.now c.args.state.now c.args.target.now (sym c.in_ok-check_files.ensures)).of_target)

-- their commands
few : (c : After-command_count-n) → c.command_count-n.result ≤ 16
few c = omega (arith, c.command_count-n.ensures, c.of-image.result.whole.sizes.n_high)

-- the part that is lent of an array of zeros
lent : (k m : ℕ) → k ≤ m → length (take k (replicate {A = ℕ} m 0)) ≡ k
lent k m h = length-take-le k (replicate {A = ℕ} m 0) (omega (arith, length-replicate {A = ℕ} m 0, h))

-- the number of the cold start
cold : (c : After-gantry_cold_start) → 0 ≡ number_of c.gantry_cold_start.result
cold c =
    let n = c.command_count-n.result in
    let k = lent (4 * n) 64 (omega (arith, few (goal.at.After-gantry_cold_start c).After-command_count-n)) in
    let e : n ≡ command_count (sizes_of c.args.bytes.now) = c.command_count-n.ensures ∙ ap command_count (own (goal.at.After-gantry_cold_start c).After-of-image) in
    sym (c.gantry_cold_start.ensures.number ∙ cold_passes c.args.bytes.now _ c.requires (k ∙ ap (λ (j : ℕ). 4 * j) e))

-- its words, in front
cold-words : (c : After-gantry_cold_start) → take (4 * c.command_count-n.result) (c.gantry_cold_start.new.start ++ drop (4 * c.command_count-n.result) (replicate {A = ℕ} 64 0)) ≡ cold_answer c.args.bytes.now
cold-words c =
    let n = c.command_count-n.result in
    let k = lent (4 * n) 64 (omega (arith, few (goal.at.After-gantry_cold_start c).After-command_count-n)) in
    take_at c.gantry_cold_start.new.start (drop (4 * n) (replicate {A = ℕ} 64 0)) (4 * n) (c.gantry_cold_start.auto.start ∙ k)
    ∙ (rw (← cold c) at c.gantry_cold_start.ensures.bytes)

-- the number of the solve
solved : (c : After-gantry_solve) → number_of c.gantry_solve.result ≡ own_number c.args.bytes.now c.args.state.now c.args.target.now (sizes_of c.args.bytes.now)
solved c =
    let a = c.args in
    let n = c.command_count-n.result in
    let k = lent (8 * n + 8) 136 (omega (arith, few (goal.at.After-gantry_solve c).After-command_count-n)) in
    let s = cold-words (goal.at.After-gantry_solve c).After-gantry_cold_start in
    (rw (c.file_words-x.ensures.1, c.file_words-r.ensures.1, s, k, c.command_count-n.ensures) at c.gantry_solve.ensures.number)
    ∙ ap (own_number a.bytes.now a.state.now a.target.now) (own (goal.at.After-gantry_solve c).After-of-image)

pub returns-in_err-gantry_cold_start : goal.returns-in_err-gantry_cold_start
returns-in_err-gantry_cold_start c =
    absurd (never c.in_err-gantry_cold_start.field-0.0 (ap number_of (sym c.in_err-gantry_cold_start.was) ∙ sym (cold (goal.at.returns-in_err-gantry_cold_start c).After-gantry_cold_start)))

pub returns-in_err-gantry_solve : goal.returns-in_err-gantry_solve
returns-in_err-gantry_solve c =
    let a = c.args in
    let why = c.in_err-gantry_solve.field-0.0 in
    let form = rw (c.of-image.ensures.0, own (goal.at.returns-in_err-gantry_solve c).After-of-image) at c.in_ok-check_files.ensures in
    let e = ap number_of (sym c.in_err-gantry_solve.was) ∙ solved (goal.at.returns-in_err-gantry_solve c).After-gantry_solve in
    handed why c.from_residual-in_err-gantry_solve.result c.from_residual-in_err-gantry_solve.ensures.1 (solve_refused a.bytes.now a.state.now a.target.now form (number why) e (never why))

pub returns : goal.returns
returns c =
    let a = c.args in
    let z = c.of-image.result.sizes in
    let n = c.command_count-n.result in
    let size = 8 * n + 8 in
    let out = c.gantry_solve.new.answer in
    let s = cold-words (goal.at.returns c).After-gantry_cold_start in
    let zero = ap number_of c.in_ok-gantry_solve.was in
    let form = rw (c.of-image.ensures.0, own (goal.at.returns c).After-of-image) at c.in_ok-check_files.ensures in
    let k = lent size 136 (omega (arith, few (goal.at.returns c).After-command_count-n)) in
    let front : take size (out ++ drop size (replicate {A = ℕ} 136 0)) ≡ out = take_at out (drop size (replicate {A = ℕ} 136 0)) size (c.gantry_solve.auto.answer ∙ k) in
    let is : out ≡ solve_answer a.bytes.now (file_words z.nx a.state.now) (file_words z.nr a.target.now) (cold_answer a.bytes.now)
    = rw (zero, c.file_words-x.ensures.1, c.file_words-r.ensures.1, s) at c.gantry_solve.ensures.bytes in
    c.lines_of.ensures.text
    ∙ ap (λ (answer : List ℕ). lines n answer n) (front ∙ is)
    ∙ rw c.command_count-n.ensures (ap (own_lines a.bytes.now a.state.now a.target.now) (own (goal.at.returns c).After-of-image))
    ∙ answered a.bytes.now a.state.now a.target.now form (sym zero ∙ solved (goal.at.returns c).After-gantry_solve)
