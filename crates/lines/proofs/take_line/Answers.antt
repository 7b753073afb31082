-- Each way out is one law of Step.antt. Assumes nothing.
use Rattle.std.proofs.Common.{◌≡◌, rules, arith, sym, ap, ◌∙◌, List, ℕ, ◌+◌, ◌-◌, ◌*◌, ◌<◌, Result, Ok, Err, Option, Some, None, w64, to_z, of_z}
use Rattle.std.specs.Result.{IsErrAnd}
use Rattle.std.specs.Option.{ok_or}
use Rattle.std.proofs.lemmas.Result.{err_from_is_err_and}
use lib.Ieee.{Float}
use Rattle.refusal.specs.declared.Refusal.{Refusal}
use Rattle.refusal.specs.Number.{number, number_of}
use Rattle.refusal.specs.declared.Refusal.TheVariants.{Word}
use Rattle.refusal.proofs.Numbers.{above_zero}
use Rattle.image.specs.Sizes.{command_count}
use Rattle.line.specs.Line.{line_at}
use Rattle.frame.specs.declared.Due.{Due}
use Rattle.frame.specs.Frame.{due_at, is_high, low_base, value_double, word_of}
use Rattle.frame.proofs.Limits.{high_due, high_of, low_due, low_of}
use Rattle.lines.specs.Lines.{line_fault, line_value, line_word}
use Rattle.lines.proofs.Step.{OfCommand, fault_refused, fault_word, of_command, pair_fault, pair_words, step_low, step_pair, step_word, value_fault_lem, value_is}
use Rattle.lines.proofs.take_line.Goals.{Start, In_ok-x, Then-d-eq5, After-command_of, In_ok-v, Then-d-eq4, After-due_at-d}
use Rattle.lines.proofs.take_line.Goals as goal

-- a refusal that is handed on has its number, and owes nothing else
handed : {A : Type 0} (why : Refusal) (r : Result (Unit {0}) Refusal) {n : ℕ} → IsErrAnd r (λ (x : Refusal). x ≡ why) → number why ≡ n → (number_of r ≡ n) × (number_of r ≡ 0 → A)
handed why r h e =
    let p = err_from_is_err_and r h in
    rw (p.1, p.2) (e, λ z. let w : ⊥ = omega (arith, above_zero why, z) in absurd w)

-- a word that there is not is refused as one
no-word : {A : Type 0} (o : Option A) (why : Refusal) → Err why ≡ ok_or o Word → why ≡ Word
no-word None why e = cc
no-word (Some x) why e = cc

-- the line's double was read
module _ (c : In_ok-x) where
  abbrev st : Start
  st = (goal.at.In_ok-x c).Start

  abbrev x : Float
  x = c.in_ok-x.x

  value : (s : List ℕ) → st.args.l ≡ line_at s (23 * (st.args.i + 1)) → line_value st.args.z s st.args.i ≡ Ok x
  value s q = value_is st.args.z s st.args.i _ _ _ c.in_ok-x.ensures.0 c.due_at-d.ensures q

  -- what was due
  abbrev here : Due
  here = c.due_at-d.result

  due-is : here ≡ due_at st.args.z st.args.i
  due-is = c.due_at-d.ensures

-- a high limit
module _ (c : Then-d-eq5) where
  abbrev su : Start
  su = (goal.at.Then-d-eq5 c).Start

  k5 : (due_at su.args.z su.args.i).kind ≡ 5
  k5 = ap (λ (d : Due). d.kind) (sym c.due_at-d.ensures) ∙ c.if-d-eq5.true

  high : is_high su.args.z su.args.i
  high = high_of su.args.z su.args.i k5

  of-high : OfCommand su.args.z c.due_at-d.result (su.args.i - low_base su.args.z - command_count su.args.z)
  of-high = of_command su.args.z su.requires.0 _ 5 _ (c.due_at-d.ensures ∙ high_due su.args.z su.args.i high) (omega (arith, high))

-- the low that was kept
module _ (c : After-command_of) where
  abbrev uk : Start
  uk = (goal.at.After-command_of c).Start

  command-is : c.command_of.result ≡ uk.args.i - low_base uk.args.z - command_count uk.args.z
  command-is = c.command_of.ensures ∙ (of-high (goal.at.After-command_of c).Then-d-eq5).2

  command-small : c.command_of.result < 16
  command-small = omega (arith, command-is, high (goal.at.After-command_of c).Then-d-eq5, uk.requires.0.n_high)

-- a word
module _ (c : In_ok-v) where
  abbrev kt : In_ok-x
  kt = (goal.at.In_ok-v c).In_ok-x

  word-is : word_of (st kt).args.z (due_at (st kt).args.z (st kt).args.i).kind (x kt) ≡ Some c.in_ok-v.v
  word-is = ap (λ (d : Due). word_of (st kt).args.z d.kind (x kt)) (sym (due-is kt)) ∙ sym c.word_of.ensures.0 ∙ c.in_ok-v.ensures.ok_part

  taken : (s : List ℕ) → (st kt).args.l ≡ line_at s (23 * ((st kt).args.i + 1)) → (line_fault (st kt).args.z s (st kt).args.i ≡ 0) × (line_word (st kt).args.z s (st kt).args.i ≡ c.in_ok-v.v)
  taken s q = fault_word (st kt).args.z s (st kt).args.i (x kt) c.in_ok-v.v (value kt s q) word-is

-- a low limit
module _ (c : Then-d-eq4) where
  abbrev sl : Start
  sl = (goal.at.Then-d-eq4 c).Start

  k4 : (due_at sl.args.z sl.args.i).kind ≡ 4
  k4 = ap (λ (d : Due). d.kind) (sym c.due_at-d.ensures) ∙ c.if-d-eq4.true

  of-low : OfCommand sl.args.z c.due_at-d.result (sl.args.i - low_base sl.args.z)
  of-low =
      let l = low_of sl.args.z sl.args.i k4 in
      of_command sl.args.z sl.requires.0 _ 4 _ (c.due_at-d.ensures ∙ low_due sl.args.z sl.args.i l) (omega (arith, l))

  -- the command of the low that is kept now, k
  low-small : (k : ℕ) → k ≡ sl.args.i - low_base sl.args.z → k < 16
  low-small k e = omega (arith, e, low_of sl.args.z sl.args.i k4, sl.requires.0.n_high)

pub returns-in_err-x : goal.returns-in_err-x
returns-in_err-x c s q r =
    handed c.in_err-x.field-0.0 c.from_residual.result c.from_residual.ensures.1
    (value_fault_lem c.args.z s c.args.i _ (value_is c.args.z s c.args.i _ _ _ c.in_err-x.ensures.0 c.due_at-d.ensures q))

pub command_of-requires : goal.command_of-requires
command_of-requires c = (c.requires.0, (of-high c).0, (of-high c).1)

pub offset_bounds-lows-command_of : goal.offset_bounds-lows-command_of
offset_bounds-lows-command_of c = omega (arith, command-small c)

pub bounds-lows-command_of : goal.bounds-lows-command_of
bounds-lows-command_of c = command-small c

pub returns-in_err-low : goal.returns-in_err-low
returns-in_err-low c s q r =
    let u = (goal.at.returns-in_err-low c).In_ok-x in
    let e = (goal.at.returns-in_err-low c).Then-d-eq5 in
    let f = pair_fault c.args.z s c.args.i c.args.words.now c.args.lows.now c.requires.0 r (k5 e) (x u) (value u s q) c.command_of.result (command-is (goal.at.returns-in_err-low c).After-command_of) (sym c.in_err-low.ensures.ok_part ∙ c.inward.ensures.0) in
    handed c.in_err-low.field-0.0 c.from_residual-in_err-low.result c.from_residual-in_err-low.ensures.1 (ap number (no-word _ _ c.in_err-low.ensures.value) ∙ sym f)

pub returns-then-d-eq5 : goal.returns-then-d-eq5
returns-then-d-eq5 c s q r =
    let u = (goal.at.returns-then-d-eq5 c).In_ok-x in
    let e = (goal.at.returns-then-d-eq5 c).Then-d-eq5 in
    let a : to_z w64 (of_z w64 c.in_ok-low.low) ≡ c.in_ok-low.low = search rules in
    let b : to_z w64 (of_z w64 c.in_ok-low.high) ≡ c.in_ok-low.high = search rules in
    let p = pair_words c.args.z s c.args.i c.args.words.now c.args.lows.now c.requires.0 r (k5 e) (x u) (value u s q) c.command_of.result (command-is (goal.at.returns-then-d-eq5 c).After-command_of) c.in_ok-low.low c.in_ok-low.high (sym c.in_ok-low.ensures.ok_part ∙ c.inward.ensures.0) in
    rw c.command_count-n.ensures
    (sym p.2, λ n. step_pair c.args.z s c.args.i c.args.words.now c.args.lows.now c.requires.0 c.requires.1 r p.2 _ _ (p.0 ∙ sym a) (p.1 ∙ sym b) (k5 e))

pub overflow_sub-low : goal.overflow_sub-low
overflow_sub-low c = omega (arith, c.command_count-n.ensures, high (goal.at.overflow_sub-low c).Then-d-eq5)

pub returns-in_err-v : goal.returns-in_err-v
returns-in_err-v c s q r =
    let u = (goal.at.returns-in_err-v c).In_ok-x in
    let h : word_of c.args.z (due_at c.args.z c.args.i).kind (x u) ≡ None = ap (λ (d : Due). word_of c.args.z d.kind (x u)) (sym c.due_at-d.ensures) ∙ sym c.word_of.ensures.0 ∙ c.in_err-v.ensures.ok_part in
    handed c.in_err-v.field-0.0 c.from_residual-in_err-v.result c.from_residual-in_err-v.ensures.1
    (ap number (no-word _ _ c.in_err-v.ensures.value) ∙ sym (fault_refused c.args.z s c.args.i (x u) (value u s q) h))

pub command_of-requires-then-d-eq4 : goal.command_of-requires-then-d-eq4
command_of-requires-then-d-eq4 c = (c.requires.0, (of-low c).0, (of-low c).1)

pub offset_bounds-lows-command_of-then-d-eq4 : goal.offset_bounds-lows-command_of-then-d-eq4
offset_bounds-lows-command_of-then-d-eq4 c =
    let d = (goal.at.offset_bounds-lows-command_of-then-d-eq4 c).Then-d-eq4 in
    omega (arith, low-small d _ (c.command_of-then-d-eq4.ensures ∙ (of-low d).2))

pub bounds-lows-command_of-then-d-eq4 : goal.bounds-lows-command_of-then-d-eq4
bounds-lows-command_of-then-d-eq4 c =
    let d = (goal.at.bounds-lows-command_of-then-d-eq4 c).Then-d-eq4 in
    low-small d _ (c.command_of-then-d-eq4.ensures ∙ (of-low d).2)

pub returns-then-d-eq4 : goal.returns-then-d-eq4
returns-then-d-eq4 c s q r =
    let d = (goal.at.returns-then-d-eq4 c).Then-d-eq4 in
    let f = (taken (goal.at.returns-then-d-eq4 c).In_ok-v s q).0 in
    (sym f, λ n. step_low c.args.z s c.args.i c.args.words.now c.args.lows.now c.requires.0 c.requires.1 r f c.in_ok-x.x _ (ap value_double (value (goal.at.returns-then-d-eq4 c).In_ok-x s q)) (k4 d) (c.command_of-then-d-eq4.ensures ∙ (of-low d).2))

pub returns-else-d-eq4 : goal.returns-else-d-eq4
returns-else-d-eq4 c s q r =
    let t = taken (goal.at.returns-else-d-eq4 c).In_ok-v s q in
    let e : to_z w64 (of_z w64 c.in_ok-v.v) ≡ c.in_ok-v.v = search rules in (
      sym t.0,
      λ n. step_word c.args.z s c.args.i c.args.words.now c.args.lows.now c.requires.0 c.requires.1 r t.0 _ (t.1 ∙ sym e)
          (λ (h : (due_at c.args.z c.args.i).kind ≡ 4). c.if-d-eq4.false (ap (λ (m : Due). m.kind) c.due_at-d.ensures ∙ h))
          (λ (h : (due_at c.args.z c.args.i).kind ≡ 5). c.if-d-eq5.false (ap (λ (m : Due). m.kind) c.due_at-d.ensures ∙ h)),
    )
