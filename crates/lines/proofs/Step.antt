-- One line more. Assumes nothing.
use mathlib.Core.Path.{◌≡◌, refl, sym, ap, ◌∙◌, subst}
use mathlib.Core.Bool.{Bool, true, false, not, ◌&&◌, cond, false≢true}
use mathlib.Core.List.{List}
use mathlib.Core.Logic.{⊎_elim}
use Prim.Native.Nat.{ℕ, ◌+◌, ◌-◌, ◌*◌, ◌/◌, ◌%◌, ◌<◌}
use lib.IntN.{ℤ, pos}
use lib.Dec.{T}
use lib.Ieee.{Float, nan, inf, fin, is_nan}
use native.Mathlib.Nat.{eq-or-lt_of_le, le_of_suc-le-suc, mul_comm, mod-lt, div-lt_iff_lt-mul, div-add-mod'}
use native.Mathlib.Numerals.{add-one}
use native.Mathlib.Omega.{arith}
use lib.ListN.{length, get_or, set, length-set}
use lib.Seq.{get_or-set_same, get_or-set_other}
use borrow.Author.Count.{below_more}
use Rattle.double.specs.Double.{convert, converted_number, accepted, rounded, round_up, round_down, convert_limits}
use Rattle.double.specs.declared.Limits.{Limits}
use Rattle.double.proofs.Convert.{convert_word}
use Rattle.image.specs.declared.Sizes.{Sizes}
use Rattle.image.specs.Sizes.{Sound, command_count}
use Rattle.line.specs.Line.{line_at}
use Rattle.std.specs.Prelude.{Option, Some, None, Result, Ok, Err}
use Rattle.refusal.specs.declared.Refusal.{Refusal}
use Rattle.refusal.specs.Number.{number}
use Rattle.refusal.proofs.Numbers.{above_zero}
use Rattle.line.specs.declared.Frame.{Frame}
use Rattle.frame.specs.declared.Due.{Due}
use Rattle.frame.specs.Frame.{converted_word, due, due_at, is_low, low_base, total, value_double, value_number, value_of, word_of}
use Rattle.frame.proofs.Laws.{total_high}
use Rattle.frame.proofs.Limits.{high_due, high_of, low_due, low_of}
use Rattle.frame.proofs.Word.{is_word, kind_4, kind_5, nan_refused}
use Rattle.lines.specs.Lines.{command_of, line_double, line_fault, line_value, line_word, ReadTo}

-- ---- what a line holds
module _ (z : Sizes) (s : List ℕ) (i : ℕ) where
  pub value_is : (g : Result Float Refusal) (d : Due) (l : Result Frame Refusal) → g ≡ value_of d l → d ≡ due_at z i → l ≡ line_at s (23 * (i + 1)) → line_value z s i ≡ g
  unfolding line_value
  value_is g d l p q r = rw (p, q, r)

  pub value_fault_lem : (why : Refusal) → line_value z s i ≡ Err why → number why ≡ line_fault z s i
  unfolding line_fault
  value_fault_lem why e = rw e

  pub fault_word : (x : Float) (v : ℤ) → line_value z s i ≡ Ok x → word_of z (due_at z i).kind x ≡ Some v → (line_fault z s i ≡ 0) × (line_word z s i ≡ v)
  unfolding line_fault line_word
  fault_word x v e h = (rw (e, h), rw (e, h))

  pub fault_refused : (x : Float) → line_value z s i ≡ Ok x → word_of z (due_at z i).kind x ≡ None → line_fault z s i ≡ 5
  unfolding line_fault
  fault_refused x e h = rw (e, h)

  -- a line without a fault has a double that is a number
  pub line_number_lem : line_fault z s i ≡ 0 → T (not (is_nan (line_double z s i)))
  unfolding line_fault is_nan
  line_number_lem = by (line_value z s i) refl
    where
      by : (g : Result Float Refusal) → line_value z s i ≡ g → value_number z (due_at z i).kind g ≡ 0 → T (not (is_nan (value_double g)))
      by (Ok nan) e h = let n : ◌≡◌ {A = ℕ} 5 0 = ap converted_number (sym (nan_refused z (due_at z i).kind nan refl)) ∙ h in let w : ⊥ = omega arith in absurd w
      by (Ok (inf t)) e h = tt
      by (Ok (fin t m k)) e h = tt
      by (Err why) e h = let w : ⊥ = omega (arith, above_zero why, h) in absurd w

-- ---- both limits of a command

-- a line's row is a motor, its column a step, and the two are command k
abbrev pub OfCommand : Sizes → Due → ℕ → Type 0
OfCommand z d k = (d.row < z.nu) × (d.column < z.steps) × (command_of z d ≡ k)

pub of_command : (z : Sizes) → Sound z → (d : Due) (kind k : ℕ) → d ≡ due kind (k % z.nu) (k / z.nu) → k < command_count z → OfCommand z d k
of_command z o d kind k e h =
    rw e (mod-lt k o.nu_low, (div-lt_iff_lt-mul o.nu_low).1 (subst (λ (n : ℕ). k < n) (mul_comm z.nu z.steps) h), div-add-mod' k z.nu)

module _ (z : Sizes) (s : List ℕ) (k : ℕ) where
  pub passed_word : (g : Result Float Refusal) → line_value z s k ≡ g → value_number z (due_at z k).kind g ≡ 0 → word_of z (due_at z k).kind (value_double g) ≡ Some (converted_word (word_of z (due_at z k).kind (value_double g)))
  passed_word (Ok x) e h = is_word (word_of z (due_at z k).kind x) h
  passed_word (Err why) e h = let w : ⊥ = omega (arith, above_zero why, h) in absurd w

  pub low_word : is_low z k → line_fault z s k ≡ 0 → convert round_up z.b z.w (line_double z s k) ≡ Some (line_word z s k)
  unfolding line_fault line_word
  low_word l f = sym (kind_4 z (due_at z k).kind (line_double z s k) (ap (λ (d : Due). d.kind) (low_due z k l))) ∙ passed_word (line_value z s k) refl f

-- what the pair of words says of the two tests
pair_both : (p q : Bool) {u v a b : ℤ} → ◌≡◌ {A = Option (ℤ × ℤ)} (Some (a, b)) (cond (p && q) (Some (u, v)) None) → (p ≡ true) × (q ≡ true) × (a ≡ u) × (b ≡ v)
pair_both true true {u} {v} {a} {b} e = let k : ◌≡◌ {A = ℤ × ℤ} (a, b) (u, v) = cc in (refl, refl, ap (λ (x : ℤ × ℤ). x.0) k, ap (λ (x : ℤ × ℤ). x.1) k)
pair_both true false e = let x : ◌≡◌ {A = ℕ} 0 1 = cc in let y : ⊥ = omega arith in absurd y
pair_both false q e = let x : ◌≡◌ {A = ℕ} 0 1 = cc in let y : ⊥ = omega arith in absurd y

pair_none : (p q : Bool) (w : ℤ × ℤ) → ◌≡◌ {A = Option (ℤ × ℤ)} None (cond (p && q) (Some w) None) → p ≡ true → q ≡ false
pair_none p false w e h = refl
pair_none true true w e h = let x : ◌≡◌ {A = ℕ} 0 1 = cc in let y : ⊥ = omega arith in absurd y
pair_none false true w e h = absurd (false≢true h)

-- the words of a command's limits, from what rounding them inward gives
module _ (z : Sizes) (s : List ℕ) (i : ℕ) (ws : List ℤ) (ls : List Float) (o : Sound z) (r : ReadTo z s i ws ls) (k5 : (due_at z i).kind ≡ 5) (x : Float) (g : line_value z s i ≡ Ok x) (command : ℕ) (is : command ≡ i - low_base z - command_count z) where
  lower : convert round_up z.b z.w (get_or ls command nan) ≡ Some (line_word z s (i - command_count z))
  lower =
      let h = high_of z i k5 in
      let e : low_base z + command ≡ i - command_count z = omega arith in
      let d : get_or ls command nan ≡ line_double z s (i - command_count z) = r.kept command (omega arith) (omega (arith, o.n_low)) ∙ ap (line_double z s) e in
      rw d (low_word z s (i - command_count z) (omega arith) (r.passed (i - command_count z) (omega (arith, o.n_low))))

  abbrev limits : Limits
  limits = record { low = get_or ls command nan; high = x }

  pub pair_words : (a b : ℤ) → Some (a, b) ≡ convert_limits z.b z.w limits → (line_word z s (i - command_count z) ≡ a) × (line_word z s i ≡ b) × (line_fault z s i ≡ 0)
  pair_words a b e =
      let p = pair_both (accepted round_up z.b z.w (get_or ls command nan)) (accepted round_down z.b z.w x) e in
      let w = fault_word z s i x (rounded round_down z.b x) g (kind_5 z (due_at z i).kind x k5 ∙ rw p.1) in
      ((convert_word round_up z.b z.w (get_or ls command nan) lower).1 ∙ sym p.2, w.1 ∙ sym p.3, w.0)

  pub pair_fault : None ≡ convert_limits z.b z.w limits → line_fault z s i ≡ 5
  pair_fault e =
      let q = pair_none (accepted round_up z.b z.w (get_or ls command nan)) (accepted round_down z.b z.w x) _ e (convert_word round_up z.b z.w (get_or ls command nan) lower).0 in
      fault_refused z s i x g (kind_5 z (due_at z i).kind x k5 ∙ rw q)

-- ---- the line is read
abbrev nil : Float
nil = nan

before : (k i : ℕ) → k < i + 1 → (k ≡ i → ⊥) → k < i
before k i h n = ⊎_elim (λ (e : k ≡ i). absurd (n e)) (λ (l : k < i). l) (eq-or-lt_of_le (le_of_suc-le-suc (subst (λ (m : ℕ). k < m) (add-one i) h)))

module _ (z : Sizes) (s : List ℕ) (i : ℕ) (ws : List ℤ) (ls : List Float) (o : Sound z) (lt : i < total z) (r : ReadTo z s i ws ls) (f : line_fault z s i ≡ 0) where
  room_for : 8 + i < length ws
  room_for = omega (arith, r.size, total_high z o)

  pub step_word : (v : ℤ) → line_word z s i ≡ v → ((due_at z i).kind ≡ 4 → ⊥) → ((due_at z i).kind ≡ 5 → ⊥) → ReadTo z s (i + 1) (set ws (8 + i) v) ls
  step_word v e n4 n5 = record {
    size = length-set ws (8 + i) v ∙ r.size;
    room = r.room;
    passed = below_more (λ (k : ℕ). line_fault z s k ≡ 0) i r.passed f;
    head = λ k h. get_or-set_other ws (8 + i) k v (pos 0) (λ (q : k ≡ 8 + i). omega arith) ∙ r.head k h;
    single = below_more (λ (k : ℕ). (is_low z k → ⊥) → get_or (set ws (8 + i) v) (8 + k) (pos 0) ≡ line_word z s k) i
        (λ k h n. get_or-set_other ws (8 + i) (8 + k) v (pos 0) (λ (q : 8 + k ≡ 8 + i). omega arith) ∙ r.single k h n)
        (λ n. get_or-set_same ws (8 + i) v (pos 0) room_for ∙ sym e);
    paired = λ k l h.
        let m : k + command_count z < i = before (k + command_count z) i h (λ (q : k + command_count z ≡ i). n5 (ap (λ (d : Due). d.kind) (high_due z i (omega arith)))) in
        get_or-set_other ws (8 + i) (8 + k) v (pos 0) (λ (q : 8 + k ≡ 8 + i). omega arith) ∙ r.paired k l m;
    kept = λ j g h. r.kept j g (before (low_base z + j) i h (λ (q : low_base z + j ≡ i). n4 (ap (λ (d : Due). d.kind) (low_due z i (omega arith)))));
  }

  pub step_low : (x : Float) (command : ℕ) → line_double z s i ≡ x → (due_at z i).kind ≡ 4 → command ≡ i - low_base z → ReadTo z s (i + 1) ws (set ls command x)
  step_low x command e k4 er =
      let low : is_low z i = low_of z i k4 in
      record {
        size = r.size;
        room = length-set ls command x ∙ r.room;
        passed = below_more (λ (k : ℕ). line_fault z s k ≡ 0) i r.passed f;
        head = r.head;
        single = λ k h n. r.single k (before k i h (λ (q : k ≡ i). n (subst (is_low z) (sym q) low))) n;
        paired = λ k l h. r.paired k l (omega arith);
        kept = λ j g h.
            ⊎_elim
            (λ (q : low_base z + j ≡ i).
            let same : j ≡ command = omega arith in
            let inside : command < length ls = omega (arith, r.room, o.n_high) in
            rw (same, get_or-set_same ls command x nil inside) (sym e ∙ ap (line_double z s) (omega arith)))
            (λ (l : low_base z + j < i). get_or-set_other ls command j x nil (λ (q : j ≡ command). omega arith) ∙ r.kept j g l)
            (eq-or-lt_of_le (le_of_suc-le-suc (subst (λ (m : ℕ). low_base z + j < m) (add-one i) h)));
      }

  pub step_pair : (a b : ℤ) → line_word z s (i - command_count z) ≡ a → line_word z s i ≡ b → (due_at z i).kind ≡ 5 → ReadTo z s (i + 1) (set (set ws (8 + i - command_count z) a) (8 + i) b) ls
  step_pair a b ea eb k5 =
      let h5 = high_of z i k5 in
      let at : 8 + i - command_count z ≡ 8 + (i - command_count z) = omega arith in
      let inside : 8 + i < length (set ws (8 + i - command_count z) a) = omega (arith, length-set ws (8 + i - command_count z) a, room_for) in
      record {
        size = length-set (set ws (8 + i - command_count z) a) (8 + i) b ∙ length-set ws (8 + i - command_count z) a ∙ r.size;
        room = r.room;
        passed = below_more (λ (k : ℕ). line_fault z s k ≡ 0) i r.passed f;
        head = λ k h. get_or-set_other (set ws (8 + i - command_count z) a) (8 + i) k b (pos 0) (λ (q : k ≡ 8 + i). omega arith) ∙ get_or-set_other ws (8 + i - command_count z) k a (pos 0) (λ (q : k ≡ 8 + i - command_count z). omega arith) ∙ r.head k h;
        single = below_more (λ (k : ℕ). (is_low z k → ⊥) → get_or (set (set ws (8 + i - command_count z) a) (8 + i) b) (8 + k) (pos 0) ≡ line_word z s k) i
            (λ k h n.
            get_or-set_other (set ws (8 + i - command_count z) a) (8 + i) (8 + k) b (pos 0) (λ (q : 8 + k ≡ 8 + i). omega arith)
            ∙ get_or-set_other ws (8 + i - command_count z) (8 + k) a (pos 0) (λ (q : 8 + k ≡ 8 + i - command_count z). n (omega arith))
            ∙ r.single k h n)
            (λ n. get_or-set_same (set ws (8 + i - command_count z) a) (8 + i) b (pos 0) inside ∙ sym eb);
        paired = λ k l h.
            get_or-set_other (set ws (8 + i - command_count z) a) (8 + i) (8 + k) b (pos 0) (λ (q : 8 + k ≡ 8 + i). omega arith)
            ∙ ⊎_elim
            (λ (q : k + command_count z ≡ i).
            let is : 8 + k ≡ 8 + i - command_count z = omega arith in
            rw (is, get_or-set_same ws (8 + i - command_count z) a (pos 0) (omega (arith, room_for))) (sym ea ∙ ap (line_word z s) (omega arith)))
            (λ (m : k + command_count z < i). get_or-set_other ws (8 + i - command_count z) (8 + k) a (pos 0) (λ (q : 8 + k ≡ 8 + i - command_count z). omega arith) ∙ r.paired k l m)
            (eq-or-lt_of_le (le_of_suc-le-suc (subst (λ (m : ℕ). k + command_count z < m) (add-one i) h)));
        kept = λ j g h. r.kept j g (omega arith);
      }
