-- The lines due after line 01 by a version: those of today where the sizes need none of the requests that it lacks, and without request 3
-- those before the first 05 in any case. Assumes nothing.
use mathlib.Core.Path.{◌≡◌, refl, sym, ap, ◌∙◌}
use mathlib.Core.Bool.{Bool, true, false, cond}
use mathlib.Core.List.{List, [], ◌∷◌, ◌++◌}
use Prim.Native.Nat.{ℕ, ◌+◌, ◌-◌, ◌*◌, ◌≤◌, ◌<◌}
use native.Mathlib.Nat.{mod-one, div-one, mod-eq_of_lt, div-eq_of_lt, mul-le-mul, le_refl, mod_self, div_self}
use native.Mathlib.Omega.{arith}
use lib.Dec.{ltb}
use borrow.Author.Tests.{ltb-true, ltb-false, lt-ltb, le-ltb}
use Rattle.image.specs.declared.Sizes.{Sizes}
use Rattle.image.specs.Sizes.{command_count, Sound}
use Rattle.frame.specs.declared.Due.{Due}
use Rattle.frame.specs.Frame.{Table, table, limit_table, count_in, line_of, due_in, due, due_at, total, low_base}
use Rattle.frame.proofs.Limits.{low_due}
use Rattle.former.specs.Version.{Version, before_horizon}
use Rattle.former.specs.Former as former
use Rattle.former.specs.Laws.{FirstDifference}
use Rattle.former.proofs.Calls.{Fits, part}

-- with N above 1 a motor has two commands or more
pub two_commands : (z : Sizes) → 1 < z.steps → z.nu * 2 ≤ command_count z
two_commands z more = mul-le-mul (le_refl z.nu) more

-- ---- tables
-- those without lines add nothing
no_lines : List Table → Type 0
no_lines [] = Unit {0}
no_lines (t ∷ ts) = (t.rows * t.columns ≡ 0) × no_lines ts

due_none : (ts : List Table) → no_lines ts → (i : ℕ) → due_in ts i ≡ due 0 0 0
unfolding no_lines
due_none [] h i = refl
due_none (t ∷ ts) h i = rw (le-ltb i (t.rows * t.columns) (omega (arith, h.0))) (due_none ts h.1 (i - t.rows * t.columns))

due_before : (ts us : List Table) → no_lines us → (i : ℕ) → due_in (ts ++ us) i ≡ due_in ts i
due_before [] us h i = due_none us h i
due_before (t ∷ ts) us h i = ap (λ (d : Due). cond (ltb i (t.rows * t.columns)) (line_of t i) d) (due_before ts us h (i - t.rows * t.columns))

-- a table with the same lines, and what follows it being the same for m lines
same_tables : (t u : Table) (ts us : List Table) (m : ℕ) → t.rows * t.columns ≡ u.rows * u.columns
    → ((i : ℕ) → i < u.rows * u.columns → line_of t i ≡ line_of u i)
    → ((i : ℕ) → i < m → due_in ts i ≡ due_in us i)
    → (i : ℕ) → i < u.rows * u.columns + m → due_in (t ∷ ts) i ≡ due_in (u ∷ us) i
same_tables t u ts us m e same rest i h = rw e (by (ltb i (u.rows * u.columns)) refl)
  where
    by : (b : Bool) → ltb i (u.rows * u.columns) ≡ b
        → cond b (line_of t i) (due_in ts (i - u.rows * u.columns)) ≡ cond b (line_of u i) (due_in us (i - u.rows * u.columns))
    by true q = same i (ltb-true i (u.rows * u.columns) q)
    by false q = rest (i - u.rows * u.columns) (omega (arith, ltb-false i (u.rows * u.columns) q))

-- a line of the first table, and one behind it
in_front : (t : Table) (ts : List Table) (i : ℕ) → i < t.rows * t.columns → due_in (t ∷ ts) i ≡ line_of t i
in_front t ts i h = rw (lt-ltb i (t.rows * t.columns) h)

behind : (t : Table) (ts : List Table) (i j : ℕ) → i ≡ t.rows * t.columns + j → due_in (t ∷ ts) i ≡ due_in ts j
behind t ts i j e = rw (le-ltb i (t.rows * t.columns) (omega arith)) (ap (due_in ts) (omega arith))

-- the limits of step 0 stand as they stood
step_zero : (kind nu steps i : ℕ) → i < nu → line_of (limit_table kind nu steps) i ≡ line_of (table kind nu 1) i
step_zero kind nu steps i h = rw (mod-eq_of_lt h, div-eq_of_lt h, div-one i, mod-one i)

module _ (z : Sizes) where
  abbrev n : ℕ
  n = command_count z

  -- the limits as they stand and as they stood
  abbrev limits : ℕ → Table
  limits kind = limit_table kind z.nu z.steps

  abbrev former_limits : ℕ → Table
  former_limits kind = table kind z.nu 1

  -- the two tables before them, and those behind, the target's last
  abbrev costs : Table
  costs = table 2 n n

  abbrev gains : Table
  gains = table 3 n z.nx

  abbrev targets : List Table
  targets = table 8 n z.nr ∷ table 9 z.nr 1 ∷ []

  abbrev behind_limits : List Table → List Table
  behind_limits rest = table 6 1 1 ∷ table 7 z.nx 1 ∷ rest

  abbrev from_limits : List Table
  from_limits = limits 4 ∷ limits 5 ∷ behind_limits targets

  abbrev from_former : List Table
  from_former = former_limits 4 ∷ former_limits 5 ∷ behind_limits targets

  -- where m lines from the first 04 on are the same, all before them are
  front_same : (m : ℕ) → ((j : ℕ) → j < m → due_in from_limits j ≡ due_in from_former j)
      → (i : ℕ) → i < low_base z + m → due_at z i ≡ former.due_at before_horizon z i
  unfolding due_at former.due_at low_base
  front_same m same i h =
      same_tables costs costs (gains ∷ from_limits) (gains ∷ from_former) (n * z.nx + m) refl (λ j l. refl)
      (same_tables gains gains from_limits from_former m refl (λ j l. refl) same) i (omega arith)

  -- ---- N is 1
  module _ (one : z.steps ≡ 1) where
    count : z.nu * z.steps ≡ z.nu * 1
    count = ap (λ (k : ℕ). z.nu * k) one

    step_one : (kind i : ℕ) → i < z.nu * 1 → line_of (limits kind) i ≡ line_of (former_limits kind) i
    step_one kind i h = step_zero kind z.nu z.steps i (omega arith)

    due_one : (i : ℕ) → due_at z i ≡ former.due_at before_horizon z i
    due_one i =
        front_same (i + 1)
        (λ j l. same_tables (limits 4) (former_limits 4) (limits 5 ∷ behind_limits targets) (former_limits 5 ∷ behind_limits targets) (j + 1) count (step_one 4)
        (λ k m. same_tables (limits 5) (former_limits 5) (behind_limits targets) (behind_limits targets) (k + 1) count (step_one 5) (λ _ _. refl) k (omega arith)) j (omega arith))
        i (omega arith)

  -- ---- N is above 1
  module _ (o : Sound z) (more : 1 < z.steps) where
    -- the lows of step 0 stand as they stood, and all lines before them
    due_until : (i : ℕ) → i < low_base z + z.nu → due_at z i ≡ former.due_at before_horizon z i
    due_until =
        front_same z.nu
        (λ j l. in_front (limits 4) (limits 5 ∷ behind_limits targets) j (omega (arith, two_commands z more)) ∙ step_zero 4 z.nu z.steps j l ∙ sym (in_front (former_limits 4) (former_limits 5 ∷ behind_limits targets) j (omega arith)))

    -- and there a 05 was due, where a 04 is
    five_was_due : former.due_at before_horizon z (low_base z + z.nu) ≡ due 5 0 0
    unfolding former.due_at low_base
    five_was_due =
        behind costs (gains ∷ from_former) (n * n + n * z.nx + z.nu) (n * z.nx + z.nu) (omega arith)
        ∙ behind gains from_former (n * z.nx + z.nu) z.nu refl
        ∙ behind (former_limits 4) (former_limits 5 ∷ behind_limits targets) z.nu 0 (omega arith)
        ∙ in_front (former_limits 5) (behind_limits targets) 0 (omega (arith, o.nu_low))

    four_is_due : due_at z (low_base z + z.nu) ≡ due 4 0 1
    four_is_due =
        let e : low_base z + z.nu - low_base z ≡ z.nu = omega arith in
        low_due z (low_base z + z.nu) (omega arith, omega (arith, two_commands z more, o.nu_low)) ∙ rw (e, mod_self z.nu, div_self o.nu_low)

    pub first_difference : FirstDifference z (low_base z + z.nu)
    first_difference = record { before = due_until; was_due = five_was_due; is_due_lem = four_is_due }

-- ---- sizes that need none of the requests that a version lacks
module _ (v : Version) (z : Sizes) (f : Fits v z) where
  -- the tables by the cases of requests 3 and 1
  abbrev listed : Table → Table → List Table → List Table
  listed lows highs rest = costs z ∷ gains z ∷ lows ∷ highs ∷ behind_limits z rest

  -- a value of the tables that neither of the two changes
  unchanged : {B : Type 0} (g : List Table → B)
      → (v.horizon ≡ false → g (listed (limits z 4) (limits z 5) (targets z)) ≡ g (listed (former_limits z 4) (former_limits z 5) (targets z)))
      → (v.targets ≡ false → (lows highs : Table) → g (listed lows highs (targets z)) ≡ g (listed lows highs []))
      → g (listed (limits z 4) (limits z 5) (targets z)) ≡ g (former.tables v z)
  unchanged g h t =
      by v.horizon refl
      ∙ part v (λ (l : List Table). g (listed (former.limits v 4 z) (former.limits v 5 z) l)) (targets z) (λ e. t e (former.limits v 4 z) (former.limits v 5 z))
    where
      by : (b : Bool) → v.horizon ≡ b
          → g (listed (limits z 4) (limits z 5) (targets z)) ≡ g (listed (cond b (limits z 4) (former_limits z 4)) (cond b (limits z 5) (former_limits z 5)) (targets z))
      by true e = refl
      by false e = h e

  pub total_same : total z ≡ former.total v z
  unfolding total former.total
  total_same = unchanged count_in (λ e. rw (f.one_step e)) (λ e lows highs. rw (f.no_targets e) (omega arith))

  pub due_same : (i : ℕ) → due_at z i ≡ former.due_at v z i
  unfolding due_at former.due_at no_lines
  due_same i =
      unchanged (λ (l : List Table). due_in l i) (λ e. due_one z (f.one_step e) i)
      (λ e lows highs. due_before (listed lows highs []) (targets z) (rw (f.no_targets e) (omega arith), (rw (f.no_targets e) (omega arith), tt)) i)
