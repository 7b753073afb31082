-- The lines due, by their place, are the tables' lines one after the other, each in its own order. Assumes nothing.
use mathlib.Core.Path.{◌≡◌, refl, sym, ap, ◌∙◌, subst}
use mathlib.Core.Bool.{Bool, true, false, cond}
use mathlib.Core.List.{List, [], ◌∷◌, ◌++◌}
use Prim.Native.Nat.{ℕ, zero, suc, ◌+◌, ◌-◌, ◌*◌, ◌/◌, ◌%◌, ◌<◌}
use native.Mathlib.Nat.{suc-mul, zero-mul, mul_comm, mul-add-div_right, mul-add-mod_self_right, mod-eq_of_lt, div-eq_of_lt, add-zero}
use native.Mathlib.Omega.{arith}
use lib.Dec.{ltb}
use lib.ListN.{length, get_or, length-append, get_or-append}
use lib.Seq.{get_or-append-add, ext_get_or}
use borrow.Author.Tests.{ltb-true, ltb-false}
use Rattle.gradient.specs.Index.{tab}
use Rattle.gradient.proofs.Index.{tab_length, tab_at}
use Rattle.image.specs.declared.Sizes.{Sizes}
use Rattle.frame.specs.declared.Due.{Due}
use Rattle.frame.specs.Frame.{Table, count_in, due, due_at, due_in, line_of, tables, total}
use Rattle.frame.specs.Laws.{nested, table_lines, tables_lines}

abbrev no : Due
no = due 0 0 0

-- an inner number after the other, for each outer one
module _ (f : ℕ → ℕ → Due) where
  nested_length : (o w : ℕ) → length (nested f o w) ≡ o * w
  nested_length zero w = sym (zero-mul w)
  nested_length (suc o) w = let e = nested_length o w in omega (arith, length-append (nested f o w) (tab (f o) w), tab_length (f o) w, suc-mul o w)

  nested_at : (o w i : ℕ) → i < o * w → get_or (nested f o w) i no ≡ f (i / w) (i % w)
  nested_at zero w i h = let x : ⊥ = omega (arith, zero-mul w) in absurd x
  nested_at (suc o) w i h = by (λ l. nested_at o w i l) (ltb i (o * w)) refl
    where
      by : (i < o * w → get_or (nested f o w) i no ≡ f (i / w) (i % w)) → (t : Bool) → ltb i (o * w) ≡ t → get_or (nested f o w ++ tab (f o) w) i no ≡ f (i / w) (i % w)
      by again true e =
          let l = ltb-true i (o * w) e in
          get_or-append (nested f o w) (tab (f o) w) no i (omega (arith, nested_length o w)) ∙ again l
      by again false e =
          let l = ltb-false i (o * w) e in
          let j : length (nested f o w) + (i - o * w) ≡ i = omega (arith, nested_length o w) in
          let inside : i - o * w < w = omega (arith, suc-mul o w) in
          let some : 0 < w = omega arith in
          let is : o * w + (i - o * w) ≡ i = omega arith in
          let q : i / w ≡ o = ap (λ (m : ℕ). m / w) (sym is) ∙ mul-add-div_right some o (i - o * w) ∙ ap (λ (m : ℕ). o + m) (div-eq_of_lt inside) ∙ add-zero o in
          let p : i % w ≡ i - o * w = ap (λ (m : ℕ). m % w) (sym is) ∙ mul-add-mod_self_right o w (i - o * w) ∙ mod-eq_of_lt inside in
          subst (λ (m : ℕ). get_or (nested f o w ++ tab (f o) w) m no ≡ f o (i - o * w)) j
          (get_or-append-add (nested f o w) (tab (f o) w) (i - o * w) no ∙ tab_at (f o) w (i - o * w) no inside)
          ∙ rw (q, p)

-- the lines of a table, in either order
module _ (k r c : ℕ) where
  abbrev by_row : ℕ → ℕ → Due
  by_row row column = due k row column

  abbrev by_column : ℕ → ℕ → Due
  by_column column row = due k row column

  either_length : (m : Bool) → length (cond m (nested by_column c r) (nested by_row r c)) ≡ r * c
  either_length true = nested_length by_column c r ∙ mul_comm c r
  either_length false = nested_length by_row r c

  either_at : (m : Bool) (i : ℕ) → i < r * c → get_or (cond m (nested by_column c r) (nested by_row r c)) i no ≡ cond m (due k (i % r) (i / r)) (due k (i / c) (i % c))
  either_at true i h = nested_at by_column c r i (subst (λ (n : ℕ). i < n) (mul_comm r c) h)
  either_at false i h = nested_at by_row r c i h

module _ (t : Table) where
  table_length : length (table_lines t) ≡ t.rows * t.columns
  table_length = either_length t.kind t.rows t.columns t.column_major

  table_at : (i : ℕ) → i < t.rows * t.columns → get_or (table_lines t) i no ≡ line_of t i
  table_at i h = either_at t.kind t.rows t.columns t.column_major i h

pub tables_length : (ts : List Table) → length (tables_lines ts) ≡ count_in ts
tables_length [] = refl
tables_length (t ∷ ts) = let e = tables_length ts in omega (arith, length-append (table_lines t) (tables_lines ts), table_length t)

pub tables_at : (ts : List Table) (i : ℕ) → i < count_in ts → get_or (tables_lines ts) i no ≡ due_in ts i
tables_at [] i h = refl
tables_at (t ∷ ts) i h = by (λ l. tables_at ts (i - t.rows * t.columns) l) (ltb i (t.rows * t.columns)) refl
  where
    by : (i - t.rows * t.columns < count_in ts → get_or (tables_lines ts) (i - t.rows * t.columns) no ≡ due_in ts (i - t.rows * t.columns)) → (b : Bool) → ltb i (t.rows * t.columns) ≡ b → get_or (table_lines t ++ tables_lines ts) i no ≡ cond b (line_of t i) (due_in ts (i - t.rows * t.columns))
    by again true e =
        let l = ltb-true i (t.rows * t.columns) e in
        get_or-append (table_lines t) (tables_lines ts) no i (omega (arith, table_length t)) ∙ table_at t i l
    by again false e =
        let l = ltb-false i (t.rows * t.columns) e in
        let j : length (table_lines t) + (i - t.rows * t.columns) ≡ i = omega (arith, table_length t) in
        subst (λ (m : ℕ). get_or (table_lines t ++ tables_lines ts) m no ≡ due_in ts (i - t.rows * t.columns)) j
        (get_or-append-add (table_lines t) (tables_lines ts) (i - t.rows * t.columns) no ∙ again (omega arith))

pub listed : (z : Sizes) → tab (due_at z) (total z) ≡ tables_lines (tables z)
unfolding due_at total
listed z =
    ext_get_or no (tab (due_in (tables z)) (count_in (tables z))) (tables_lines (tables z)) (tab_length (due_in (tables z)) (count_in (tables z)) ∙ sym (tables_length (tables z)))
    (λ i h.
    let l : i < count_in (tables z) = subst (λ (m : ℕ). i < m) (tab_length (due_in (tables z)) (count_in (tables z))) h in
    tab_at (due_in (tables z)) (count_in (tables z)) i no l ∙ sym (tables_at (tables z) i l))
