-- What the law of the lines due states. Definitions only.
use Rattle.std.specs.Prelude.{ℕ, zero, suc, cond, List, [], ◌∷◌, ◌++◌}
use Rattle.gradient.specs.Index.{tab}
use Rattle.frame.specs.declared.Due.{Due}
use Rattle.frame.specs.Frame.{Table, due}

-- ---- the lines due, written out

-- for each outer number in turn the inner ones, "all counted from 0"
abbrev pub nested : (ℕ → ℕ → Due) → ℕ → ℕ → List Due
nested f zero inner = []
nested f (suc outer) inner = nested f outer inner ++ tab (f outer) inner

-- the lines of one table: "rows outermost", or "steps outermost and motors within"
abbrev pub table_lines : Table → List Due
table_lines t =
    cond t.column_major (nested (λ column row. due t.kind row column) t.columns t.rows) (nested (λ row column. due t.kind row column) t.rows t.columns)

-- "order of the lines": table after table
abbrev pub tables_lines : List Table → List Due
tables_lines [] = []
tables_lines (t ∷ ts) = table_lines t ++ tables_lines ts
