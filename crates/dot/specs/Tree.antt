-- The ways of adding a row's terms, each sum being of neighbours: the former adder tree, a loop, or any other. Assumes nothing.
use Rattle.std.specs.Prelude.{◌≡◌, cond, ℕ, zero, suc, ◌+◌, ◌-◌, ◌/◌, ◌≤◌, leb, ℤ, pos, ◌+ℤ◌}
use Rattle.gradient.specs.Index.{sum_z}
use Rattle.gradient.specs.Demand.{In64}
use Rattle.dot.specs.Sums.{RunsTo}

-- an adder tree: of no terms, a term, or two sums side by side
pub data Tree : Type 0 where
  empty : Tree
  term : Tree
  both : Tree → Tree → Tree

-- how many terms it adds
abbrev pub terms : Tree → ℕ
terms empty = 0
terms term = 1
terms (both l r) = terms l + terms r

-- the sum of the terms from a on, as the tree adds them
abbrev pub tree_sum : Tree → (ℕ → ℤ) → ℕ → ℤ
tree_sum empty f a = pos 0
tree_sum term f a = f a
tree_sum (both l r) f a = tree_sum l f a +ℤ tree_sum r f (a + terms l)

-- P holds of every sum on the way, the whole one included
abbrev pub EachSum : (ℤ → Type 0) → Tree → (ℕ → ℤ) → ℕ → Type 0
EachSum P empty f a = P (pos 0)
EachSum P term f a = P (f a)
EachSum P (both l r) f a = EachSum P l f a × EachSum P r f (a + terms l) × P (tree_sum (both l r) f a)

-- document 01's adder tree of n terms: by halves, the first the larger, at most depth times
abbrev pub halves_within : ℕ → ℕ → Tree
halves_within zero n = empty
halves_within (suc depth) n = cond (leb n 1) term (both (halves_within depth (n - n / 2)) (halves_within depth (n / 2)))

abbrev pub halves : ℕ → Tree
halves n = halves_within n n

-- "sums are exact, so every caller sees the same sums": all trees of as many terms have one sum
abbrev pub SameSums : Type 0
SameSums = (t u : Tree) (f : ℕ → ℤ) (a : ℕ) → terms t ≡ terms u → tree_sum t f a ≡ tree_sum u f a

-- the former adder tree has the sum that a row sum promises, also of a row of no terms
abbrev pub SumsByHalves : Type 0
SumsByHalves = (f : ℕ → ℤ) (a n : ℕ) → tree_sum (halves n) f a ≡ sum_z f a n

-- where sums of neighbours are within 64 bits, so is every sum on the way, whatever the tree
abbrev pub EachWithin64 : Type 0
EachWithin64 = (t : Tree) (f : ℕ → ℤ) (a n : ℕ) → RunsTo n f → a + terms t ≤ n → EachSum In64 t f a
