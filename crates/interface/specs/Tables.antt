-- Document 01, "Place of each check": the tables, and the number of an image. Assumes nothing.
use Rattle.std.specs.Prelude.{ℕ, zero, suc, ◌+◌, ◌-◌, ◌*◌, ◌^◌, Bool, cond, ◌&&◌, List, [], ◌∷◌, eqb, leb, ℤ, pos, nat_abs, ◌+ℤ◌, ◌-ℤ◌, ◌*ℤ◌}
use Rattle.std.specs.Int.Signed.{le_z}
use Rattle.word.specs.Format.{top}
use Rattle.word.specs.Word.{word_at}
use Rattle.gradient.specs.Index.{sum_n, all_to}
use Rattle.gradient.specs.Bounds.{range_p, range_y, range_a, range_b}
use Rattle.image.specs.declared.Sizes.{Sizes}
use Rattle.image.specs.Order.{Check, check, first_fault, or_else}
use Rattle.image.specs.Sizes.{command_count}
use Rattle.image.specs.Layout.{sizes_of, cost_row, cost_at, lower_at, upper_at, momentum_at, command_at, problem_at}
use Rattle.image.specs.Checks.{head_number, body_number}

-- ---- 7: "a low above its high"
abbrev pub order_test : Sizes → List ℕ → ℕ → Bool
order_test z s i = le_z (lower_at z s i) (upper_at z s i)

-- ---- 17: not "a command whose low is above 0 or whose high is below 0"
abbrev pub stop_test : Sizes → List ℕ → ℕ → Bool
stop_test z s i = le_z (lower_at z s i) (pos 0) && le_z (pos 0) (upper_at z s i)

-- ---- 8: "H not symmetric"
abbrev pub eq_z : ℤ → ℤ → Bool
eq_z a c = le_z a c && le_z c a

unfoldable pub symmetry_test : Sizes → List ℕ → ℕ → Bool
symmetry_test z s i = all_to (λ (j : ℕ). eq_z (cost_at z s i j) (cost_at z s j i)) (command_count z)

-- ---- 9 and 10
-- "the magnitudes of the others" of row i of H, from the part of the image that starts there
abbrev pub others_of : List ℕ → ℕ → ℕ → ℕ
others_of row i n = sum_n (λ (j : ℕ). cond (eqb i j) 0 (nat_abs (word_at row (4 * j)))) n

unfoldable pub others_at : Sizes → List ℕ → ℕ → ℕ
others_at z s i = others_of (cost_row z s i) i (command_count z)

-- "the diagonal less the magnitudes of the others"
unfoldable pub margin_at : Sizes → List ℕ → ℕ → ℤ
margin_at z s i = cost_at z s i i -ℤ pos (others_at z s i)

-- "the diagonal plus those magnitudes"
unfoldable pub total_at : Sizes → List ℕ → ℕ → ℤ
total_at z s i = cost_at z s i i +ℤ pos (others_at z s i)

-- the margin is not "below 1 count", the total not "above 2^b"
abbrev pub margin_test : Sizes → List ℕ → ℕ → Bool
margin_test z s i = le_z (pos 1) (margin_at z s i)

abbrev pub total_test : Sizes → List ℕ → ℕ → Bool
total_test z s i = le_z (total_at z s i) (pos (2 ^ z.b))

-- 9 and 10 pass in every row: what D of request 8 hangs on
unfoldable pub distance_given : Sizes → List ℕ → Bool
distance_given z s = all_to (margin_test z s) (command_count z) && all_to (total_test z s) (command_count z)

-- ---- 11
abbrev pub min_z : ℤ → ℤ → ℤ
min_z a c = cond (le_z a c) a c

abbrev pub max_z : ℤ → ℤ → ℤ
max_z a c = cond (le_z c a) a c

-- the least of f 0 .. f n, the largest
abbrev pub least_to : (ℕ → ℤ) → ℕ → ℤ
least_to f zero = f 0
least_to f (suc n) = min_z (least_to f n) (f (suc n))

abbrev pub largest_to : (ℕ → ℤ) → ℕ → ℤ
largest_to f zero = f 0
largest_to f (suc n) = max_z (largest_to f n) (f (suc n))

-- "least margin of 9", "largest total of 10"
unfoldable pub least_margin : Sizes → List ℕ → ℤ
least_margin z s = least_to (margin_at z s) (command_count z - 1)

unfoldable pub largest_total : Sizes → List ℕ → ℤ
largest_total z s = largest_to (total_at z s) (command_count z - 1)

-- request 8: "m the least margin of check 9 in counts"; the margin itself where 9 passes, as it does in every accepted image
unfoldable pub margin_of : List ℕ → ℕ
margin_of s = nat_abs (least_margin (sizes_of s) s)

-- "β below 0 or above 2^b − 1"
unfoldable pub momentum_range : Sizes → List ℕ → Bool
momentum_range z s = le_z (pos 0) (momentum_at z s) && le_z (momentum_at z s) (pos (2 ^ z.b - 1))

-- "(2^b + β)² × least margin of 9 below (2^b − β)² × largest total of 10"
unfoldable pub momentum_ratio : Sizes → List ℕ → Bool
momentum_ratio z s =
    let f = pos (2 ^ z.b) in
    let m = momentum_at z s in
    le_z ((f -ℤ m) *ℤ (f -ℤ m) *ℤ largest_total z s) ((f +ℤ m) *ℤ (f +ℤ m) *ℤ least_margin z s)

-- ---- 12: "P, Y and A + B are at most top"
unfoldable pub range_test : Sizes → List ℕ → ℕ → Bool
range_test z s i = leb (range_p (problem_at z s) (command_at z s i)) (top z.w) && leb (range_y (problem_at z s) (command_at z s i)) (top z.w)

unfoldable pub row_test : Sizes → List ℕ → ℕ → Bool
row_test z s i = leb (range_a (problem_at z s) (command_at z s i) + range_b (problem_at z s) (command_at z s i)) (top z.w)

-- ---- in order
-- the tables' own checks, which a sheet is tested by too
abbrev pub table_checks : Sizes → List ℕ → List Check
table_checks z s =
    let n = command_count z in
    check 7 (all_to (order_test z s) n)
    ∷ check 17 (all_to (stop_test z s) n)
    ∷ check 8 (all_to (symmetry_test z s) n)
    ∷ check 9 (all_to (margin_test z s) n)
    ∷ check 10 (all_to (total_test z s) n)
    ∷ check 11 (momentum_range z s)
    ∷ check 11 (momentum_ratio z s)
    ∷ check 12 (all_to (range_test z s) n)
    ∷ check 12 (all_to (row_test z s) n)
    ∷ []

-- the number of the first that fails
unfoldable pub tables_number : Sizes → List ℕ → ℕ
tables_number z s = first_fault (table_checks z s)

-- the number of an image: "6, 3, 6, 5, then 7 to" 12, with 17 "after 7 and before 8"
unfoldable pub image_number : List ℕ → ℕ
image_number s = or_else (head_number s) (or_else (body_number (sizes_of s) s) (tables_number (sizes_of s) s))
