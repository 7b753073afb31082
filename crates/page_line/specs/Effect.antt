-- Document 02, request 2: what rounding did to a design number, and its line on the design page. Definitions only.
use Rattle.std.specs.Prelude.{ℕ, Bool, false, cond, List, [], ◌∷◌, ◌++◌, pos, Float}
use Rattle.std.specs.Float.{fin, binary64}
use Rattle.std.specs.Float.Ieee.{eq, to_bits}
use Rattle.hexadecimal.specs.Hex.{hex_digits}
use Rattle.frame.specs.declared.Due.{Due}
use Rattle.page_line.specs.declared.Effect.{Effect}
use Rattle.page_line.specs.declared.Effect.TheVariants.{Kept, Moved}

-- ---- kept or moved

-- whether a double x is "kept as given" where y is the double of its word: `eq` compares values, so "minus zero is K"
unfoldable pub is_kept : Float → Float → Bool
is_kept x y = eq x y

-- "Each design number is either kept as given or moved"
unfoldable pub effect_of : Float → Float → Effect
effect_of x y = cond (is_kept x y) (Kept x) (Moved x y)

-- the "given double"
abbrev pub given : Effect → Float
given (Kept x) = x
given (Moved x y) = x

-- "Minus zero .., and its kept double is plus zero"; any other double as it is
abbrev pub plus_for_minus : Float → Float
plus_for_minus x = cond (eq x (fin false 0 (pos 0))) (fin false 0 (pos 0)) x

-- the "kept double"
abbrev pub kept : Effect → Float
kept (Kept x) = plus_for_minus x
kept (Moved x y) = y

-- "K or M"
abbrev pub mark : Effect → ℕ
mark (Kept x) = 75
mark (Moved x y) = 77

-- ---- the line

-- "A line has 43 characters and byte 10: kind, space, row and column, space, given double, space, kept double, space, K or M"
abbrev pub line_fields : List ℕ → List ℕ → List ℕ → List ℕ → ℕ → List ℕ
line_fields kind place given kept mark = kind ++ 32 ∷ [] ++ place ++ 32 ∷ [] ++ given ++ 32 ∷ [] ++ kept ++ 32 ∷ mark ∷ 10 ∷ []

-- "all in hexadecimal digits but the mark"
unfoldable pub line_text : Due → Effect → List ℕ
line_text d e =
    line_fields (hex_digits 2 d.kind) (hex_digits 2 d.row ++ hex_digits 2 d.column) (hex_digits 16 (to_bits binary64 (given e))) (hex_digits 16 (to_bits binary64 (kept e))) (mark e)

-- ---- what the code writes at one go

-- the two doubles and the mark
unfoldable pub fields_text : Float → Float → ℕ → List ℕ
fields_text x y m = hex_digits 16 (to_bits binary64 x) ++ 32 ∷ [] ++ hex_digits 16 (to_bits binary64 y) ++ 32 ∷ [] ++ m ∷ []

abbrev pub effect_text : Effect → List ℕ
effect_text e = fields_text (given e) (kept e) (mark e)
