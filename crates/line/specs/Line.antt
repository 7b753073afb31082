-- Document 01, "The design sheet": what stands at a place of the text. Definitions only.
use Rattle.std.specs.Prelude.{ℕ, ◌+◌, Bool, ◌&&◌, cond, List, length, get_or, leb, eqb, Result, Ok, Err}
use Rattle.hexadecimal.specs.Hex.{hexes, hex_at}
use Rattle.refusal.specs.Number.{number_of}
use Rattle.refusal.specs.declared.Refusal.{Refusal}
use Rattle.refusal.specs.declared.Refusal.TheVariants.{Malformed, Count}
use Rattle.line.specs.declared.Frame.{Frame}

-- "22 such digits and byte 10"; a byte past the end reads as 0, which is neither, so "a cut line" is no frame
abbrev pub is_frame : List ℕ → ℕ → Bool
is_frame s at = hexes 22 s at && eqb (get_or s (at + 22) 0) 10

-- "a kind, a row and a column of one byte each and 8 value bytes, most significant first"
abbrev pub frame_at : List ℕ → ℕ → Frame
frame_at s at = record { kind = hex_at 2 s at; row = hex_at 2 s (at + 2); column = hex_at 2 s (at + 4); bits = hex_at 16 s (at + 6) }

-- the line at a place: no byte is left, or "one frame a line", or neither
unfoldable pub line_at : List ℕ → ℕ → Result Frame Refusal
line_at s at = cond (leb (length s) at) (Err Count) (cond (is_frame s at) (Ok (frame_at s at)) (Err Malformed))

-- document 01's number of a line: that of its refusal, 4 for "a line missing", 1 for "not 22 such digits and byte 10"
abbrev pub line_number : Result Frame Refusal → ℕ
line_number l = number_of l

-- the number of the line at a place: "ends between lines too early is 4; a cut line is 1"
abbrev pub number_at : List ℕ → ℕ → ℕ
number_at s at = cond (leb (length s) at) 4 (cond (is_frame s at) 0 1)
