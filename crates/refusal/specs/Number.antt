-- Document 01, "Place of each check", and documents after it: the number of each refusal. Assumes nothing.
use Rattle.std.specs.Prelude.{ℕ, Result, Ok, Err}
use Rattle.refusal.specs.declared.Refusal.{Refusal}
use Rattle.refusal.specs.declared.Refusal.TheVariants.{Malformed, Misplaced, Size, Count, Word, Length, Limits, Symmetry, Margin, Total, Momentum, Headroom, State, Start, Buffer, Target, Stop, Idle, Waiting, Sweeps, Factors}

-- the number that C sees of a refusal
abbrev pub number : Refusal → ℕ
number Malformed = 1
number Misplaced = 2
number Size = 3
number Count = 4
number Word = 5
number Length = 6
number Limits = 7
number Symmetry = 8
number Margin = 9
number Total = 10
number Momentum = 11
number Headroom = 12
number State = 13
number Start = 14
number Buffer = 15
number Target = 16
number Stop = 17
number Idle = 18
number Waiting = 19
number Sweeps = 20
number Factors = 21

-- the number of a call: 0 of one that was answered
abbrev pub number_of : {A : Type 0} → Result A Refusal → ℕ
number_of (Ok x) = 0
number_of (Err why) = number why
