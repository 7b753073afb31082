-- Checks 13, 16 and 14 by index, as a loop goes through them. Assumes nothing.
use mathlib.Core.Path.{◌≡◌}
use mathlib.Core.Bool.{Bool, ◌&&◌}
use mathlib.Core.List.{List}
use Prim.Native.Nat.{ℕ, ◌*◌}
use lib.Dec.{leb}
use lib.IntN.{ℤ, pos, nat_abs}
use lib.Signed.{le_z}
use Rattle.word.specs.Word.{word_at, words_at}
use Rattle.word.proofs.Words.{length_words_at, get_d_words_front}
use Rattle.gradient.specs.Demand.{start_within}
use Rattle.gradient.specs.Index.{all_to}
use Rattle.gradient.proofs.Tests.{every2_to}
use Rattle.image.specs.declared.Sizes.{Sizes}
use Rattle.image.specs.declared.Input.{Input}
use Rattle.image.specs.Sizes.{command_count, input_count}
use Rattle.image.specs.Layout.{lower_at, upper_at, limit_at, limits_of, problem_at}
use Rattle.interface.specs.Calls.{values_of, values_within, start_of}
use Rattle.interface.proofs.Accept.{within_to, limits_count, input_limit_at}

-- ---- 13 and 16: a value of an input, and its limit
abbrev pub value_test : Input → Sizes → List ℕ → List ℕ → ℕ → Bool
value_test v z s values j = leb (nat_abs (word_at values (4 * j))) (nat_abs (limit_at v z s j))

pub values_to : (v : Input) (z : Sizes) (s values : List ℕ) → values_within v z s values ≡ all_to (value_test v z s values) (input_count v z)
unfolding values_within values_of
values_to v z s values =
    let n = input_count v z in
    every2_to (λ (x : ℤ) (b : ℕ). leb (nat_abs x) b) (words_at values 0 n) (limits_of v z s) (pos 0) 0 n
    (length_words_at values 0 n) (limits_count z s v) (value_test v z s values)
    (λ j l. rw (get_d_words_front values n j l, input_limit_at z s v j l))

-- ---- 14: a command of the start, and its limits
abbrev pub start_test : Sizes → List ℕ → List ℕ → ℕ → Bool
start_test z s start k = le_z (lower_at z s k) (word_at start (4 * k)) && le_z (word_at start (4 * k)) (upper_at z s k)

pub start_to : (z : Sizes) (s start : List ℕ) → start_within (problem_at z s) (start_of z start) ≡ all_to (start_test z s start) (command_count z)
unfolding start_of
start_to z s start =
    let n = command_count z in
    within_to z s (words_at start 0 n) (λ (k : ℕ). word_at start (4 * k)) (length_words_at start 0 n) (λ k l. get_d_words_front start n k l)
