use native.Mathlib.Omega.{arith}
use mathlib.Core.Path.{◌≡◌, refl, ap, ◌∙◌}
use mathlib.Core.List.{List, [], ◌∷◌, ◌++◌}
use Prim.Native.Nat.{ℕ, ◌+◌, ◌/◌, ◌%◌, ◌≤◌}
use lib.ListN.{length, set}
use Rattle.word.specs.Ascii.{ascii}
use Rattle.word.specs.Buffer.{put_at}
use Rattle.word.specs.Digits.{digits_be}
use Rattle.word.proofs.Buffer.{set_next}
use Rattle.text.specs.Text.{refusal}
use Rattle.text.proofs.put_refusal.Goals as goal

-- "refused ", two digits, byte 10
by_steps : (s : List ℕ) (n : ℕ) → 11 ≤ length s → set (set (set (put_at s 0 (ascii "refused ")) 8 (48 + n / 10 % 10)) 9 (48 + n % 10)) 10 10 ≡ put_at s 0 (refusal n)
unfolding refusal digits_be
by_steps s n h =
    let t = ascii "refused " in
    let a = 48 + n / 10 % 10 in
    let b = 48 + n % 10 in
    ap (λ (o : List ℕ). set (set o 9 b) 10 10) (set_next s 0 t 8 a refl (omega arith))
    ∙ ap (λ (o : List ℕ). set o 10 10) (set_next s 0 (t ++ a ∷ []) 9 b refl (omega arith))
    ∙ set_next s 0 ((t ++ a ∷ []) ++ b ∷ []) 10 10 refl (omega arith)

pub returns : goal.returns
unfolding put_at
returns c = rw c.copy_from_slice.ensures.after (by_steps c.args.out.now c.args.number c.requires)
