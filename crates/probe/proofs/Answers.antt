-- What a call writes: accepted words fit their four bytes, and a word's double has a pattern. Assumes nothing.
use mathlib.Core.Path.{◌≡◌, refl, sym, ap, ◌∙◌}
use mathlib.Core.Bool.{Bool, true, false, ◌&&◌, cond, not}
use mathlib.Core.List.{List, [], ◌∷◌, ◌++◌, append-nil}
use Prim.Native.Nat.{ℕ, ◌+◌}
use native.Mathlib.Omega.{arith}
use lib.Dec.{T, eqb}
use lib.IntN.{ℤ}
use lib.ListN.{length, length-append}
use lib.Ieee.{Float, nan, inf, fin, is_nan}
use mir.Syntax.{w32}
use mir.Val.{SFits, of_z}
use Rattle.integer.proofs.Machine.{sfits_abs}
use Rattle.integer.proofs.Tests.{both}
use Rattle.word.specs.Buffer.{put_at}
use Rattle.word.specs.Word.{word_bytes, words_out, pattern_bytes}
use Rattle.word.specs.Format.{is_format, in_word}
use Rattle.word.proofs.Format.{format, top_high, in_word_abs}
use Rattle.word.proofs.Buffer.{put_put, put_whole}
use Rattle.word.proofs.Words.{length_bytes}
use Rattle.double.specs.Double.{accepted, accepted_limits, scalable, rounded, round_up, round_down, convert_limits, double_number, answered_value, HasQuotient}
use Rattle.double.specs.declared.Limits.{Limits}
use Rattle.refusal.specs.declared.Refusal.{Refusal}
use Rattle.std.specs.Prelude.{Option, Some, None, Result, Ok, Err, IfOk}

-- ---- an accepted word
pub accepted_fits : (rule : ℤ → ℕ → ℤ) (b w : ℕ) (x : Float) → accepted rule b w x ≡ true → SFits w32 (rounded rule b x)
unfolding accepted
accepted_fits rule b w x e =
    let t = both (is_format b w && scalable b x) (in_word w (rounded rule b x)) e in
    let f = format b w (both (is_format b w) (scalable b x) t.0).0 in
    sfits_abs (rounded rule b x) (in_word_abs w (rounded rule b x) t.1) (top_high w f.width_most)

-- ---- a pair of limits
pub record Accepted (b w : ℕ) (l : Limits) (low high : ℤ) : Type 0 where
  pub both_accepted : accepted_limits b w l ≡ true
  pub low_is : low ≡ rounded round_up b l.low
  pub high_is : high ≡ rounded round_down b l.high
  pub low_fits : SFits w32 low
  pub high_fits : SFits w32 high

module _ (b w : ℕ) (l : Limits) where
  pub pair_accepted : {low high : ℤ} → convert_limits b w l ≡ Some (low, high) → Accepted b w l low high
  pair_accepted {low} {high} = go (accepted_limits b w l) refl
    where
      go : (t : Bool) → accepted_limits b w l ≡ t → cond {A = Option (ℤ × ℤ)} t (Some (rounded round_up b l.low, rounded round_down b l.high)) None ≡ Some (low, high) → Accepted b w l low high
      go true q e =
          let p = both (accepted round_up b w l.low) (accepted round_down b w l.high) q in
          let k : ◌≡◌ {A = ℤ × ℤ} (rounded round_up b l.low, rounded round_down b l.high) (low, high) = cc in
          let i = sym (ap (λ (x : ℤ × ℤ). x.0) k) in
          let j = sym (ap (λ (x : ℤ × ℤ). x.1) k) in
          record {
            both_accepted = q;
            low_is = i;
            high_is = j;
            low_fits = rw i (accepted_fits round_up b w l.low p.0);
            high_fits = rw j (accepted_fits round_down b w l.high p.1);
          }
      go false q e = let z : ◌≡◌ {A = ℕ} 0 1 = cc in absurd (let n : ⊥ = omega arith in n)

-- ---- one word, two words, a pattern
pub put_one : (out : List ℕ) (z : ℤ) → length out ≡ 4 → put_at out 0 (word_bytes z) ≡ words_out (z ∷ [])
unfolding words_out
put_one out z h = put_whole out (word_bytes z) (h ∙ sym (length_bytes 4 (of_z w32 z))) ∙ sym (append-nil (word_bytes z))

two : (out xs ys : List ℕ) → length out ≡ 8 → length xs ≡ 4 → length ys ≡ 4 → put_at (put_at out 0 xs) 4 ys ≡ xs ++ ys
two out xs ys h l m =
    let e : 4 ≡ 0 + length xs = omega arith in
    ap (λ (k : ℕ). put_at (put_at out 0 xs) k ys) e
    ∙ put_put out 0 xs ys (omega arith)
    ∙ put_whole out (xs ++ ys) (omega (arith, length-append xs ys))

pub put_two : (out : List ℕ) (low high : ℤ) → length out ≡ 8 → put_at (put_at out 0 (word_bytes low)) 4 (word_bytes high) ≡ words_out (low ∷ high ∷ [])
unfolding words_out
put_two out low high h =
    two out (word_bytes low) (word_bytes high) h (length_bytes 4 (of_z w32 low)) (length_bytes 4 (of_z w32 high)) ∙ ap (λ (r : List ℕ). word_bytes low ++ r) (sym (append-nil (word_bytes high)))

pub put_pattern_lem : (out : List ℕ) (n : ℕ) → length out ≡ 8 → put_at out 0 (pattern_bytes n) ≡ pattern_bytes n
put_pattern_lem out n h = put_whole out (pattern_bytes n) (h ∙ sym (length_bytes 8 n))

-- ---- the double of a word is no NaN
pub quotient_no_nan : (x : Float) (z : ℤ) (d : ℕ) → HasQuotient x z d → T (not (is_nan x))
unfolding is_nan
quotient_no_nan nan z d q = absurd q
quotient_no_nan (inf s) z d q = absurd q
quotient_no_nan (fin s m e) z d q = tt

-- nor is plus zero, which goes with a refusal
pub answer_no_nan : (r : Result Float Refusal) (z : ℤ) (d : ℕ) → IfOk r (λ (x : Float). HasQuotient x z d) → T (not (is_nan (answered_value r)))
unfolding is_nan
answer_no_nan (Ok x) z d q = quotient_no_nan x z d q
answer_no_nan (Err why) z d q = tt

-- the number of its answer is never 15
pub answer_below : (b w : ℕ) (z : ℤ) → eqb (double_number b w z) 15 ≡ false
answer_below b w z = by (is_format b w) (in_word w z)
  where
    by : (s t : Bool) → eqb (cond s (cond t 0 5) 3) 15 ≡ false
    by true true = refl
    by true false = refl
    by false t = refl
