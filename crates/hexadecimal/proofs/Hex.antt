-- Hexadecimal digits: one digit, the digits from a place on, and both ways round. Assumes nothing.
use mathlib.Core.Path.{◌≡◌, refl, sym, ap, ◌∙◌, subst}
use mathlib.Core.Bool.{Bool, true, false, ◌&&◌, cond, false≢true, and-true, and_assoc}
use mathlib.Core.List.{List, [], ◌∷◌, ◌++◌}
use mathlib.Core.Logic.{⊎_elim}
use Prim.Native.Nat.{ℕ, zero, suc, ◌+◌, ◌-◌, ◌*◌, ◌/◌, ◌%◌, ◌^◌, ◌≤◌, ◌<◌}
use native.Mathlib.Nat.{add_assoc, add-zero, add-suc, le_refl}
use native.Mathlib.Numerals.{add-one}
use native.Mathlib.Omega.{arith}
use lib.Dec.{T, leb, ltb}
use lib.ListN.{length, get_or, take, drop, set, length-drop, get_or-eq_default}
use lib.Seq.{take_at, take-suc, get_or-drop}
use Rattle.std.specs.List.{list_all}
use Rattle.std.proofs.lemmas.List.Folds.{list_all-append}
use borrow.Author.Count.{below_more}
use borrow.Author.Tests.{le-leb, lt-leb, lt-ltb, le-ltb, ltb-true, ltb-false}
use mir.Facts.{or_yes, and_yes, leb_yes}
use Rattle.word.specs.Buffer.{put_at}
use Rattle.word.specs.Digits.{number_be, digits_be}
use Rattle.word.proofs.Buffer.{get_d_part, put_last}
use Rattle.word.proofs.Digits.{number_lt, length_digits, digits_each, number_part, digits_number}
use Rattle.hexadecimal.specs.Hex.{is_hex, digit_of, hexes, hex_at, digit_byte, hex_digits}

-- ---- a digit
-- the bytes 0 to 9, and A to F
pub data Digit (c : ℕ) : Type 0 where
  figure : 48 ≤ c → c ≤ 57 → Digit c
  letter : 65 ≤ c → c ≤ 70 → Digit c

pub hex_digit : (c : ℕ) → is_hex c ≡ true → Digit c
unfolding is_hex
hex_digit c h =
    ⊎_elim (λ (t : T (leb 48 c && leb c 57)). let p = and_yes (leb 48 c) (leb c 57) t in figure (leb_yes p.0) (leb_yes p.1))
    (λ (t : T (leb 65 c && leb c 70)). let p = and_yes (leb 65 c) (leb c 70) t in letter (leb_yes p.0) (leb_yes p.1))
    (or_yes (leb 48 c && leb c 57) (leb 65 c && leb c 70) (subst T (sym h) tt))

pub digit_hex : {c : ℕ} → Digit c → is_hex c ≡ true
unfolding is_hex
digit_hex {c} (figure h l) = rw (le-leb 48 c h, le-leb c 57 l)
digit_hex {c} (letter h l) = rw (le-leb 48 c (omega arith), lt-leb c 57 (omega arith), le-leb 65 c h, le-leb c 70 l)

-- its value
pub figure_value : (c : ℕ) → 48 ≤ c → c ≤ 57 → digit_of c ≡ c - 48
unfolding digit_of
figure_value c h l = rw (digit_hex (figure h l), le-leb c 57 l)

pub letter_value : (c : ℕ) → 65 ≤ c → c ≤ 70 → digit_of c ≡ c - 55
unfolding digit_of
letter_value c h l = let m : 57 < c = omega arith in rw (digit_hex (letter h l), lt-leb c 57 m)

pub other_value : (c : ℕ) → is_hex c ≡ false → digit_of c ≡ 0
unfolding digit_of
other_value c h = rw h

value_lt : {c : ℕ} → Digit c → digit_of c < 16
value_lt {c} (figure h l) = omega (arith, figure_value c h l)
value_lt {c} (letter h l) = omega (arith, letter_value c h l)

pub digit_lt : (c : ℕ) → digit_of c < 16
digit_lt c = by (is_hex c) refl
  where
    by : (b : Bool) → is_hex c ≡ b → digit_of c < 16
    by true e = value_lt (hex_digit c e)
    by false e = omega (arith, other_value c e)

-- and back
pub byte_back : {c : ℕ} → Digit c → digit_byte (digit_of c) ≡ c
unfolding digit_byte
byte_back {c} (figure h l) =
    let e = figure_value c h l in
    let m : digit_of c < 10 = omega arith in
    rw (lt-ltb (digit_of c) 10 m) (omega arith)
byte_back {c} (letter h l) =
    let e = letter_value c h l in
    let m : 10 ≤ digit_of c = omega arith in
    rw (le-ltb (digit_of c) 10 m) (omega arith)

-- the byte of a digit is one, and its value is that digit
pub byte_digit : (d : ℕ) → d < 16 → Digit (digit_byte d) × (digit_of (digit_byte d) ≡ d)
unfolding digit_byte
byte_digit d h = by (ltb d 10) refl
  where
    by : (b : Bool) → ltb d 10 ≡ b → Digit (cond b (48 + d) (55 + d)) × (digit_of (cond b (48 + d) (55 + d)) ≡ d)
    by true e =
        let m = ltb-true d 10 e in
        (figure (omega arith) (omega arith), omega (arith, figure_value (48 + d) (omega arith) (omega arith)))
    by false e =
        let m = ltb-false d 10 e in
        (letter (omega arith) (omega arith), omega (arith, letter_value (55 + d) (omega arith) (omega arith)))

-- ---- digits from a place on
both : (a b : Bool) → a && b ≡ true → (a ≡ true) × (b ≡ true)
both true b h = (refl, h)
both false b h = absurd (false≢true h)

-- every one of them is a digit
pub hexes_at : (k : ℕ) (s : List ℕ) (at i : ℕ) → hexes k s at ≡ true → i < k → is_hex (get_or s (at + i) 0) ≡ true
unfolding hexes
hexes_at zero s at i h l = absurd (omega arith)
hexes_at (suc k) s at i h l =
    let p = both (hexes k s at) (is_hex (get_or s (at + k) 0)) h in
    below_more (λ (j : ℕ). is_hex (get_or s (at + j) 0) ≡ true) k (λ j m. hexes_at k s at j p.0 m) p.1 i (omega arith)

pub hexes_all : (k : ℕ) (s : List ℕ) (at : ℕ) → ((i : ℕ) → i < k → is_hex (get_or s (at + i) 0) ≡ true) → hexes k s at ≡ true
unfolding hexes
hexes_all zero s at h = refl
hexes_all (suc k) s at h = rw (hexes_all k s at (λ i l. h i (omega arith)), h k (le_refl (suc k)))

-- and so is every part of them
pub hexes_part : (n : ℕ) (s : List ℕ) (at j k : ℕ) → hexes n s at ≡ true → j + k ≤ n → hexes k s (at + j) ≡ true
hexes_part n s at j k h l =
    hexes_all k s (at + j) (λ i m. subst (λ (p : ℕ). is_hex (get_or s p 0) ≡ true) (sym (add_assoc at j i)) (hexes_at n s at (j + i) h (omega arith)))

-- one of them is none
pub hexes_not : (k : ℕ) (s : List ℕ) (at i : ℕ) → i < k → is_hex (get_or s (at + i) 0) ≡ false → hexes k s at ≡ false
hexes_not k s at i l h = by (hexes k s at) refl
  where
    by : (b : Bool) → hexes k s at ≡ b → b ≡ false
    by true e = absurd (false≢true (sym h ∙ hexes_at k s at i e l))
    by false e = refl

-- as a chain over the part answers them
pub list_all_hex : (k : ℕ) (s : List ℕ) (at : ℕ) → at + k ≤ length s → list_all is_hex (take k (drop at s)) ≡ hexes k s at
unfolding hexes
list_all_hex zero s at h = refl
list_all_hex (suc k) s at h =
    rw (take-suc (drop at s) k 0 (omega (arith, length-drop at s)), list_all-append is_hex (take k (drop at s)) (get_or (drop at s) k 0 ∷ []), list_all_hex k s at (omega arith), get_or-drop at s k 0, and-true (is_hex (get_or s (at + k) 0)))
    refl

-- the list ends before them, or it does not
pub hexes_cut : (k : ℕ) (s : List ℕ) (at : ℕ) → zero < k → length s < at + k → hexes k s at ≡ false
unfolding is_hex
hexes_cut k s at p h = hexes_not k s at (k - 1) (omega arith) (rw (get_or-eq_default s 0 {n = at + (k - 1)} (omega arith)))

-- the first j and the other k
pub hexes_split : (j k : ℕ) (s : List ℕ) (at : ℕ) → hexes (j + k) s at ≡ hexes j s at && hexes k s (at + j)
unfolding hexes
hexes_split j zero s at = rw (add-zero j) (sym (and-true (hexes j s at)))
hexes_split j (suc k) s at =
    rw (add-suc j k, hexes_split j k s at, add_assoc at j k) (and_assoc (hexes j s at) (hexes k s (at + j)) (is_hex (get_or s (at + (j + k)) 0)))

-- ---- their number
pub hex_more : (k : ℕ) (s : List ℕ) (at : ℕ) → hex_at (k + 1) s at ≡ hex_at k s at * 16 + digit_of (get_or s (at + k) 0)
unfolding hex_at number_be
hex_more k s at = rw (add-one k)

pub hex_lt : (k : ℕ) (s : List ℕ) (at : ℕ) → hex_at k s at < 16 ^ k
unfolding hex_at
hex_lt k s at = number_lt 16 (λ (i : ℕ). digit_of (get_or s (at + i) 0)) k (λ i l. digit_lt (get_or s (at + i) 0))

-- "22 hexadecimal digits": 6 for kind, row and column, and 16 for the 8 value bytes
pub frame_digits : (s : List ℕ) (at : ℕ) → hexes 22 s at ≡ hexes 6 s at && hexes 16 s (at + 6)
frame_digits s at = hexes_split 6 16 s at

-- ---- both ways round
pub length_hex : (k n : ℕ) → length (hex_digits k n) ≡ k
unfolding hex_digits
length_hex k n = length_digits 16 digit_byte k n

-- written and read: as a part, in a buffer, in front
pub hex_back : (k n : ℕ) → n < 16 ^ k → (t : List ℕ) (at : ℕ) → take k (drop at t) ≡ hex_digits k n → hex_at k t at ≡ n
unfolding hex_at hex_digits
hex_back k n h t at e = number_part 16 digit_byte digit_of (omega arith) (λ x l. (byte_digit x l).1) k n h t at e

pub hexes_back : (k n : ℕ) (t : List ℕ) (at : ℕ) → take k (drop at t) ≡ hex_digits k n → hexes k t at ≡ true
unfolding hex_digits
hexes_back k n t at e =
    hexes_all k t at
    (λ i l. subst (λ (c : ℕ). is_hex c ≡ true) (ap (λ (r : List ℕ). get_or r i 0) (sym e) ∙ get_d_part t at k i l)
    (digits_each (λ (c : ℕ). is_hex c ≡ true) 16 digit_byte (omega arith) (λ x m. digit_hex (byte_digit x m).0) k n i l))

pub hex_front : (k n : ℕ) (rest : List ℕ) → n < 16 ^ k → hex_at k (hex_digits k n ++ rest) 0 ≡ n
hex_front k n rest h = hex_back k n h (hex_digits k n ++ rest) 0 (take_at (hex_digits k n) rest k (length_hex k n))

-- read and written
pub digits_back : (k : ℕ) (s : List ℕ) (at : ℕ) → hexes k s at ≡ true → at + k ≤ length s → hex_digits k (hex_at k s at) ≡ take k (drop at s)
unfolding hex_at hex_digits
digits_back k s at h l =
    digits_number 16 digit_byte (λ (i : ℕ). digit_of (get_or s (at + i) 0)) (drop at s) k (simp length-drop (omega arith))
    (λ i m. (digit_lt (get_or s (at + i) 0), byte_back (hex_digit (get_or s (at + i) 0) (hexes_at k s at i h m)) ∙ sym (get_or-drop at s i 0)))

-- ---- what a loop leaves to write once the last of k + 1 digits is written
pub put_more : (s : List ℕ) (at k n : ℕ) → at + k < length s
    → put_at (set s (at + k) (digit_byte (n % 16))) at (hex_digits k (n / 16)) ≡ put_at s at (hex_digits (suc k) n)
unfolding hex_digits digits_be
put_more s at k n h =
    let xs = digits_be 16 digit_byte k (n / 16) in
    let len : length xs ≡ k = length_digits 16 digit_byte k (n / 16) in
    subst (λ (j : ℕ). put_at (set s (at + j) (digit_byte (n % 16))) at xs ≡ put_at s at (xs ++ digit_byte (n % 16) ∷ [])) len
    (put_last s at xs (digit_byte (n % 16)) (omega arith))
