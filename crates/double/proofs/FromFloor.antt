-- Up and nearest from the floor q of z / d: each is q or q + 1. Assumes nothing.
use Rattle.std.proofs.Common.{◌≡◌, ℕ, ◌-◌, ◌*◌, ◌%◌, ◌<◌, ◌≤◌, ℤ, pos, ◌+ℤ◌, ◌*ℤ◌, neg_ℤ, nat_abs, ◌≤ℤ◌, ◌<ℤ◌, sym, refl, ap, ◌∙◌, arith}
use lib.IntN.{neg_ℤ-neg_ℤ}
use Rattle.integer.specs.Parts.{int, nat, ◌⊕◌, ◌⊖◌, ◌⊙◌, ◌⊡◌, neg}
use Rattle.integer.proofs.Parts.{eq?, le!, lt!, le?, lt?, abs_parts}
use Rattle.integer.proofs.Floor.{floor_unique}
use Rattle.double.specs.Double.{round_down, round_up, round_nearest}
use Rattle.double.specs.Nearest.{distance}
use Rattle.double.proofs.Nearest.{nearest_by, nearest_only, twice_abs}
use Rattle.double.proofs.Rules.{down_lower, down_upper}

-- twice the middle of q and q + 1
abbrev pub middle : ℤ → ℤ
middle q = pos 2 *ℤ q +ℤ pos 1

module _ (z : ℤ) {d : ℕ} (D : 0 < d) where
  abbrev q : ℤ
  q = round_down z d

  -- the ceiling is the only integer of which `up_lower` and `up_upper` hold
  up_unique : (n : ℤ) → z ≤ℤ (n *ℤ pos d) → (n *ℤ pos d) <ℤ (z +ℤ pos d) → n ≡ round_up z d
  up_unique n h k =
      let a = le? (int z) (int n ⊡ d) h in
      let b = lt? (int n ⊡ d) (int z ⊕ nat d) k in
      sym
      (ap neg_ℤ (floor_unique (neg_ℤ z) (neg_ℤ n) D (le! (neg (int n) ⊡ d) (neg (int z)) (omega arith)) (lt! (neg (int z)) (neg (int n) ⊡ d ⊕ nat d) (omega arith)))
      ∙ neg_ℤ-neg_ℤ n)

  pub up_more : (q *ℤ pos d) <ℤ z → q +ℤ pos 1 ≡ round_up z d
  up_more h =
      let a = lt? (int q ⊡ d) (int z) h in
      let b = lt? (int z) (int q ⊡ d ⊕ nat d) (down_upper z D) in
      up_unique (q +ℤ pos 1) (le! (int z) ((int q ⊕ nat 1) ⊡ d) (omega arith)) (lt! ((int q ⊕ nat 1) ⊡ d) (int z ⊕ nat d) (omega arith))

  pub up_same : z ≤ℤ (q *ℤ pos d) → q ≡ round_up z d
  up_same h = let a = le? (int q ⊡ d) (int z) (down_lower z D) in up_unique q h (lt! (int q ⊡ d) (int z ⊕ nat d) (omega arith))

  -- ---- nearest, by the side of the middle on which z / d lies
  pub nearest_before : (z *ℤ pos 2) <ℤ (middle q *ℤ pos d) → q ≡ round_nearest z d
  nearest_before h =
      let i = lt? (int z ⊡ 2) ((2 ⊙ int q ⊕ nat 1) ⊡ d) h in
      let l = le? (int q ⊡ d) (int z) (down_lower z D) in
      let w : 2 * distance z d q ≤ d - 1 = twice_abs (int q ⊡ d ⊖ int z) (omega arith) (omega arith) in
      nearest_only z q D (nearest_by z q (omega arith) (λ t. absurd (omega arith)))

  pub nearest_after : (middle q *ℤ pos d) <ℤ (z *ℤ pos 2) → q +ℤ pos 1 ≡ round_nearest z d
  nearest_after h =
      let i = lt? ((2 ⊙ int q ⊕ nat 1) ⊡ d) (int z ⊡ 2) h in
      let l = lt? (int z) (int q ⊡ d ⊕ nat d) (down_upper z D) in
      let w : 2 * distance z d (q +ℤ pos 1) ≤ d - 1 = twice_abs ((int q ⊕ nat 1) ⊡ d ⊖ int z) (omega arith) (omega arith) in
      nearest_only z (q +ℤ pos 1) D (nearest_by z (q +ℤ pos 1) (omega arith) (λ t. absurd (omega arith)))

  module _ (m : z *ℤ pos 2 ≡ middle q *ℤ pos d) where
    pub nearest_even : nat_abs q % 2 ≡ 0 → q ≡ round_nearest z d
    nearest_even e =
        let i = eq? (int z ⊡ 2) ((2 ⊙ int q ⊕ nat 1) ⊡ d) m in
        nearest_only z q D (nearest_by z q (twice_abs (int q ⊡ d ⊖ int z) (omega arith) (omega arith)) (λ t. e))

    pub nearest_odd : nat_abs q % 2 ≡ 1 → q +ℤ pos 1 ≡ round_nearest z d
    nearest_odd e =
        let i = eq? (int z ⊡ 2) ((2 ⊙ int q ⊕ nat 1) ⊡ d) m in
        let a = eq? (int (q +ℤ pos 1)) (int q ⊕ nat 1) refl in
        nearest_only z (q +ℤ pos 1) D
        (nearest_by z (q +ℤ pos 1) (twice_abs ((int q ⊕ nat 1) ⊡ d ⊖ int z) (omega arith) (omega arith)) (λ t. omega (arith, abs_parts q, abs_parts (q +ℤ pos 1))))
