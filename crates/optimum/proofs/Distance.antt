-- Request 8: each command is within D counts of the optimum, from check 7 and the row test alone. The commands need not be inside their
-- limits. Assumes nothing.
use mathlib.Core.Path.{◌≡◌, sym, ap, ◌∙◌}
use mathlib.Core.List.{List, [], ◌∷◌, map}
use Prim.Native.Nat.{ℕ, ◌+◌, ◌*◌, ◌≤◌}
use native.Mathlib.Nat.{mul-le-mul_left, mul-le-mul_right, le_of_mul-le-mul_left, le_trans}
use native.Mathlib.Omega.{arith}
use lib.Dec.{T}
use lib.IntN.{ℤ, pos, nat_abs, ◌-ℤ◌, ◌*ℤ◌}
use lib.ListN.{length}
use lib.Signed.{◌≤ℤ◌}
use borrow.Author.Tests.{leb-true}
use Rattle.integer.specs.Parts.{int, ◌⊕◌, ◌⊖◌, ◌⊗◌, ◌⊙◌, ◌⊡◌}
use Rattle.integer.proofs.Parts.{eq!, abs!, abs?}
use Rattle.integer.proofs.Laws.{abs_mul, scale_mono}
use Rattle.integer.proofs.Floor.{ceil_above}
use Rattle.integer.proofs.Clamping.{Clamped, clamped, clamped_scale, clamped_near}
use Rattle.gradient.specs.Vector.{zip_with, total, sum, All1, nil1, cons1, All2, nil2, cons2}
use Rattle.gradient.specs.Problem.{Command, Problem, F}
use Rattle.gradient.specs.Scheme.{products}
use Rattle.gradient.specs.Exact.{exact_linear}
use Rattle.gradient.specs.Demand.{ordered}
use Rattle.gradient.proofs.Vector.{weaken1, weaken2, join1, all2_length}
use Rattle.gradient.proofs.Tests.{is_true, every_all, ordered_all}
use Rattle.optimum.specs.Optimum.{gradient_step, projected_step, difference, largest, residual, optimum_bound, contracting, Optimal, NearOptimum}
use Rattle.optimum.proofs.Largest.{largest_all, largest_one, zip_pairs, pairs_zip}

-- ---- the row test, at each command
contracting_all : (p : Problem) (m : ℕ) → T (contracting p m) → All1 (λ (r : Command). sum (map nat_abs r.row) + m ≤ F p) p.commands
unfolding contracting
contracting_all p m t = weaken1 (λ r e. leb-true _ _ e) (every_all _ p.commands (is_true _ t))

-- ---- a row of M, of two sequences that are apart by at most X
term_apart : (X : ℕ) (x d : ℤ) → nat_abs d ≤ X → nat_abs (x *ℤ d) ≤ nat_abs x * X
term_apart X x d h = rw (abs_mul x d) (mul-le-mul_left (nat_abs x) h)

row_apart : (N X : ℕ) (xs : List ℤ) {zs Ps : List ℤ} → All2 (λ (z P : ℤ). nat_abs (z *ℤ pos N -ℤ P) ≤ X) zs Ps
    → nat_abs (total (products xs zs) *ℤ pos N -ℤ total (products xs Ps)) ≤ sum (map nat_abs xs) * X
row_apart N X [] h = omega arith
row_apart N X (x ∷ xs) nil2 = omega arith
row_apart N X (x ∷ xs) (cons2 {a = z} {b = P} {xs = zs} {ys = Ps} h t) =
    let a = abs? (int x ⊗ (int z ⊡ N ⊖ int P)) (term_apart X x (z *ℤ pos N -ℤ P) h) in
    let b = abs? (int (total (products xs zs)) ⊡ N ⊖ int (total (products xs Ps))) (row_apart N X xs t) in
    abs! ((int x ⊗ int z ⊕ int (total (products xs zs))) ⊡ N ⊖ (int x ⊗ int P ⊕ int (total (products xs Ps))))
    (omega arith) (omega arith)

-- the linear term is the same of both
less_linear : (N E : ℕ) (S T G : ℤ) → nat_abs (S *ℤ pos N -ℤ T) ≤ E → nat_abs ((S -ℤ pos 1 *ℤ G) *ℤ pos N -ℤ (T -ℤ pos N *ℤ G)) ≤ E
less_linear N E S T G h =
    let a = abs? (int S ⊡ N ⊖ int T) h in
    abs! ((int S ⊖ 1 ⊙ int G) ⊡ N ⊖ (int T ⊖ N ⊙ int G)) (omega arith) (omega arith)

-- ---- a command whose held step is within R of it, and within E, N times, of the optimum
combined : (f N R E : ℕ) (h z P : ℤ) → nat_abs (h *ℤ pos N -ℤ pos f *ℤ P) ≤ E → nat_abs (h -ℤ pos f *ℤ z) ≤ R → f * nat_abs (z *ℤ pos N -ℤ P) ≤ R * N + E
combined f N R E h z P a b =
    let c = abs? (int h ⊡ N ⊖ f ⊙ int P) a in
    let d = abs? (int h ⊖ f ⊙ int z) b in
    let k : nat_abs (pos f *ℤ (z *ℤ pos N -ℤ P)) ≤ R * N + E =
    abs! (f ⊙ (int z ⊡ N ⊖ int P)) (omega (arith, mul-le-mul_right N d.1)) (omega (arith, mul-le-mul_right N d.0)) in
    rw (abs_mul (pos f) (z *ℤ pos N -ℤ P)) at k

-- how far a command is from one of the fractions, in units of 1 / N counts
abbrev apart : ℕ → ℤ → ℤ → ℕ
apart N z P = nat_abs (z *ℤ pos N -ℤ P)

module _ (p : Problem) (inputs zs : List ℤ) (N : ℕ) (Ps : List ℤ) where
  scaled : (l : ℤ) → l *ℤ pos (F p * 1) *ℤ pos N ≡ l *ℤ pos (F p * N)
  scaled l = eq! (int l ⊡ (F p * 1) ⊡ N) (int l ⊡ (F p * N)) (omega arith)

  -- to hold two gradient steps to the limits takes them no further apart than the two sums M z and M P are
  projected_near : (r : Command) (E : ℕ) → r.lower ≤ℤ r.upper → nat_abs (total (products r.row zs) *ℤ pos N -ℤ total (products r.row Ps)) ≤ E
      → nat_abs (projected_step p inputs 1 zs r *ℤ pos N -ℤ projected_step p inputs N Ps r) ≤ E
  unfolding projected_step gradient_step
  projected_near r E o h =
      let a = gradient_step inputs 1 zs r in
      let lower = r.lower *ℤ pos (F p * N) in
      let upper = r.upper *ℤ pos (F p * N) in
      let c : Clamped lower upper (a *ℤ pos N) (projected_step p inputs 1 zs r *ℤ pos N) =
      rw (scaled r.lower, scaled r.upper) at (clamped_scale N (clamped (r.lower *ℤ pos (F p * 1)) (r.upper *ℤ pos (F p * 1)) a)) in
      clamped_near (scale_mono (F p * N) o) c (clamped lower upper (gradient_step inputs N Ps r))
      (less_linear N E (total (products r.row zs)) (total (products r.row Ps)) (exact_linear inputs r) h)

  -- a command against its bound: f × d + m × X ≤ R × N + f × X
  command_near : (r : Command) (z P : ℤ) (m R X : ℕ) → r.lower ≤ℤ r.upper → sum (map nat_abs r.row) + m ≤ F p
      → All2 (λ (z P : ℤ). nat_abs (z *ℤ pos N -ℤ P) ≤ X) zs Ps → difference p inputs zs r z ≤ R → projected_step p inputs N Ps r ≡ pos (F p) *ℤ P
      → F p * nat_abs (z *ℤ pos N -ℤ P) + m * X ≤ R * N + F p * X
  unfolding difference
  command_near r z P m R X o c h d e =
      let k = rw e at (projected_near r _ o (row_apart N X r.row h)) in
      omega (arith, combined (F p) N R (sum (map nat_abs r.row) * X) (projected_step p inputs 1 zs r) z P k d, mul-le-mul_right X c)

-- ---- every command
-- what three facts of each command give of each pair
each : {A B C : Type 0} {O : A → Type 0} {R : A → B → Type 0} {Q : A → C → Type 0} {S : B → C → Type 0} {rs : List A} {xs : List B} {ys : List C}
    → ((a : A) (b : B) (c : C) → O a → R a b → Q a c → S b c) → All1 O rs → All2 R rs xs → All2 Q rs ys → All2 S xs ys
each k nil1 nil2 nil2 = nil2
each k (cons1 {a = a} o os) (cons2 {b = b} r rs) (cons2 {b = c} q qs) = cons2 (k a b c o r q) (each k os rs qs)

cancelled : (f m X R N D : ℕ) → 1 ≤ m → f * X + m * X ≤ R * N + f * X → R ≤ m * D → X ≤ D * N
cancelled f m X R N D h k l = le_of_mul-le-mul_left {k = m} (omega (arith, mul-le-mul_right N l)) h

-- the theorem: at the command that is furthest from the optimum, m × X ≤ R × N
pub near_optimum : (p : Problem) (m : ℕ) (inputs zs : List ℤ) → T (ordered p) → T (contracting p m) → 1 ≤ m → length zs ≡ length p.commands
    → NearOptimum p inputs zs (optimum_bound p m inputs zs)
unfolding NearOptimum Optimal optimum_bound residual
near_optimum p m inputs zs o c h e N Ps n q =
    let R = residual p inputs zs in
    let X = largest (zip_with (apart N) zs Ps) in
    let ds : All2 (λ (z P : ℤ). apart N z P ≤ X) zs Ps = zip_pairs _ (apart N) zs Ps (e ∙ all2_length q) (largest_all (zip_with (apart N) zs Ps)) in
    let rs : All2 (λ (r : Command) (z : ℤ). difference p inputs zs r z ≤ R) p.commands zs =
    zip_pairs _ (difference p inputs zs) p.commands zs (sym e) (largest_all (zip_with (difference p inputs zs) p.commands zs)) in
    let gs : All1 (λ (r : Command). (r.lower ≤ℤ r.upper) × (sum (map nat_abs r.row) + m ≤ F p)) p.commands =
    join1 (λ r a b. (a, b)) (ordered_all p o) (contracting_all p m c) in
    let bs : All2 (λ (z P : ℤ). F p * apart N z P + m * X ≤ R * N + F p * X) zs Ps =
    each (λ r z P a d f. command_near p inputs zs N Ps r z P m R X a.0 a.1 ds d f) gs rs q in
    let x : F p * X + m * X ≤ R * N + F p * X =
    largest_one (λ (d : ℕ). F p * d + m * X ≤ R * N + F p * X) (λ l. omega (arith, ap (λ (k : ℕ). m * k) l)) (pairs_zip _ (apart N) bs) in
    weaken2 (λ z P d. record { near = le_trans d (cancelled (F p) m X R N (optimum_bound p m inputs zs) h x (ceil_above R h)) }) ds
