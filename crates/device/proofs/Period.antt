-- Request 11: the sweeps of a period. Assumes nothing.
use Prim.Native.Nat.{ℕ, zero, suc, ◌+◌, ◌-◌, ◌*◌, ◌/◌, ◌^◌, ◌<◌, ◌≤◌}
use mathlib.Core.Bool.{Bool, true, false, cond, true≢false}
use mathlib.Core.List.{List, [], ◌∷◌, map}
use mathlib.Core.Path.{◌≡◌, refl, sym, ap, ◌∙◌}
use mathlib.Core.Logic.{⊎_elim}
use native.Mathlib.Nat.{div-add-mod, mod-lt, zero-mul, suc-mul, eq-or-lt_of_le}
use native.Mathlib.Omega.{arith}
use lib.Dec.{eqb, lit<, lit≤}
use lib.ListN.{length, get_or, set, length-set, length-map}
use lib.Seq.{get_or-set_same, get_or-set_other}
use borrow.Author.Tests.{eqb-true, eqb-false, not-true}
use Rattle.integer.proofs.Tests.{both}
use Rattle.gradient.specs.Index.{tab, sum_n}
use Rattle.gradient.proofs.Index.{sum_n_mono, sum_n_cong, tab_length, tab_at}
use Rattle.device.specs.Solver.{Solver}
use Rattle.device.specs.Device.{Head, Device, head_count, absent, head_at}
use Rattle.device.specs.Call.{Call, make, new_image, ask, commit, period, done, unsigned16, call_number, call_next, fresh, made, restarted, asked, committed, owning, finished, step}
use Rattle.device.specs.Run.{Event, event_of, after, log}
use Rattle.device.specs.Log.{accepted, image_now, count_by, count_now, own_by, own_now}
use Rattle.device.specs.Period.{total_now, running_now, granted_now, left_of, Balanced, cost_by, granted_to, leaves_share, all_leave_share}
use Rattle.device.proofs.Runs.{ask_inside, ask_enough, commit_inside, done_inside, next_accepted, next_refused, each_head, made_heads, logged_image}

abbrev owns : List Head → ℕ → ℕ
owns hs k = (get_or hs k absent).own

-- ---- sums of which one term is another, or all are the same
sum_swap : (f g : ℕ → ℕ) (n k : ℕ) → k < n → ((j : ℕ) → j < n → (j ≡ k → ⊥) → f j ≡ g j) → sum_n f n + g k ≡ sum_n g n + f k
sum_swap f g zero k h e = absurd (omega arith)
sum_swap f g (suc n) k h e = by (eqb n k) refl (λ l. sum_swap f g n k l (λ j l. e j (omega arith)))
  where
    by : (t : Bool) → eqb n k ≡ t → (k < n → sum_n f n + g k ≡ sum_n g n + f k) → sum_n f (suc n) + g k ≡ sum_n g (suc n) + f k
    by true q earlier =
        let r = eqb-true n k q in
        rw (← r) (omega (arith, sum_n_cong f g n (λ j l. e j (omega arith) (λ i. omega (arith, i, r)))))
    by false q earlier =
        let r = eqb-false n k q in
        let l : k < n = ⊎_elim (λ (i : k ≡ n). absurd (r (sym i))) (λ (l : k < n). l) (eq-or-lt_of_le (omega arith)) in
        omega (arith, e n (omega arith) r, earlier l)

sum_same : (f : ℕ → ℕ) (q n : ℕ) → ((j : ℕ) → j < n → f j ≡ q) → sum_n f n ≡ n * q
sum_same f q zero e = sym (zero-mul q)
sum_same f q (suc n) e = omega (arith, sum_same f q n (λ j l. e j (omega arith)), e n (omega arith), suc-mul n q)

-- ---- the shares of a drive, where one head was replaced, or all were
one_share : (hs : List Head) (k : ℕ) (x : Head) → k < length hs → sum_n (owns (set hs k x)) (length (set hs k x)) + owns hs k ≡ sum_n (owns hs) (length hs) + x.own
one_share hs k x h =
    rw (length-set hs k x) (sum_swap (owns (set hs k x)) (owns hs) (length hs) k h (λ j _ n. ap (λ (y : Head). y.own) (get_or-set_other hs k j x absent n))
    ∙ ap (λ (y : Head). sum_n (owns hs) (length hs) + y.own) (get_or-set_same hs k x absent h))

same_shares : (m : Head → Head) → ((h : Head) → (m h).own ≡ h.own) → (hs : List Head) → sum_n (owns (map m hs)) (length (map m hs)) ≡ sum_n (owns hs) (length hs)
same_shares m e hs = rw (length-map hs m) (sum_n_cong (owns (map m hs)) (owns hs) (length hs) (λ j _. each_head (λ (x : Head). x.own) m e hs j))

made_common : (s : Solver) (image : List ℕ) (n : ℕ) → (made s image n).common ≡ 0
unfolding made
made_common s image n = refl

-- what is left of a new drive, and behind the call that begins a period
pub new_left : (s : Solver) (image : List ℕ) (n : ℕ) → left_of (made s image n) ≡ 0
new_left s image n = rw (made_heads s image n) (omega (arith, none, common))
  where
    f : ℕ → Head
    f _ = fresh s image

    none : sum_n (owns (tab f n)) (length (tab f n)) ≡ 0
    none = sum_same (owns (tab f n)) 0 (length (tab f n)) (λ j l. ap (λ (x : Head). x.own) (tab_at f n j absent (omega (arith, tab_length f n)))) ∙ omega arith

    common : (made s image n).common ≡ 0
    common = made_common s image n

begun_left : (s : Solver) (d : Device) (total : ℕ) → left_of (call_next s d (period total)) ≡ unsigned16 total
unfolding call_next
begun_left s d total =
    let q = unsigned16 total / head_count d in
    let n = length-map d.heads (owning q) in
    let each = sum_same (owns (map (owning q) d.heads)) q (length (map (owning q) d.heads)) (λ j l. owning_at q d.heads j (omega (arith, n))) in
    omega (arith, n, each ∙ ap (λ (m : ℕ). m * q) n, div-add-mod (unsigned16 total) (head_count d))
  where
    owning_at : (q : ℕ) (hs : List Head) (j : ℕ) → j < length hs → owns (map (owning q) hs) j ≡ q
    owning_at q [] j l = absurd (omega arith)
    owning_at q (h ∷ hs) zero l = refl
    owning_at q (h ∷ hs) (suc j) l = owning_at q hs j (omega arith)

module _ (s : Solver) (d : Device) where
  -- a call other than a make and a period takes what it costs, and nothing else
  asked_left : (k : ℕ) (state target : List ℕ) (room : ℕ) → call_number s d (ask k state target room) ≡ 0 → left_of (call_next s d (ask k state target room)) + s.sweeps d.image ≡ left_of d
  unfolding call_next
  asked_left k state target room z = omega (arith, one_share d.heads k (asked s d k state target) (ask_inside s d k state target room z), ask_enough s d k state target room z)

  committed_left : (k room : ℕ) → call_number s d (commit k room) ≡ 0 → left_of (call_next s d (commit k room)) ≡ left_of d
  unfolding call_next
  committed_left k room z = omega (arith, one_share d.heads k (committed s d k) (commit_inside s d k room z))

  done_left : (k : ℕ) → call_number s d (done k) ≡ 0 → left_of (call_next s d (done k)) ≡ left_of d
  unfolding call_next
  done_left k z = omega (arith, one_share d.heads k (finished d k) (done_inside s d k z))

  renewed_left : (image : List ℕ) → left_of (call_next s d (new_image image)) ≡ left_of d
  unfolding call_next
  renewed_left image = ap (λ (n : ℕ). n + d.common) (same_shares (restarted s image) (λ h. refl) d.heads)

  made_left : (image : List ℕ) (n : ℕ) → left_of (call_next s d (make image n)) ≡ 0
  unfolding call_next
  made_left image n = new_left s image n

  -- and so none leaves more than was there, or than a period gives
  pub left_next : (c : Call) → call_number s d c ≡ 0 → left_of d < 2 ^ 16 → left_of (call_next s d c) < 2 ^ 16
  left_next (make i n) z h = rw (made_left i n) (lit< tt)
  left_next (new_image i) z h = rw (renewed_left i) h
  left_next (ask k state target room) z h = omega (arith, asked_left k state target room z)
  left_next (commit k room) z h = rw (committed_left k room z) h
  left_next (period total) z h = rw (begun_left s d total) (mod-lt total (lit≤ tt))
  left_next (done k) z h = rw (done_left k z) h

  -- a head's share and the common part are a part of it
  pub own_left : (k : ℕ) → k < head_count d → (head_at d k).own + d.common ≤ left_of d
  own_left k h = omega (arith, sum_n_mono (owns d.heads) (suc k) (head_count d) h)

-- ---- any run from a drive with nothing left
abbrev BalancedBy : Solver → Device → Device → List Event → Type 0
BalancedBy s d x l = Balanced (left_of x) (granted_now s d l) (total_now l) (running_now l)

module _ (s : Solver) (d x : Device) (l : List Event) (image : x.image ≡ image_now d l) (b : BalancedBy s d x l) where
  abbrev then : Call → List Event
  then c = event_of c (step s x c) ∷ l

  -- a call that leaves what is left
  unmoved : (y : Device) → left_of y ≡ left_of x → BalancedBy s d y l
  unmoved y e = record { within = b.within; whole = λ r. omega (arith, e, b.whole r); none_left = λ r. e ∙ b.none_left r }

  spent : (y : Device) (cost : ℕ) → left_of y + cost ≡ left_of x → Balanced (left_of y) (granted_now s d l + cost) (total_now l) (running_now l)
  spent y cost e = record { within = by (running_now l) refl; whole = λ r. omega (arith, e, b.whole r); none_left = λ r. omega (arith, e, b.none_left r) }
    where
      by : (t : Bool) → running_now l ≡ t → granted_now s d l + cost ≤ total_now l
      by true r = omega (arith, e, b.whole r)
      by false r = omega (arith, e, b.none_left r, b.within)

  balanced_accepted : (c : Call) → eqb (call_number s x c) 0 ≡ true → BalancedBy s d (call_next s x c) (then c)
  unfolding granted_now total_now running_now step
  balanced_accepted (make i n) e = rw e (record { within = b.within; whole = λ r. absurd (true≢false (sym r)); none_left = λ _. made_left s x i n })
  balanced_accepted (new_image i) e = rw e (unmoved (call_next s x (new_image i)) (renewed_left s x i))
  balanced_accepted (ask k state target room) e = rw (e, ← image) (spent (call_next s x (ask k state target room)) (s.sweeps x.image) (asked_left s x k state target room (eqb-true _ 0 e)))
  balanced_accepted (commit k room) e = rw e (unmoved (call_next s x (commit k room)) (committed_left s x k room (eqb-true _ 0 e)))
  balanced_accepted (period total) e = rw e (record { within = omega arith; whole = λ _. omega (arith, begun_left s x total); none_left = λ r. absurd (true≢false r) })
  balanced_accepted (done k) e = rw e (unmoved (call_next s x (done k)) (done_left s x k (eqb-true _ 0 e)))

  balanced_refused : (c : Call) → eqb (call_number s x c) 0 ≡ false → BalancedBy s d x (then c)
  unfolding granted_now total_now running_now step
  balanced_refused c e = rw e b

  balanced_step : (c : Call) → BalancedBy s d (step s x c).next (then c)
  balanced_step c = by (eqb (call_number s x c) 0) refl
    where
      by : (t : Bool) → eqb (call_number s x c) 0 ≡ t → BalancedBy s d (step s x c).next (then c)
      by true e = rw (next_accepted s x c e) (balanced_accepted c e)
      by false e = rw (next_refused s x c e) (balanced_refused c e)

pub balanced : (s : Solver) (d : Device) → left_of d ≡ 0 → (cs : List Call) → BalancedBy s d (after s d cs) (log s d cs)
unfolding granted_now total_now running_now
balanced s d z [] = record { within = omega arith; whole = λ r. absurd (true≢false (sym r)); none_left = λ _. z }
balanced s d z (c ∷ cs) = balanced_step s d (after s d cs) (log s d cs) (logged_image s d cs) (balanced s d z cs) c

-- ---- what a head has left of its share: what it had, less what its granted asks cost
pub share_spent : (s : Solver) (d : Device) (k : ℕ) (l : List Event) → all_leave_share k l ≡ true → own_now s d k l ≡ (head_at d k).own - granted_to s d k l
unfolding own_now granted_to
share_spent s d k [] q = omega arith
share_spent s d k (e ∷ l) q =
    let b = both (cond (accepted e) (leaves_share k e.call) true) (all_leave_share k l) q in
    by (accepted e) b.0 (share_spent s d k l b.1)
  where
    had : ℕ
    had = (head_at d k).own

    spent : (t : Bool) (a o g c : ℕ) → o ≡ a - g → cond t (o - c) o ≡ a - (g + cond t c 0)
    spent true a o g c h = omega (arith, h)
    spent false a o g c h = omega (arith, h)

    by_call : (c : Call) → leaves_share k c ≡ true → own_now s d k l ≡ had - granted_to s d k l → own_by s d k c l (own_now s d k l) ≡ had - (granted_to s d k l + cost_by s d k c l)
    by_call (make i n) r h = absurd (true≢false (sym r))
    by_call (new_image i) r h = omega (arith, h)
    by_call (ask j state target room) r h = spent (eqb j k) had (own_now s d k l) (granted_to s d k l) (s.sweeps (image_now d l)) h
    by_call (commit j room) r h = omega (arith, h)
    by_call (period total) r h = absurd (true≢false (sym r))
    by_call (done j) r h = rw (not-true (eqb j k) r) (omega (arith, h))

    by : (t : Bool) → cond t (leaves_share k e.call) true ≡ true → own_now s d k l ≡ had - granted_to s d k l
        → cond t (own_by s d k e.call l (own_now s d k l)) (own_now s d k l) ≡ had - (granted_to s d k l + cond t (cost_by s d k e.call l) 0)
    by true r h = by_call e.call r h
    by false r h = omega (arith, h)

-- and the number of heads is what it was
pub count_left : (d : Device) (k : ℕ) (l : List Event) → all_leave_share k l ≡ true → count_now d l ≡ head_count d
unfolding count_now
count_left d k [] q = refl
count_left d k (e ∷ l) q =
    let b = both (cond (accepted e) (leaves_share k e.call) true) (all_leave_share k l) q in
    by (accepted e) b.0 (count_left d k l b.1)
  where
    by_call : (c : Call) → leaves_share k c ≡ true → count_now d l ≡ head_count d → count_by c (count_now d l) ≡ head_count d
    by_call (make i n) r h = absurd (true≢false (sym r))
    by_call (new_image i) r h = h
    by_call (ask j state target room) r h = h
    by_call (commit j room) r h = h
    by_call (period total) r h = h
    by_call (done j) r h = h

    by : (t : Bool) → cond t (leaves_share k e.call) true ≡ true → count_now d l ≡ head_count d → cond t (count_by e.call (count_now d l)) (count_now d l) ≡ head_count d
    by true r h = by_call e.call r h
    by false r h = h
