-- Requests 9 to 11 of every run of calls. Assumes nothing.
use Prim.Native.Nat.{ℕ, zero, suc, ◌+◌, ◌-◌, ◌/◌, ◌%◌, ◌<◌, ◌≤◌}
use mathlib.Core.Bool.{Bool, true, false, cond, not, ◌&&◌, true≢false}
use mathlib.Core.List.{List, [], ◌∷◌, ◌++◌, map}
use mathlib.Core.Option.{none}
use mathlib.Core.Path.{◌≡◌, refl, sym, ap, ◌∙◌}
use native.Mathlib.Omega.{arith}
use lib.Dec.{eqb, leb, ltb, lit<}
use lib.ListN.{get_or, set, replicate, length-set, length-map, length-replicate, get_or-replicate}
use lib.Seq.{get_or-set_same, get_or-set_other}
use borrow.Author.Tests.{eqb-true, eqb-false, eq-eqb, ne_eqb, ltb-true, leb-true, not-true}
use Rattle.integer.proofs.Tests.{both}
use Rattle.gradient.specs.Index.{tab, all_to}
use Rattle.gradient.proofs.Index.{tab_length, tab_at, tab_cong, tab_map, tab_set, tab_list}
use Rattle.image.specs.Order.{or_else}
use Rattle.image.proofs.Ordering as ordering
use Rattle.image.proofs.Ordering.{passed}
use Rattle.device.specs.Solver.{Solver}
use Rattle.device.specs.Device.{Head, Device, head_count, absent, head_at, waits, answer_of, idle}
use Rattle.device.specs.Call.{Call, make, new_image, ask, commit, period, done, index_number, unsigned16, ask_checks, call_number, call_answer, call_next, fresh, made, restarted, asked, common_after, committed, owning, finished, step}
use Rattle.device.specs.Run.{Event, event_of, after, log}
use Rattle.device.specs.Log.{image_now, count_now, waiting_now, start_now, own_now, common_now, head_now, device_now, ByLog, leaves_start, keeps_start, all_keep_start}

-- ---- an accepted call's head is one of the drive's
pub number_inside : (n k : ℕ) → index_number n k ≡ 0 → k < n
number_inside n k e = ltb-true k n (passed (ltb k n) 3 0 (lit< tt) e).0

pub index_inside : (n k r : ℕ) → or_else (index_number n k) r ≡ 0 → k < n
index_inside n k r e = number_inside n k (ordering.none (index_number n k) r e).0

module _ (s : Solver) (d : Device) (k : ℕ) where
  module _ (state target : List ℕ) (room : ℕ) (e : call_number s d (ask k state target room) ≡ 0) where
    pub ask_inside : k < head_count d
    unfolding call_number ask_checks
    ask_inside = index_inside (head_count d) k _ (ordering.none (ask_checks s d k state target room) _ e).0

    -- and its sweeps are there
    pub ask_enough : s.sweeps d.image ≤ (head_at d k).own + d.common
    unfolding call_number
    ask_enough = let q = (passed (leb (s.sweeps d.image) ((head_at d k).own + d.common)) 20 0 (lit< tt) (ordering.none (ask_checks s d k state target room) _ e).1).0 in omega (arith, leb-true (s.sweeps d.image) ((head_at d k).own + d.common) q)

  pub commit_inside : (room : ℕ) → call_number s d (commit k room) ≡ 0 → k < head_count d
  unfolding call_number
  commit_inside room e = index_inside (head_count d) k _ e

  pub done_inside : call_number s d (done k) ≡ 0 → k < head_count d
  unfolding call_number
  done_inside e = number_inside (head_count d) k e

-- ---- a call that was accepted, and one that was not
module _ (s : Solver) (d : Device) (c : Call) where
  pub next_accepted : eqb (call_number s d c) 0 ≡ true → (step s d c).next ≡ call_next s d c
  unfolding step
  next_accepted e = rw e

  pub next_refused : eqb (call_number s d c) 0 ≡ false → (step s d c).next ≡ d
  unfolding step
  next_refused e = rw e

  pub number_of : (step s d c).number ≡ call_number s d c
  unfolding step
  number_of = refl

-- ---- a drive in which head j was replaced: another head
pub other_head : (d : Device) (j k : ℕ) (x : Head) → eqb j k ≡ false → get_or (set d.heads j x) k absent ≡ head_at d k
other_head d j k x e = get_or-set_other d.heads j k x absent (λ q. eqb-false j k e (sym q))

-- one in which all were, and what that leaves of each
pub each_head : {A : Type 0} (f : Head → A) (m : Head → Head) → ((h : Head) → f (m h) ≡ f h) → (hs : List Head) (k : ℕ) → f (get_or (map m hs) k absent) ≡ f (get_or hs k absent)
each_head f m e [] k = refl
each_head f m e (h ∷ hs) zero = e h
each_head f m e (h ∷ hs) (suc k) = each_head f m e hs k

-- ---- the heads of a new drive
pub made_heads : (s : Solver) (image : List ℕ) (n : ℕ) → (made s image n).heads ≡ tab (λ (_ : ℕ). fresh s image) n
unfolding made
made_heads s image n =
    let l = length-replicate n (fresh s image) in
    tab_list (replicate n (fresh s image)) absent (λ (_ : ℕ). fresh s image) (λ k h. get_or-replicate n k (fresh s image) absent (rw l at h)) ∙ ap (tab (λ (_ : ℕ). fresh s image)) l

module _ (s : Solver) where
  -- ---- a drive that is as the log tells it stays so
  module _ (d : Device) (l : List Event) where
    abbrev now : Device
    now = device_now s d l

    abbrev then : Call → List Event
    then c = event_of c (step s now c) ∷ l

    abbrev Logged : Call → Type 0
    Logged c = (step s now c).next ≡ device_now s d (then c)

    -- the parts of the drive that a call leaves
    logged_parts : (c : Call) (x : Device) (f : ℕ → Head) (n : ℕ) → (step s now c).next ≡ x → x.image ≡ image_now d (then c) → x.heads ≡ tab f n → n ≡ count_now d (then c) → ((k : ℕ) → f k ≡ head_now s d (then c) k)
        → x.common ≡ common_now s d (then c) → Logged c
    logged_parts c x f n e i h m each o = e ∙ (λ t. record { image = i t; heads = (h ∙ ap (tab f) m ∙ tab_cong f (head_now s d (then c)) (count_now d (then c)) (λ k _. each k)) t; common = o t })

    logged_refused : (c : Call) → eqb (call_number s now c) 0 ≡ false → Logged c
    unfolding image_now count_now waiting_now start_now own_now common_now step
    logged_refused c e = logged_parts c now (head_now s d l) (count_now d l) (rw e) (rw e) refl (rw e) (λ k. rw e) (rw e)

    counted : head_count now ≡ count_now d l
    counted = tab_length (head_now s d l) (count_now d l)

    head_now_lem : (k : ℕ) → k < head_count now → head_at now k ≡ head_now s d l k
    head_now_lem k h = tab_at (head_now s d l) (count_now d l) k absent (rw counted at h)

    -- a call that replaces head k
    one_head : (c : Call) (k : ℕ) (x : Head) (y : ℕ) → (step s now c).next ≡ record { image = now.image; heads = set now.heads k x; common = y } → k < head_count now
        → image_now d l ≡ image_now d (then c) → count_now d l ≡ count_now d (then c) → y ≡ common_now s d (then c) → head_now s d (then c) k ≡ x → ((j : ℕ) → (j ≡ k → ⊥) → head_now s d (then c) j ≡ head_now s d l j) → Logged c
    one_head c k x y e h i m o here others = logged_parts c _ (head_now s d (then c)) (count_now d l) e i heads m (λ _. refl) o
      where
        heads : set (tab (head_now s d l) (count_now d l)) k x ≡ tab (head_now s d (then c)) (count_now d l)
        heads = sym (tab_set (head_now s d (then c)) (head_now s d l) (count_now d l) k (rw counted at h) (λ j _ g. others j g) ∙ ap (set (tab (head_now s d l) (count_now d l)) k) here)

    logged_ask : (k : ℕ) (state target : List ℕ) (room : ℕ) → eqb (call_number s now (ask k state target room)) 0 ≡ true → Logged (ask k state target room)
    unfolding image_now count_now waiting_now start_now own_now common_now step call_answer call_next
    logged_ask k state target room e =
        let h = ask_inside s now k state target room (eqb-true _ 0 e) in
        let i = now.image in
        one_head (ask k state target room) k (asked s now k state target) (common_after s now k) (rw e) h (rw e) (rw e)
        (rw e (ap (λ (x : Head). now.common - (s.sweeps i - x.own)) (head_now_lem k h)))
        (rw (e, eq-eqb k k refl) (ap {B = Head} (λ (x : Head). record { start = x.start; waiting = (asked s now k state target).waiting; own = x.own - s.sweeps i }) (sym (head_now_lem k h))))
        (λ j n. rw (e, ne_eqb k j (λ q. n (sym q))))

    logged_commit : (k room : ℕ) → eqb (call_number s now (commit k room)) 0 ≡ true → Logged (commit k room)
    unfolding image_now count_now waiting_now start_now own_now common_now step call_next
    logged_commit k room e =
        let h = commit_inside s now k room (eqb-true _ 0 e) in
        one_head (commit k room) k (committed s now k) now.common (rw e) h (rw e) (rw e) (rw e)
        (rw (e, eq-eqb k k refl) (ap {B = Head} (λ (x : Head). record { start = s.next_start now.image (answer_of x.waiting); waiting = none; own = x.own }) (sym (head_now_lem k h))))
        (λ j n. rw (e, ne_eqb k j (λ q. n (sym q))))

    logged_done : (k : ℕ) → eqb (call_number s now (done k)) 0 ≡ true → Logged (done k)
    unfolding image_now count_now waiting_now start_now own_now common_now step call_next
    logged_done k e =
        let h = done_inside s now k (eqb-true _ 0 e) in
        one_head (done k) k (finished now k) (now.common + (head_at now k).own) (rw e) h (rw e) (rw e)
        (rw e (ap (λ (x : Head). now.common + x.own) (head_now_lem k h)))
        (rw (e, eq-eqb k k refl) (ap {B = Head} (owning 0) (sym (head_now_lem k h))))
        (λ j n. rw (e, ne_eqb k j (λ q. n (sym q))))

    logged_accepted : (c : Call) → eqb (call_number s now c) 0 ≡ true → Logged c
    unfolding image_now count_now waiting_now start_now own_now common_now step call_next made
    logged_accepted (make i n) e = logged_parts (make i n) (made s i n) (λ (_ : ℕ). fresh s i) n (rw e) (rw e) (made_heads s i n) (rw e) (λ k. rw e) (rw e)
    logged_accepted (new_image i) e =
        logged_parts (new_image i) (call_next s now (new_image i)) (λ (k : ℕ). restarted s i (head_now s d l k)) (count_now d l) (rw e) (rw e) (tab_map (restarted s i) (head_now s d l) (count_now d l)) (rw e) (λ k. rw e) (rw e)
    logged_accepted (ask k state target room) e = logged_ask k state target room e
    logged_accepted (commit k room) e = logged_commit k room e
    logged_accepted (period total) e =
        let share : ℕ → Head → Head = λ n. owning (unsigned16 total / n) in
        logged_parts (period total) (call_next s now (period total)) (λ (k : ℕ). share (count_now d l) (head_now s d l k)) (count_now d l) (rw e) (rw e)
        (ap (λ (n : ℕ). map (share n) now.heads) counted ∙ tab_map (share (count_now d l)) (head_now s d l) (count_now d l)) (rw e) (λ k. rw e) (rw e (ap (λ (n : ℕ). unsigned16 total % n) counted))
    logged_accepted (done k) e = logged_done k e

    logged : (c : Call) → Logged c
    logged c = by (eqb (call_number s now c) 0) refl
      where
        by : (t : Bool) → eqb (call_number s now c) 0 ≡ t → Logged c
        by true e = logged_accepted c e
        by false e = logged_refused c e

  logged_by : (d : Device) (l : List Event) (x : Device) (c : Call) → x ≡ device_now s d l → (step s x c).next ≡ device_now s d (event_of c (step s x c) ∷ l)
  logged_by d l x c e = rw e (logged d l c)

  pub by_log : (d : Device) (cs : List Call) → ByLog s d cs
  unfolding image_now count_now waiting_now start_now own_now common_now
  by_log d [] = λ t. record { image = d.image; heads = tab_list d.heads absent (head_at d) (λ k _. refl) t; common = d.common }
  by_log d (c ∷ cs) = logged_by d (log s d cs) (after s d cs) c (by_log d cs)

  pub logged_image : (d : Device) (cs : List Call) → (after s d cs).image ≡ image_now d (log s d cs)
  logged_image d cs = ap (λ (x : Device). x.image) (by_log d cs)

  pub logged_head : (d : Device) (cs : List Call) (k : ℕ) → k < head_count (after s d cs) → head_at (after s d cs) k ≡ head_now s d (log s d cs) k
  logged_head d cs k h = ap (λ (x : Device). head_at x k) (by_log d cs) ∙ head_now_lem d (log s d cs) k (rw (by_log d cs) at h)

  -- ---- calls that leave the start of head k
  module _ (k : ℕ) where
    pub record Kept (d e : Device) : Type 0 where
      pub start : (head_at e k).start ≡ (head_at d k).start
      pub count_is : head_count e ≡ head_count d

    -- one that replaces this head or another by one of the same start
    kept_one : (d : Device) (j : ℕ) (x : Head) (y : ℕ) → j < head_count d → (eqb j k ≡ true → x.start ≡ (head_at d j).start) → Kept d (record { image = d.image; heads = set d.heads j x; common = y })
    kept_one d j x y h q = record { start = by (eqb j k) refl; count_is = length-set d.heads j x }
      where
        by : (t : Bool) → eqb j k ≡ t → (get_or (set d.heads j x) k absent).start ≡ (head_at d k).start
        by true e = rw (← eqb-true j k e) (ap (λ (x : Head). x.start) (get_or-set_same d.heads j x absent h) ∙ q e)
        by false e = ap (λ (x : Head). x.start) (other_head d j k x e)

    kept_accepted : (d : Device) (c : Call) → call_number s d c ≡ 0 → leaves_start k c ≡ true → Kept d (call_next s d c)
    unfolding call_next
    kept_accepted d (make i n) z q = absurd (true≢false (sym q))
    kept_accepted d (new_image i) z q = absurd (true≢false (sym q))
    kept_accepted d (ask j state target room) z q = kept_one d j (asked s d j state target) (common_after s d j) (ask_inside s d j state target room z) (λ _. refl)
    kept_accepted d (commit j room) z q = kept_one d j (committed s d j) d.common (commit_inside s d j room z) (λ e. absurd (true≢false (sym e ∙ not-true (eqb j k) q)))
    kept_accepted d (period total) z q = record {
      start = each_head (λ (x : Head). x.start) (owning (unsigned16 total / head_count d)) (λ h. refl) d.heads k;
      count_is = length-map d.heads (owning (unsigned16 total / head_count d));
    }
    kept_accepted d (done j) z q = kept_one d j (finished d j) (d.common + (head_at d j).own) (done_inside s d j z) (λ _. refl)

    kept_step : (d : Device) (c : Call) → keeps_start k (event_of c (step s d c)) ≡ true → Kept d (step s d c).next
    kept_step d c q = by (eqb (call_number s d c) 0) refl (rw (number_of s d c) at q)
      where
        by : (t : Bool) → eqb (call_number s d c) 0 ≡ t → cond t (leaves_start k c) true ≡ true → Kept d (step s d c).next
        by true e q = rw (next_accepted s d c e) (kept_accepted d c (eqb-true _ 0 e) q)
        by false e q = rw (next_refused s d c e) (record { start = refl; count_is = refl })

    pub kept_start : (d : Device) (cs : List Call) → all_keep_start k (log s d cs) ≡ true → Kept d (after s d cs)
    kept_start d [] q = record { start = refl; count_is = refl }
    kept_start d (c ∷ cs) q =
        let b = both (keeps_start k (event_of c (step s (after s d cs) c))) (all_keep_start k (log s d cs)) q in
        let last = kept_step (after s d cs) c b.0 in
        let earlier = kept_start d cs b.1 in
        record { start = last.start ∙ earlier.start; count_is = last.count_is ∙ earlier.count_is }

-- ---- whether no answer waits, by head
idle_append : (hs : List Head) (h : Head) → idle (hs ++ (h ∷ [])) ≡ idle hs && not (waits h.waiting)
idle_append [] h = by (waits h.waiting)
  where
    by : (t : Bool) → not t && true ≡ true && not t
    by true = refl
    by false = refl
idle_append (x ∷ hs) h = ap (λ (t : Bool). not (waits x.waiting) && t) (idle_append hs h) ∙ assoc (not (waits x.waiting)) (idle hs) (not (waits h.waiting))
  where
    assoc : (a b c : Bool) → a && (b && c) ≡ (a && b) && c
    assoc true b c = refl
    assoc false b c = refl

pub idle_tab : (f : ℕ → Head) (n : ℕ) → idle (tab f n) ≡ all_to (λ (k : ℕ). not (waits (f k).waiting)) n
idle_tab f zero = refl
idle_tab f (suc n) = idle_append (tab f n) (f n) ∙ ap (λ (t : Bool). t && not (waits (f n).waiting)) (idle_tab f n)
