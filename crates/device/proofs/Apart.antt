-- The heads do not disturb one another. Assumes nothing.
use Prim.Native.Nat.{ℕ, zero, suc, ◌+◌, ◌/◌, ◌<◌, ◌≤◌}
use mathlib.Core.Bool.{Bool, true, false, cond, not, ◌&&◌, true≢false}
use mathlib.Core.List.{List, [], ◌∷◌, map}
use mathlib.Core.Option.{Option, none, some}
use mathlib.Core.Logic.{◌⊎◌, inl, inr}
use mathlib.Core.Path.{◌≡◌, refl, sym, ap, ap₂, subst, ◌∙◌}
use native.Mathlib.Omega.{arith}
use lib.Dec.{eqb, leb, lit<}
use lib.ListN.{length, get_or, set, replicate, length-set, length-map}
use lib.Seq.{get_or-set_same, get_or-set_other}
use borrow.Author.Tests.{eqb-true, eqb-false, eq-eqb, leb-true, le-leb, not-true}
use Rattle.integer.proofs.Tests.{both}
use Rattle.image.specs.Order.{or_else}
use Rattle.image.proofs.Ordering as ordering
use Rattle.device.specs.Solver.{Solver}
use Rattle.device.specs.Device.{Head, Device, head_count, absent, head_at, waits, answer_of, idle}
use Rattle.device.specs.Call.{Call, make, new_image, ask, commit, period, done, unsigned16, ask_checks, call_number, call_answer, call_next, fresh, made, restarted, asked, common_after, committed, owning, finished, step}
use Rattle.device.specs.Run.{Event, event_of, after, log}
use Rattle.device.specs.Apart.{concerns_by, only, calls_of, is_new_image, no_new_image, reaches, stays_by, stays, Same, Quiet, Alone, Apart}
use Rattle.device.proofs.Runs.{index_inside, ask_inside, commit_inside, done_inside, next_accepted, next_refused, number_of, other_head, each_head, logged_image, logged_head}

-- ---- lists of heads
none_of : (w : Option (List ℕ)) → waits w ≡ false → w ≡ none
none_of none e = refl
none_of (some a) e = absurd (true≢false e)

-- no answer waits, of the list and of each head
idle_at_lem : (hs : List Head) → idle hs ≡ true → (j : ℕ) → (get_or hs j absent).waiting ≡ none
idle_at_lem [] e j = refl
idle_at_lem (h ∷ hs) e zero = none_of h.waiting (not-true (waits h.waiting) (both _ (idle hs) e).0)
idle_at_lem (h ∷ hs) e (suc j) = idle_at_lem hs (both (not (waits h.waiting)) (idle hs) e).1 j

at_idle : (hs : List Head) → ((j : ℕ) → (get_or hs j absent).waiting ≡ none) → idle hs ≡ true
at_idle [] f = refl
at_idle (h ∷ hs) f = rw (f 0) (at_idle hs (λ j. f (suc j)))

map_same : (f : Head → Head) (k : ℕ) (xs ys : List Head) → length xs ≡ length ys → get_or xs k absent ≡ get_or ys k absent → get_or (map f xs) k absent ≡ get_or (map f ys) k absent
map_same f k [] [] h e = refl
map_same f k [] (y ∷ ys) h e = let z : ⊥ = omega arith in absurd z
map_same f k (x ∷ xs) [] h e = let z : ⊥ = omega arith in absurd z
map_same f zero (x ∷ xs) (y ∷ ys) h e = ap f e
map_same f (suc k) (x ∷ xs) (y ∷ ys) h e = map_same f k xs ys (omega arith) e

-- ---- two drives that are the same to head k; where new images are to come, no other head's answer waits in the second one
record Beside (k : ℕ) (renewing : Bool) (d e : Device) : Type 0 where
  same : Same k d e
  quiet : renewing ≡ true → Quiet k e

all_quiet : (n : ℕ) (x : Head) → x.waiting ≡ none → (j : ℕ) → (get_or (replicate n x) j absent).waiting ≡ none
all_quiet zero x e j = refl
all_quiet (suc n) x e zero = e
all_quiet (suc n) x e (suc j) = all_quiet n x e j

new_quiet : (s : Solver) (image : List ℕ) (n k : ℕ) → Quiet k (made s image n)
unfolding made
new_quiet s image n k j g = all_quiet n (fresh s image) refl j

-- what a call that concerns head k does to both
record Match (s : Solver) (k : ℕ) (renewing : Bool) (d e : Device) (c : Call) : Type 0 where
  number : call_number s d c ≡ call_number s e c
  answer : call_answer s d c ≡ call_answer s e c
  next : call_number s d c ≡ 0 → Beside k renewing (call_next s d c) (call_next s e c)

-- 20 does not look at the common part where the own share suffices
own_suffices : (a cost own x y : ℕ) → (a ≡ 0 → cost ≤ own) → or_else a (cond (leb cost (own + x)) 0 20) ≡ or_else a (cond (leb cost (own + y)) 0 20)
own_suffices a cost own x y h = by (eqb a 0) refl
  where
    by : (t : Bool) → eqb a 0 ≡ t → cond t (cond (leb cost (own + x)) 0 20) a ≡ cond t (cond (leb cost (own + y)) 0 20) a
    by true q = let l : cost ≤ own = h (eqb-true a 0 q) in rw (le-leb cost (own + x) (omega arith), le-leb cost (own + y) (omega arith))
    by false q = refl

-- an ask of head k that comes to the check of its sweeps costs at most its own share
abbrev Affords : Solver → ℕ → Device → Call → Type 0
Affords s k d (make image n) = Unit {0}
Affords s k d (new_image image) = Unit {0}
Affords s k d (ask j state target room) = j ≡ k → ask_checks s d k state target room ≡ 0 → s.sweeps d.image ≤ (head_at d k).own
Affords s k d (commit j room) = Unit {0}
Affords s k d (period total) = Unit {0}
Affords s k d (done j) = Unit {0}

-- in both of two drives that are the same to it
module _ (s : Solver) (k : ℕ) (d e : Device) (same : Same k d e) where
  same_checks : (state target : List ℕ) (room : ℕ) → ask_checks s d k state target room ≡ ask_checks s e k state target room
  unfolding ask_checks
  same_checks state target room = rw (same.image, same.count_is, same.head)

  same_affords : (c : Call) → Affords s k d c → Affords s k e c
  same_affords (make i n) a = tt
  same_affords (new_image i) a = tt
  same_affords (ask j state target room) a = λ q z. rw (← same.image, ← same.head) (a q (same_checks state target room ∙ z))
  same_affords (commit j room) a = tt
  same_affords (period total) a = tt
  same_affords (done j) a = tt

turned : (k : ℕ) (d e : Device) → Same k d e → Same k e d
turned k d e same = record { image = sym same.image; count_is = sym same.count_is; head = sym same.head }

module _ (s : Solver) (k : ℕ) (renewing : Bool) (d e : Device) (b : Beside k renewing d e) where
  abbrev same : Same k d e
  same = b.same

  match_make : (i : List ℕ) (n : ℕ) → Match s k renewing d e (make i n)
  unfolding call_number call_answer call_next
  match_make i n = record {
    number = refl;
    answer = refl;
    next = λ _. record { same = record { image = refl; count_is = refl; head = refl }; quiet = λ _. new_quiet s i n k };
  }

  match_new : (i : List ℕ) → renewing ≡ true → call_number s d (new_image i) ≡ 0 → Match s k renewing d e (new_image i)
  unfolding call_number call_answer call_next
  match_new i r z = record {
    number = rw (idle_d, idle_e);
    answer = refl;
    next = λ _. record {
      same = record { image = refl; count_is = simp length-map same.count_is; head = map_same (restarted s i) k d.heads e.heads same.count_is same.head };
      quiet = λ r j n. each_head (λ (x : Head). x.waiting) (restarted s i) (λ h. refl) e.heads j ∙ b.quiet r j n;
    };
  }
    where
      idle_d : idle d.heads ≡ true
      idle_d = (ordering.passed (idle d.heads) 19 0 (lit< tt) (ordering.none (s.image_number i) _ z).1).0

      at_e : (j : ℕ) → (head_at e j).waiting ≡ none
      at_e j = by (eqb j k) refl
        where
          by : (t : Bool) → eqb j k ≡ t → (head_at e j).waiting ≡ none
          by true q = rw (eqb-true j k q, ← same.head) (idle_at_lem d.heads idle_d k)
          by false q = b.quiet r j (eqb-false j k q)

      idle_e : idle e.heads ≡ true
      idle_e = at_idle e.heads at_e

  match_period : (total : ℕ) → Match s k renewing d e (period total)
  unfolding call_number call_answer call_next
  match_period total = record {
    number = rw same.count_is;
    answer = refl;
    next = λ _. record {
      same = record {
        image = same.image;
        count_is = simp length-map same.count_is;
        head = rw same.count_is (map_same (owning (unsigned16 total / head_count e)) k d.heads e.heads same.count_is same.head);
      };
      quiet = λ r j n. each_head (λ (x : Head). x.waiting) (owning (unsigned16 total / head_count e)) (λ h. refl) e.heads j ∙ b.quiet r j n;
    };
  }

  -- head k of both is replaced by the same
  match_set : (x y : Head) (v w : ℕ) → x ≡ y → k < head_count d → Beside k renewing (record { image = d.image; heads = set d.heads k x; common = v }) (record { image = e.image; heads = set e.heads k y; common = w })
  match_set x y v w q h = record {
    same = record {
      image = same.image;
      count_is = simp length-set same.count_is;
      head = get_or-set_same d.heads k x absent h ∙ q ∙ sym (get_or-set_same e.heads k y absent (rw same.count_is at h));
    };
    quiet = λ r j n. rw (get_or-set_other e.heads k j y absent n) (b.quiet r j n);
  }

  match_ask : (state target : List ℕ) (room : ℕ) → (ask_checks s d k state target room ≡ 0 → s.sweeps d.image ≤ (head_at d k).own) → Match s k renewing d e (ask k state target room)
  unfolding call_number call_answer call_next
  match_ask state target room a = record {
    number = own_suffices (ask_checks s d k state target room) (s.sweeps d.image) (head_at d k).own d.common e.common a ∙ rw (same_checks s k d e same state target room, same.image, same.head);
    answer = ap₂ (λ (i : List ℕ) (h : Head). s.solve_answer i state target h.start) same.image same.head;
    next = λ z. match_set (asked s d k state target) (asked s e k state target) (common_after s d k) (common_after s e k) (rw (same.image, same.head)) (ask_inside s d k state target room z);
  }

  match_commit : (room : ℕ) → Match s k renewing d e (commit k room)
  unfolding call_number call_answer call_next
  match_commit room = record {
    number = rw (same.image, same.count_is, same.head);
    answer = ap₂ (λ (i : List ℕ) (h : Head). s.first_commands i (answer_of h.waiting)) same.image same.head;
    next = λ z. match_set (committed s d k) (committed s e k) d.common e.common (rw (same.image, same.head)) (commit_inside s d k room z);
  }

  match_done : Match s k renewing d e (done k)
  unfolding call_number call_answer call_next
  match_done = record {
    number = rw same.count_is;
    answer = refl;
    next = λ z. match_set (finished d k) (finished e k) (d.common + (head_at d k).own) (e.common + (head_at e k).own) (ap (owning 0) same.head) (done_inside s d k z);
  }

  match : (c : Call) → concerns_by k c (eqb (call_number s d c) 0) ≡ true → (is_new_image c ≡ true → renewing ≡ true) → Affords s k d c → Match s k renewing d e c
  match (make i n) q r a = match_make i n
  match (new_image i) q r a = match_new i (r refl) (eqb-true _ 0 q)
  match (ask j state target room) q r a = let i = eqb-true j k q in rw i (match_ask state target room (a i))
  match (commit j room) q r a = rw (eqb-true j k q) (match_commit room)
  match (period total) q r a = match_period total
  match (done j) q r a = rw (eqb-true j k q) match_done

  -- a call that does not concern it: nothing of head k changes
  other_set : (j : ℕ) (x : Head) (v : ℕ) → eqb j k ≡ false → Beside k renewing (record { image = d.image; heads = set d.heads j x; common = v }) e
  other_set j x v q = record {
    same = record { image = same.image; count_is = length-set d.heads j x ∙ same.count_is; head = other_head d j k x q ∙ same.head };
    quiet = b.quiet;
  }

  other : (c : Call) → concerns_by k c (eqb (call_number s d c) 0) ≡ false → call_number s d c ≡ 0 → Beside k renewing (call_next s d c) e
  unfolding call_next
  other (make i n) q z = absurd (eqb-false _ 0 q z)
  other (new_image i) q z = absurd (eqb-false _ 0 q z)
  other (ask j state target room) q z = other_set j (asked s d j state target) (common_after s d j) q
  other (commit j room) q z = other_set j (committed s d j) d.common q
  other (period total) q z = absurd (eqb-false _ 0 q z)
  other (done j) q z = other_set j (finished d j) (d.common + (head_at d j).own) q

  -- the two drives after the call, and what the caller sees
  match_next : (c : Call) → Match s k renewing d e c → Beside k renewing (step s d c).next (step s e c).next
  match_next c m = by (eqb (call_number s d c) 0) refl
    where
      by : (t : Bool) → eqb (call_number s d c) 0 ≡ t → Beside k renewing (step s d c).next (step s e c).next
      by true q = rw (next_accepted s d c q, next_accepted s e c (rw m.number at q)) (m.next (eqb-true _ 0 q))
      by false q = rw (next_refused s d c q, next_refused s e c (rw m.number at q)) b

  match_event : (c : Call) → Match s k renewing d e c → event_of c (step s d c) ≡ event_of c (step s e c)
  unfolding step
  match_event c m = let f : ℕ → List ℕ → Event = λ n a. record { call = c; number = n; answer = cond (eqb n 0) a [] } in ap₂ f m.number m.answer

  other_next : (c : Call) → concerns_by k c (eqb (call_number s d c) 0) ≡ false → Beside k renewing (step s d c).next e
  other_next c h = by (eqb (call_number s d c) 0) refl
    where
      by : (t : Bool) → eqb (call_number s d c) 0 ≡ t → Beside k renewing (step s d c).next e
      by true q = rw (next_accepted s d c q) (other c h (eqb-true _ 0 q))
      by false q = rw (next_refused s d c q) b

-- ---- a head whose asks stay within its share, by the log and by the drive
-- an ask that passes all other checks is 0 or 20
past_checks : (a : ℕ) (t : Bool) → a ≡ 0 → reaches (or_else a (cond t 0 20)) ≡ true
past_checks a true e = rw e refl
past_checks a false e = rw e refl

module _ (s : Solver) (k : ℕ) (d : Device) (cs : List Call) where
  abbrev x : Device
  x = after s d cs

  abbrev l : List Event
  l = log s d cs

  affords_ask : (state target : List ℕ) (room : ℕ) → stays_by s k d (ask k state target room) (step s x (ask k state target room)).number l ≡ true → ask_checks s x k state target room ≡ 0 → s.sweeps x.image ≤ (head_at x k).own
  unfolding step call_number ask_checks
  affords_ask state target room q z =
      let r : reaches (call_number s x (ask k state target room)) ≡ true = past_checks _ _ z in
      let own = ap (λ (h : Head). h.own) (logged_head s d cs k (index_inside (head_count x) k _ z)) in
      rw (logged_image s d cs, own) (leb-true _ _ (rw (eq-eqb k k refl, r) at q))

  affords : (c : Call) → stays_by s k d c (step s x c).number l ≡ true → Affords s k x c
  affords (make i n) q = tt
  affords (new_image i) q = tt
  affords (ask j state target room) q = λ e z. affords_ask state target room (rw e at q) z
  affords (commit j room) q = tt
  affords (period total) q = tt
  affords (done j) q = tt

-- all asks of a run
abbrev AffordsAll : Solver → ℕ → Device → List Call → Type 0
AffordsAll s k d [] = Unit {0}
AffordsAll s k d (c ∷ cs) = Affords s k (after s d cs) c × AffordsAll s k d cs

affords_all : (s : Solver) (k : ℕ) (d : Device) (cs : List Call) → stays s k d (log s d cs) ≡ true → AffordsAll s k d cs
affords_all s k d [] y = tt
affords_all s k d (c ∷ cs) y =
    let b = both (stays_by s k d c (step s (after s d cs) c).number (log s d cs)) (stays s k d (log s d cs)) y in
    (affords s k d cs c b.0, affords_all s k d cs b.1)

-- a part of what is false is
and_false : (a b : Bool) → b ≡ false → a && b ≡ false
and_false true b e = e
and_false false b e = refl

-- ---- a run, and the run of the calls that concern head k alone
module _ (s : Solver) (k : ℕ) (renewing : Bool) where
  record Kept (d e : Device) (cs : List Call) (own : List Event) : Type 0 where
    outcomes : own ≡ log s e (calls_of own)
    left : Beside k renewing (after s d cs) (after s e (calls_of own))
    thrifty : AffordsAll s k e (calls_of own)

  -- new images among the calls that concern head k come where they are to come
  abbrev Renewed : List Event → Type 0
  Renewed own = no_new_image (calls_of own) ≡ false → renewing ≡ true

  -- its asks stay within its share in one of the two runs
  abbrev Thrifty : Device → Device → List Call → List Event → Type 0
  Thrifty d e cs own = AffordsAll s k d cs ⊎ AffordsAll s k e (calls_of own)

  module _ (d e : Device) (c : Call) (cs : List Call) (own : List Event) where
    abbrev here : Device
    here = after s d cs

    abbrev there : Device
    there = after s e (calls_of own)

    abbrev event : Event
    event = event_of c (step s here c)

    kept_own : concerns_by k c (eqb (step s here c).number 0) ≡ true → Renewed (event ∷ own) → Affords s k here c → Kept d e cs own → Kept d e (c ∷ cs) (event ∷ own)
    kept_own q r a rest =
        let new : is_new_image c ≡ true → renewing ≡ true = λ n. r (rw n) in
        let m = match s k renewing here there rest.left c (rw number_of at q) new a in
        record {
          outcomes = ap₂ ◌∷◌ (match_event s k renewing here there rest.left c m) rest.outcomes;
          left = match_next s k renewing here there rest.left c m;
          thrifty = (same_affords s k here there rest.left.same c a, rest.thrifty);
        }

    kept_other : concerns_by k c (eqb (step s here c).number 0) ≡ false → Kept d e cs own → Kept d e (c ∷ cs) own
    kept_other q rest = record { outcomes = rest.outcomes; left = other_next s k renewing here there rest.left c (rw number_of at q); thrifty = rest.thrifty }

    -- from the run of one more call
    kept_call : (t : Bool) → concerns_by k c (eqb (step s here c).number 0) ≡ t → Renewed (cond t (event ∷ own) own) → Thrifty d e (c ∷ cs) (cond t (event ∷ own) own)
        → (Renewed own → Thrifty d e cs own → Kept d e cs own) → Kept d e (c ∷ cs) (cond t (event ∷ own) own)
    kept_call true q r (inl h) earlier = let rest = earlier (λ n. r (and_false (not (is_new_image c)) (no_new_image (calls_of own)) n)) (inl h.1) in kept_own q r h.0 rest
    kept_call true q r (inr h) earlier = let rest = earlier (λ n. r (and_false (not (is_new_image c)) (no_new_image (calls_of own)) n)) (inr h.1) in kept_own q r (same_affords s k there here (turned k here there rest.left.same) c h.0) rest
    kept_call false q r (inl h) earlier = kept_other q (earlier r (inl h.1))
    kept_call false q r (inr h) earlier = kept_other q (earlier r (inr h))

  kept : (d e : Device) → Beside k renewing d e → (cs : List Call) → Renewed (only k (log s d cs)) → Thrifty d e cs (only k (log s d cs)) → Kept d e cs (only k (log s d cs))
  kept d e b [] r h = record { outcomes = refl; left = b; thrifty = tt }
  kept d e b (c ∷ cs) r h = kept_call d e c cs (only k (log s d cs)) (concerns_by k c (eqb (step s (after s d cs) c).number 0)) refl r h (λ r h. kept d e b cs r h)

module _ (s : Solver) (k : ℕ) where
  abbrev own : Device → List Call → List Call
  own d cs = calls_of (only k (log s d cs))

  pub alone : (d e : Device) → Same k d e → Quiet k e → (cs : List Call) → stays s k e (log s e (own d cs)) ≡ true → Alone s k d e cs
  alone d e same quiet cs y =
      let r = kept s k true d e (record { same = same; quiet = λ _. quiet }) cs (λ _. refl) (inr (affords_all s k e (own d cs) y)) in
      record { outcomes = r.outcomes; left = r.left.same }

  -- between accepted new images: from the same drive, whoever's answer waits
  pub between : (d : Device) (cs : List Call) → no_new_image (own d cs) ≡ true → stays s k d (log s d (own d cs)) ≡ true → Alone s k d d cs
  between d cs n y =
      let b : Beside k false d d = record { same = record { image = refl; count_is = refl; head = refl }; quiet = λ q. absurd (true≢false (sym q)) } in
      let r = kept s k false d d b cs (λ q. absurd (true≢false (sym n ∙ q))) (inr (affords_all s k d (own d cs) y)) in
      record { outcomes = r.outcomes; left = r.left.same }

-- ---- two runs: each beside the run of those calls from a drive in which no other answer waits
abbrev hushed : Head → Head
hushed h = record { start = h.start; waiting = none; own = h.own }

hush : ℕ → List Head → List Head
hush k [] = []
hush zero (h ∷ hs) = h ∷ map hushed hs
hush (suc k) (h ∷ hs) = hushed h ∷ hush k hs

hush_length : (k : ℕ) (hs : List Head) → length hs ≡ length (hush k hs)
unfolding hush
hush_length k [] = refl
hush_length zero (h ∷ hs) = ap suc (sym (length-map hs hushed))
hush_length (suc k) (h ∷ hs) = ap suc (hush_length k hs)

hush_here : (k : ℕ) (hs : List Head) → get_or hs k absent ≡ get_or (hush k hs) k absent
unfolding hush
hush_here k [] = refl
hush_here zero (h ∷ hs) = refl
hush_here (suc k) (h ∷ hs) = hush_here k hs

hushed_all : (hs : List Head) (j : ℕ) → (get_or (map hushed hs) j absent).waiting ≡ none
hushed_all [] j = refl
hushed_all (h ∷ hs) zero = refl
hushed_all (h ∷ hs) (suc j) = hushed_all hs j

hushed_others : (k : ℕ) (hs : List Head) (j : ℕ) → (j ≡ k → ⊥) → (get_or (hush k hs) j absent).waiting ≡ none
unfolding hush
hushed_others k [] j n = refl
hushed_others zero (h ∷ hs) zero n = absurd (n refl)
hushed_others zero (h ∷ hs) (suc j) n = hushed_all hs j
hushed_others (suc k) (h ∷ hs) zero n = refl
hushed_others (suc k) (h ∷ hs) (suc j) n = hushed_others k hs j (λ e. n (ap suc e))

module _ (s : Solver) (k : ℕ) (d e : Device) (same : Same k d e) where
  quieted : Device
  quieted = record { image = d.image; heads = hush k d.heads; common = d.common }

  same_quieted : Same k d quieted
  unfolding quieted
  same_quieted = record { image = refl; count_is = hush_length k d.heads; head = hush_here k d.heads }

  also_quieted : Same k e quieted
  also_quieted = record {
    image = sym same.image ∙ same_quieted.image;
    count_is = sym same.count_is ∙ same_quieted.count_is;
    head = sym same.head ∙ same_quieted.head;
  }

  quiet : Quiet k quieted
  unfolding quieted
  quiet j n = hushed_others k d.heads j n

  -- its asks stay within its share in the one run, and so in the other
  pub apart : (cs others : List Call) → own s k d cs ≡ own s k e others → stays s k d (log s d cs) ≡ true → Apart s k d e cs others
  apart cs others q y =
      let a = kept s k true d quieted (record { same = same_quieted; quiet = λ _. quiet }) cs (λ _. refl) (inl (affords_all s k d cs y)) in
      let b = kept s k true e quieted (record { same = also_quieted; quiet = λ _. quiet }) others (λ _. refl) (inr (subst (AffordsAll s k quieted) q a.thrifty)) in
      let l = ap (after s quieted) q in
      record {
        outcomes = a.outcomes ∙ ap (log s quieted) q ∙ sym b.outcomes;
        left = record {
          image = a.left.same.image ∙ ap (λ (x : Device). x.image) l ∙ sym b.left.same.image;
          count_is = a.left.same.count_is ∙ ap head_count l ∙ sym b.left.same.count_is;
          head = a.left.same.head ∙ ap (λ (x : Device). head_at x k) l ∙ sym b.left.same.head;
        };
      }
