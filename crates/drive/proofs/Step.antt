-- A call on the bytes of a valid drive is a step of the drive that they hold, and leaves a valid one. Assumes nothing.
use mathlib.Core.Bool.{Bool, true, false, cond, not, not-not}
use mathlib.Core.Path.{◌≡◌, refl, sym, ap, ap₂, subst, subst₂, ◌∙◌}
use mathlib.Core.List.{List, [], ◌∷◌, map}
use mathlib.Core.Option.{none, some}
use Prim.Native.Nat.{ℕ, ◌+◌, ◌-◌, ◌/◌, ◌%◌, ◌^◌, ◌<◌, ◌≤◌, min}
use native.Mathlib.Nat.{mod-lt}
use native.Mathlib.Omega.{arith}
use lib.Dec.{eqb, leb, ltb, lit≤}
use lib.ListN.{length, set}
use borrow.Author.Tests.{eqb-true, eqb-false, ltb-true, ltb-false, le-ltb, le-leb}
use Rattle.gradient.specs.Index.{tab, sum_n, all_to}
use Rattle.gradient.proofs.Index.{sum_n_cong, tab_length, tab_at, tab_cong, tab_map, tab_set}
use Rattle.image.specs.Order.{check, first_fault, or_else, buffer_number}
use Rattle.image.specs.Checks.{head_number}
use Rattle.image.proofs.Ordering as ordering
use Rattle.interface.specs.Tables.{image_number}
use Rattle.interface.specs.Calls.{solve_number, solve_answer}
use Rattle.interface.specs.Stop.{AcceptedStart}
use Rattle.interface.proofs.Accept.{accepted}
use Rattle.interface.proofs.Stop.{all_zeros, cold_start_accepted}
use Rattle.device.specs.Device.{Head, Device, most_heads, head_count, absent, head_at, waits, answer_of, idle}
use Rattle.device.specs.Call as value
use Rattle.device.specs.Call.{Call, make, new_image, ask, commit, period, done, Outcome, count_number, index_number, unsigned16}
use Rattle.device.specs.Period.{left_of}
use Rattle.device.proofs.Runs.{made_heads, idle_tab}
use Rattle.device.proofs.Period.{new_left, left_next, own_left}
use Rattle.drive.specs.Layout.{drive_length, held_image, held_command_count, held_start, held_answer, held_count, held_heads, held_own, held_common, held_sweeps}
use Rattle.drive.specs.Move.{next_start, first_length, first_commands}
use Rattle.drive.specs.Calls.{imaged_number, make_number, make_drive, imaged, idle_at, new_number, place_number, ask_number, ask_answer, ask_drive, parts_number, commit_number, commit_answer, commit_drive, period_number, period_drive, done_drive}
use Rattle.drive.specs.Held.{head_of, device_of, zero_start, solver}
use Rattle.drive.specs.Parts.{Placed}
use Rattle.drive.specs.Run.{number_on, answer_on, drive_on, after_call, written_by, held_left, Valid, HeldStep}
use Rattle.drive.proofs.Accept.{makeable, Renewable, renewable, placed, askable, committable, periodic}
use Rattle.drive.proofs.Held.{Replaced, ask_replaces, commit_replaces, done_replaces}
use Rattle.drive.proofs.AllHeads.{Renewed, make_renews, image_renews, period_renews}
use Rattle.drive.proofs.Next.{next_accepted}

-- what stands behind the check of a head's number
pub by_index : (n k a b : ℕ) → (k < n → a ≡ b) → or_else (index_number n k) a ≡ or_else (index_number n k) b
by_index n k a b f = by (ltb k n) refl
  where
    by : (t : Bool) → ltb k n ≡ t → or_else (cond t 0 3) a ≡ or_else (cond t 0 3) b
    by true q = f (ltb-true k n q)
    by false q = refl

-- as one list of checks
pub first_index : (n k a : ℕ) → or_else (index_number n k) a ≡ cond (ltb k n) a 3
first_index n k a = by (ltb k n)
  where
    by : (t : Bool) → or_else (cond t 0 3) a ≡ cond t a 3
    by true = refl
    by false = refl

-- ---- the heads that bytes hold
waits_is : (t : Bool) (a : List ℕ) → waits (cond t none (some a)) ≡ not t
waits_is true a = refl
waits_is false a = refl

module _ (d : List ℕ) where
  pub count_held : head_count (device_of d) ≡ held_heads d
  unfolding device_of
  count_held = tab_length (head_of d) (held_heads d)

  pub head_held : (k : ℕ) → k < held_heads d → head_at (device_of d) k ≡ head_of d k
  unfolding device_of
  head_held k h = tab_at (head_of d) (held_heads d) k absent h

  pub waits_held : (k : ℕ) → waits (head_of d k).waiting ≡ not (idle_at d k)
  unfolding head_of
  waits_held k = waits_is (idle_at d k) (held_answer d k)

  idle_held : idle (device_of d).heads ≡ all_to (idle_at d) (held_heads d)
  unfolding device_of
  idle_held = idle_tab (head_of d) (held_heads d) ∙ ap (λ (p : ℕ → Bool). all_to p (held_heads d)) (λ t k. (ap not (waits_held k) ∙ not-not (idle_at d k)) t)

  pub left_held : left_of (device_of d) ≡ held_left d
  unfolding device_of head_of
  left_held =
      ap (λ (n : ℕ). sum_n (λ (k : ℕ). (head_at (device_of d) k).own) n + held_common d) count_held
      ∙ ap (λ (n : ℕ). n + held_common d) (sum_n_cong (λ (k : ℕ). (head_at (device_of d) k).own) (held_own d) (held_heads d) (λ k h. ap (λ (x : Head). x.own) (head_held k h)))

  -- a drive in which head k was replaced
  replaced_held : (e : List ℕ) (k : ℕ) (x : Head) (common : ℕ) → Replaced d e k x common → k < held_heads d → device_of e ≡ record { image = (device_of d).image; heads = set (device_of d).heads k x; common = common }
  unfolding device_of
  replaced_held e k x common r h = λ t. record { image = r.image t; heads = heads t; common = r.common_is t }
    where
      heads : tab (head_of e) (held_heads e) ≡ set (tab (head_of d) (held_heads d)) k x
      heads =
          ap (λ (n : ℕ). tab (head_of e) (min n most_heads)) r.count_is
          ∙ tab_set (head_of e) (head_of d) (held_heads d) k h (λ j l n. r.others j (omega arith) n)
          ∙ ap (set (tab (head_of d) (held_heads d)) k) r.here

-- one whose heads were
renewed_held : (e image : List ℕ) (n common : ℕ) (f : ℕ → Head) → Renewed e image n common f → n ≤ most_heads → device_of e ≡ record { image = image; heads = tab f n; common = common }
unfolding device_of
renewed_held e image n common f r h = λ t. record { image = r.image_is t; heads = (ap (tab (head_of e)) all ∙ tab_cong (head_of e) f n (λ k l. r.heads k (omega arith) l)) t; common = r.common_is t }
  where
    all : held_heads e ≡ n
    all = omega (arith, r.count_is)

-- ---- a new drive
zeros_accepted : (image : List ℕ) → image_number image ≡ 0 → AcceptedStart image (zero_start image)
unfolding zero_start
zeros_accepted image e = rw (all_zeros image) at (cold_start_accepted image e)

-- a drive whose heads have accepted starts
valid_all : (e image : List ℕ) (n common : ℕ) (f : ℕ → Head) → Renewed e image n common f → 1 ≤ n → n ≤ most_heads → image_number image ≡ 0 → ((k : ℕ) → k < n → AcceptedStart image (f k).start) → left_of (device_of e) < 2 ^ 16 → Valid e
unfolding head_of
valid_all e image n common f r low high ok starts left = record {
  counted = record { size = r.size; low = rw r.count_is low; high = rw r.count_is high };
  image = ap image_number r.image_is ∙ ok;
  starts = λ k h. let b : k < n = rw r.count_is at h in subst₂ AcceptedStart (sym r.image_is) (ap (λ (x : Head). x.start) (sym (r.heads k (omega arith) b))) (starts k b);
  sweeps = rw (← left_held e) left;
}

module _ (image : List ℕ) (n : ℕ) (low : 1 ≤ n) (high : n ≤ most_heads) (e : image_number image ≡ 0) where
  pub new_held : device_of (make_drive image n) ≡ value.made solver image n
  unfolding value.made solver
  new_held = renewed_held (make_drive image n) image n 0 _ (make_renews image n high e) high ∙ (λ t. record { image = image; heads = sym (made_heads solver image n) t; common = 0 })

  pub new_valid : Valid (make_drive image n)
  new_valid = valid_all (make_drive image n) image n 0 _ (make_renews image n high e) low high e (λ k _. zeros_accepted image e) (rw (new_held, new_left solver image n) (omega arith))

module _ (d : List ℕ) (v : Valid d) where
  abbrev D : Device
  D = device_of d

  fits : buffer_number drive_length (length d) ≡ 0
  fits = sym (ordering.buffer_fits drive_length (length d) v.counted.size)

  few : held_command_count d ≤ 16
  few = (accepted (held_image d) v.image).whole.sizes.n_high

  pub all_held : held_heads d ≡ held_count d
  all_held = omega (arith, v.counted.high)

  count_is : head_count D ≡ held_count d
  count_is = count_held d ∙ all_held

  left_small : left_of D < 2 ^ 16
  left_small = rw (left_held d) v.sweeps

  -- of the checks before a solve the head's is left, and of those before a commit's own
  pub place_valid : (k : ℕ) → place_number d k ≡ index_number (held_count d) k
  unfolding place_number
  place_valid k = ap (λ (n : ℕ). or_else (index_number most_heads k) (or_else n (index_number (held_count d) k))) fits ∙ by (ltb k most_heads) refl
    where
      by : (t : Bool) → ltb k most_heads ≡ t → or_else (cond t 0 3) (index_number (held_count d) k) ≡ index_number (held_count d) k
      by true q = refl
      by false q = rw (le-ltb k (held_count d) (omega (arith, ltb-false k most_heads q, v.counted.high)))

  pub parts_valid : (k : ℕ) → parts_number d k ≡ index_number (held_count d) k
  unfolding parts_number image_number
  parts_valid k = ap₂ or_else (place_valid k) (ordering.none (head_number (held_image d)) _ v.image).0 ∙ ordering.or_none (index_number (held_count d) k)

  imaged_valid : (image : List ℕ) → imaged_number image (length d) ≡ image_number image
  unfolding imaged_number
  imaged_valid image = ap (or_else (image_number image)) fits ∙ ordering.or_none (image_number image)

  pub make_valid : (image : List ℕ) (n : ℕ) → make_number image n (length d) ≡ or_else (count_number n) (image_number image)
  unfolding make_number
  make_valid image n = ap (or_else (count_number n)) (imaged_valid image)

  pub new_image_valid : (image : List ℕ) → new_number d image ≡ or_else (image_number image) (first_fault (check 19 (all_to (idle_at d) (held_count d)) ∷ []))
  unfolding new_number
  new_image_valid image = ap₂ (λ (m n : ℕ). or_else m (first_fault (check 19 (all_to (idle_at d) n) ∷ []))) (imaged_valid image) all_held

  pub period_valid : period_number d ≡ 0
  unfolding period_number
  period_valid = ap (λ (m : ℕ). or_else m (count_number (held_count d))) fits ∙ (rw (le-leb 1 (held_count d) v.counted.low, le-leb (held_count d) most_heads v.counted.high))

  -- what an ask tests behind its head
  abbrev behind : ℕ → List ℕ → List ℕ → ℕ → Head → ℕ
  behind k state target room x = or_else (solve_number (held_image d) state target x.start room) (first_fault (check 20 (leb (held_sweeps d) (x.own + held_common d)) ∷ []))

  held_number : (c : Call) → number_on d c ≡ value.call_number solver D c
  unfolding number_on value.call_number value.ask_checks solver device_of head_of ask_number commit_number
  held_number (make image n) = make_valid image n
  held_number (new_image image) = new_image_valid image ∙ ap (λ (t : Bool). or_else (image_number image) (cond {A = ℕ} t 0 19)) (ap (all_to (idle_at d)) (sym all_held) ∙ sym (idle_held d))
  held_number (ask k state target room) =
      ap (λ (n : ℕ). or_else n (behind k state target room (head_of d k))) (place_valid k)
      ∙ by_index (held_count d) k _ _ (λ h. ap (behind k state target room) (sym (head_held d k (rw all_held h))))
      ∙ ap (λ (n : ℕ). or_else (index_number n k) (behind k state target room (head_at D k))) (sym count_is)
      ∙ sym (ordering.or_assoc (index_number (head_count D) k) _ _)
  held_number (commit k room) =
      ap (λ (n : ℕ). or_else n (first_fault (check 15 (eqb room (first_length (held_image d))) ∷ check 18 (not (idle_at d k)) ∷ []))) (parts_valid k)
      ∙ by_index (held_count d) k _ _ (λ h. ap (λ (t : Bool). first_fault (check 15 (eqb room (first_length (held_image d))) ∷ check 18 t ∷ [])) (sym (ap (λ (x : Head). waits x.waiting) (head_held d k (rw all_held h)) ∙ waits_held d k)))
      ∙ ap (λ (n : ℕ). or_else (index_number n k) (first_fault (check 15 (eqb room (first_length (held_image d))) ∷ check 18 (waits (head_at D k).waiting) ∷ []))) (sym count_is)
  held_number (period total) = period_valid ∙ sym (ap count_number count_is ∙ counted)
    where
      counted : count_number (held_count d) ≡ 0
      counted = rw (le-leb 1 (held_count d) v.counted.low, le-leb (held_count d) most_heads v.counted.high)
  held_number (done k) = place_valid k ∙ ap (λ (n : ℕ). index_number n k) (sym count_is)

  -- ---- where the number is 0
  made_head : (k : ℕ) → Placed d k → k < held_heads d
  made_head k p = omega (arith, p.inside, p.counted)

  -- a head's share and the common part fit into a word together
  small : (k : ℕ) → Placed d k → held_own d k + held_common d < 2 ^ 16
  unfolding device_of head_of
  small k p =
      let h = made_head k p in
      let own = ap (λ (x : Head). x.own) (head_held d k h) in
      omega (arith, own, own_left solver D k (rw (count_held d) h), left_small)

  held_answer_lem : (c : Call) → number_on d c ≡ 0 → answer_on d c ≡ value.call_answer solver D c
  unfolding number_on answer_on ask_answer commit_answer value.call_answer solver device_of head_of
  held_answer_lem (make image n) e = refl
  held_answer_lem (new_image image) e = refl
  held_answer_lem (ask k state target room) e = ap (λ (x : Head). solve_answer (held_image d) state target x.start) (sym (head_held d k (made_head k (askable d k state target room e).placed)))
  held_answer_lem (commit k room) e =
      let c = committable d k room e in
      ap (λ (t : Bool). first_commands (held_image d) (answer_of (cond t none (some (held_answer d k))))) (sym c.waiting)
      ∙ ap (λ (x : Head). first_commands (held_image d) (answer_of x.waiting)) (sym (head_held d k (made_head k c.placed)))
  held_answer_lem (period total) e = refl
  held_answer_lem (done k) e = refl

  held_ask : (k : ℕ) (state target : List ℕ) (room : ℕ) → ask_number d k state target room ≡ 0 → device_of (ask_drive d k state target) ≡ value.call_next solver D (ask k state target room)
  unfolding ask_answer value.call_next solver device_of head_of
  held_ask k state target room e =
      let a = askable d k state target room e in
      let h = made_head k a.placed in
      let after : Head → Device = λ x. record { image = held_image d; heads = set D.heads k (record { start = x.start; waiting = some (solve_answer (held_image d) state target x.start); own = x.own - held_sweeps d }); common = held_common d - (held_sweeps d - x.own) } in
      replaced_held d (ask_drive d k state target) k _ _ (ask_replaces d k state target room a (omega (arith, small k a.placed))) h ∙ ap after (sym (head_held d k h))

  held_commit : (k room : ℕ) → commit_number d k room ≡ 0 → device_of (commit_drive d k) ≡ value.call_next solver D (commit k room)
  unfolding value.call_next solver device_of head_of
  held_commit k room e =
      let c = committable d k room e in
      let h = made_head k c.placed in
      let after : Head → Device = λ x. record { image = held_image d; heads = set D.heads k (record { start = next_start (held_image d) (answer_of x.waiting); waiting = none; own = x.own }); common = held_common d } in
      let waiting : Bool → Head = λ t. record { start = held_start d k; waiting = cond t none (some (held_answer d k)); own = held_own d k } in
      replaced_held d (commit_drive d k) k _ _ (commit_replaces d k c.placed c.parts) h ∙ ap (λ (t : Bool). after (waiting t)) (sym c.waiting) ∙ ap after (sym (head_held d k h))

  held_done : (k : ℕ) → place_number d k ≡ 0 → device_of (done_drive d k) ≡ value.call_next solver D (done k)
  unfolding value.call_next device_of head_of
  held_done k e =
      let p = placed d k e in
      let h = made_head k p in
      let after : Head → Device = λ x. record { image = held_image d; heads = set D.heads k (record { start = x.start; waiting = x.waiting; own = 0 }); common = held_common d + x.own } in
      replaced_held d (done_drive d k) k _ _ (done_replaces d k p few (omega (arith, small k p))) h ∙ ap after (sym (head_held d k h))

  held_new : (image : List ℕ) → new_number d image ≡ 0 → device_of (imaged d image) ≡ value.call_next solver D (new_image image)
  unfolding value.call_next solver device_of head_of
  held_new image e =
      let r = renewable d image e in
      renewed_held (imaged d image) image (held_count d) (held_common d) _ (image_renews d image r.size r.accepted) v.counted.high
      ∙ (λ t. record { image = image; heads = (tab_cong _ _ (held_count d) (λ k h. restart r k (rw all_held h)) ∙ ap (tab _) (sym all_held) ∙ sym (tab_map (value.restarted solver image) (head_of d) (held_heads d))) t; common = held_common d })
    where
      restart : Renewable d image → (k : ℕ) → k < held_heads d → record { start = zero_start image; waiting = none; own = held_own d k } ≡ value.restarted solver image (head_of d k)
      restart r k h = rw (r.idle k h)

  held_period : (total : ℕ) → period_number d ≡ 0 → device_of (period_drive d (unsigned16 total)) ≡ value.call_next solver D (period total)
  unfolding value.call_next device_of
  held_period total e =
      let s = unsigned16 total in
      let share : ℕ → Head → Head = λ n. value.owning (s / n) in
      renewed_held (period_drive d s) (held_image d) (held_count d) (s % held_count d) _ (period_renews d s (periodic d e) few (mod-lt total (lit≤ tt))) v.counted.high
      ∙ (λ t. record { image = held_image d; heads = heads share t; common = ap (λ (n : ℕ). s % n) (sym count_is) t })
    where
      heads : (share : ℕ → Head → Head) → tab (λ (k : ℕ). share (held_count d) (head_of d k)) (held_count d) ≡ map (share (head_count D)) (tab (head_of d) (held_heads d))
      heads share = ap₂ (λ (m n : ℕ). tab (λ (k : ℕ). share m (head_of d k)) n) (sym count_is) (sym all_held) ∙ sym (tab_map (share (head_count D)) (head_of d) (held_heads d))

  held_next : (c : Call) → number_on d c ≡ 0 → device_of (drive_on d c) ≡ value.call_next solver D c
  unfolding number_on drive_on value.call_next
  held_next (make image n) e = let m = makeable image n (length d) e in new_held image n m.low m.high m.accepted
  held_next (new_image image) e = held_new image e
  held_next (ask k state target room) e = held_ask k state target room e
  held_next (commit k room) e = held_commit k room e
  held_next (period total) e = held_period total e
  held_next (done k) e = held_done k e

  -- ---- and a valid drive is left
  valid_one : (e : List ℕ) (k : ℕ) (x : Head) (common : ℕ) → Replaced d e k x common → AcceptedStart (held_image d) x.start → left_of (device_of e) < 2 ^ 16 → Valid e
  unfolding head_of
  valid_one e k x common r here left = record {
    counted = record { size = r.size; low = rw r.count_is v.counted.low; high = rw r.count_is v.counted.high };
    image = ap image_number r.image ∙ v.image;
    starts = λ j h. subst (λ (i : List ℕ). AcceptedStart i (held_start e j)) (sym r.image) (by j (rw r.count_is at h) (eqb j k) refl);
    sweeps = rw (← left_held e) left;
  }
    where
      by : (j : ℕ) → j < held_count d → (t : Bool) → eqb j k ≡ t → AcceptedStart (held_image d) (held_start e j)
      by j h true q = rw (eqb-true j k q) (subst (AcceptedStart (held_image d)) (ap (λ (y : Head). y.start) (sym r.here)) here)
      by j h false q = subst (AcceptedStart (held_image d)) (ap (λ (y : Head). y.start) (sym (r.others j (omega (arith, v.counted.high)) (eqb-false j k q)))) (v.starts j h)

  valid_next : (c : Call) → number_on d c ≡ 0 → left_of (device_of (drive_on d c)) < 2 ^ 16 → Valid (drive_on d c)
  unfolding number_on drive_on head_of
  valid_next (make image n) e l = let m = makeable image n (length d) e in new_valid image n m.low m.high m.accepted
  valid_next (new_image image) e l =
      let r = renewable d image e in
      valid_all (imaged d image) image (held_count d) (held_common d) _ (image_renews d image r.size r.accepted) v.counted.low v.counted.high r.accepted (λ k _. zeros_accepted image r.accepted) l
  valid_next (ask k state target room) e l =
      let a = askable d k state target room e in
      valid_one (ask_drive d k state target) k _ _ (ask_replaces d k state target room a (omega (arith, small k a.placed))) (v.starts k a.placed.counted) l
  valid_next (commit k room) e l =
      let c = committable d k room e in
      valid_one (commit_drive d k) k _ _ (commit_replaces d k c.placed c.parts) (next_accepted (held_image d) (held_answer d k) v.image) l
  valid_next (period total) e l =
      let s = unsigned16 total in
      valid_all (period_drive d s) (held_image d) (held_count d) (s % held_count d) _ (period_renews d s (periodic d e) few (mod-lt total (lit≤ tt))) v.counted.low v.counted.high v.image v.starts l
  valid_next (done k) e l =
      let p = placed d k e in
      valid_one (done_drive d k) k _ _ (done_replaces d k p few (omega (arith, small k p))) (v.starts k p.counted) l

  -- ---- the whole outcome
  pub held_step : (c : Call) → HeldStep d c
  unfolding value.step after_call written_by
  held_step c = rw (← (held_number c)) (by (eqb (number_on d c) 0) refl)
    where
      outcome : List ℕ → Device → Outcome
      outcome a x = record { number = number_on d c; answer = a; next = x }

      by : (t : Bool) → eqb (number_on d c) 0 ≡ t → outcome (cond t (value.call_answer solver D c) []) (cond t (value.call_next solver D c) D) ≡ outcome (cond t (answer_on d c) []) (device_of (cond t (drive_on d c) d))
      by true q = let e = eqb-true (number_on d c) 0 q in ap₂ outcome (sym (held_answer_lem c e)) (sym (held_next c e))
      by false q = refl

  pub valid_after : (c : Call) → Valid (after_call d c)
  unfolding after_call
  valid_after c = by (eqb (number_on d c) 0) refl
    where
      by : (t : Bool) → eqb (number_on d c) 0 ≡ t → Valid (cond t (drive_on d c) d)
      by true q = let e = eqb-true (number_on d c) 0 q in valid_next c e (rw (held_next c e) (left_next solver D c (rw (held_number c) at e) left_small))
      by false q = v
