-- Requests 9 to 11 of the bytes of a drive, over any run of calls from a new one that only they write. Assumes nothing.
use mathlib.Core.Bool.{Bool, true, false, cond, not, true≢false, not-not}
use mathlib.Core.Path.{◌≡◌, refl, sym, ap, ap₂, subst, ◌∙◌}
use mathlib.Core.List.{List, [], ◌∷◌}
use mathlib.Core.Option.{none, some}
use Prim.Native.Nat.{ℕ, ◌+◌, ◌-◌, ◌/◌, ◌^◌, ◌<◌, ◌≤◌}
use native.Mathlib.Nat.{mod-eq_of_lt}
use native.Mathlib.Omega.{arith}
use lib.Dec.{eqb, leb, ltb}
use lib.ListN.{length}
use borrow.Author.Tests.{eq-eqb, ne_eqb, le-ltb, le-leb}
use Rattle.gradient.specs.Index.{all_to}
use Rattle.gradient.proofs.Index.{tab_length, tab_at}
use Rattle.gradient.proofs.Tests.{all_cong}
use Rattle.image.specs.declared.Input.TheVariants.{State, Target}
use Rattle.image.specs.Order.{check, first_fault, or_else, buffer_number}
use Rattle.image.specs.Layout.{sizes_of}
use Rattle.image.proofs.Ordering as ordering
use Rattle.interface.specs.Tables.{image_number}
use Rattle.interface.specs.Calls.{input_passes, answer_length, call_number, solvable_number, solve_number, solve_answer}
use Rattle.device.specs.Device.{Head, Device, most_heads, head_count, absent, head_at, waits, answer_of}
use Rattle.device.specs.Call.{Call, make, new_image, ask, commit, period, done, Outcome, is_count, index_number, unsigned16, step}
use Rattle.device.specs.Run as value
use Rattle.device.specs.Run.{Event}
use Rattle.device.specs.Log.{brought_by, image_now, count_now, waiting_now, start_now, own_now, common_now, head_now, device_now, all_keep_start}
use Rattle.device.specs.Period.{total_now, running_now, granted_now, left_of, Balanced, granted_to, all_leave_share}
use Rattle.device.proofs.Runs.{by_log, logged_head, kept_start}
use Rattle.device.proofs.Period as value-period
use Rattle.device.proofs.Period.{new_left, balanced, count_left}
use Rattle.drive.specs.Layout.{drive_length, held_image, held_start, held_answer, held_count, held_heads, held_own, held_common}
use Rattle.drive.specs.Move.{next_start, first_length, first_commands}
use Rattle.drive.specs.Calls.{make_number, make_drive, idle_at, place_number, ask_number, ask_answer, parts_number, commit_number, commit_answer, commit_drive, period_drive}
use Rattle.drive.specs.Held.{head_of, device_of, zero_start, solver}
use Rattle.drive.specs.Run.{number_on, drive_on, after_call, written_by, after_run, log_of, NoSuchHead, Valid, new_device, drive_now, log_now, EveryRun, OwnShareServes, PeriodHolds, ShareSpent, ZerosUntilCommit, ZerosFromImage, LastCommit}
use Rattle.drive.proofs.Accept.{makeable, renewable, Committable, committable}
use Rattle.drive.proofs.Held.{committed_start, commit_replaces}
use Rattle.drive.proofs.AllHeads.{make_renews, image_renews}
use Rattle.drive.proofs.Step.{by_index, first_index, count_held, head_held, waits_held, left_held, all_held, new_held, new_valid, place_valid, parts_valid, make_valid, new_image_valid, period_valid, held_step, valid_after}

-- 13 and 16, then 15, then 20
in_order : (p q : Bool) (r : ℕ) → or_else (cond p (cond q 0 16) 13) r ≡ cond p (cond q r 16) 13
in_order true true r = refl
in_order true false r = refl
in_order false q r = refl

then_last : (p q r s : Bool) → or_else (cond p (cond q (cond r 0 15) 16) 13) (cond s 0 20) ≡ cond p (cond q (cond r (cond s 0 20) 15) 16) 13
then_last true true true s = refl
then_last true true false s = refl
then_last true false r s = refl
then_last false q r s = refl

-- the waiting answer, where one waits
the_answer : (t : Bool) (a b : List ℕ) → cond t none (some a) ≡ some b → a ≡ b
the_answer true a b e = absurd (true≢false (sym (ap waits e)))
the_answer false a b e = ap answer_of e

-- ---- from any valid drive
pub valid_run : (d : List ℕ) → Valid d → (cs : List Call) → Valid (after_run d cs)
valid_run d v [] = v
valid_run d v (c ∷ cs) = valid_after (after_run d cs) (valid_run d v cs) c

module _ (d : List ℕ) (v : Valid d) where
  -- the bytes hold what the run leaves of the drive that they held
  pub held_run : (cs : List Call) → value.after solver (device_of d) cs ≡ device_of (after_run d cs)
  held_run [] = refl
  held_run (c ∷ cs) = ap (λ (x : Device). (step solver x c).next) (held_run cs) ∙ ap (λ (o : Outcome). o.next) (held_step (after_run d cs) (valid_run d v cs) c)

  -- and the caller sees the same
  pub held_log : (cs : List Call) → value.log solver (device_of d) cs ≡ log_of d cs
  held_log [] = refl
  held_log (c ∷ cs) =
      ap₂ {C = List Event} (λ (o : Outcome) (l : List Event). value.event_of c o ∷ l)
      (ap (λ (x : Device). step solver x c) (held_run cs) ∙ held_step (after_run d cs) (valid_run d v cs) c)
      (held_log cs)

  -- calls that leave the start of head k
  kept_held : (k : ℕ) → k < held_count d → (cs : List Call) → all_keep_start k (log_of d cs) ≡ true → held_start (after_run d cs) k ≡ held_start d k
  unfolding head_of
  kept_held k h cs q =
      let e = after_run d cs in
      let kept = kept_start solver k (device_of d) cs (rw (held_log cs) q) in
      let number = sym (count_held e) ∙ ap head_count (sym (held_run cs)) ∙ kept.count_is ∙ count_held d ∙ all_held d v in
      let before = ap (λ (x : Head). x.start) (head_held d k (rw (all_held d v) h)) in
      let after = ap (λ (x : Device). (head_at x k).start) (held_run cs) ∙ ap (λ (x : Head). x.start) (head_held e k (rw number h)) in
      sym after ∙ kept.start ∙ before

-- an S of 16 bits is what the call promises it to be
pub period_call : (d : List ℕ) (total : ℕ) → total < 2 ^ 16 → drive_on d (period total) ≡ period_drive d total
unfolding drive_on
period_call d total h = ap (period_drive d) (mod-eq_of_lt h)

-- "a refused call leaves the drive untouched", and writes nothing: of every byte string
pub refused_call : (d : List ℕ) (c : Call) → (number_on d c ≡ 0 → ⊥) → (after_call d c ≡ d) × (written_by d c ≡ [])
unfolding after_call written_by
refused_call d c h = (rw (ne_eqb (number_on d c) 0 h), rw (ne_eqb (number_on d c) 0 h))

-- "a head count outside 1 to 4" is 3 before all else: of every image and every length
pub bad_count : (image : List ℕ) (n room : ℕ) → is_count n ≡ false → make_number image n room ≡ 3
unfolding make_number
bad_count image n room e = rw e

-- a head that no drive has is 3 "before all else": of every byte string
pub no_such_head : (d : List ℕ) (k : ℕ) → most_heads ≤ k → NoSuchHead d k
unfolding place_number parts_number ask_number commit_number
no_such_head d k h = record { ask_number_lem = λ state target room. rw (le-ltb k most_heads h); commit_number_lem = λ room. rw (le-ltb k most_heads h); done_number = rw (le-ltb k most_heads h) }

-- "or a head number not below it, is 3": by the drive's own count, of every byte string of the right length
placed_nowhere : (d : List ℕ) (k : ℕ) → length d ≡ drive_length → held_count d ≤ k → place_number d k ≡ 3
unfolding place_number
placed_nowhere d k size h = rw (← ordering.buffer_fits drive_length (length d) size, le-ltb k (held_count d) h) (by (ltb k most_heads))
  where
    by : (t : Bool) → or_else (cond t 0 3) 3 ≡ 3
    by true = refl
    by false = refl

pub not_made : (d : List ℕ) (k : ℕ) → length d ≡ drive_length → held_count d ≤ k → NoSuchHead d k
unfolding parts_number ask_number commit_number
not_made d k size h = record { ask_number_lem = λ state target room. rw place; commit_number_lem = λ room. rw place; done_number = place }
  where
    place : place_number d k ≡ 3
    place = placed_nowhere d k size h

-- ---- from a new one
module _ (image : List ℕ) (n : ℕ) (low : 1 ≤ n) (high : n ≤ most_heads) (e : image_number image ≡ 0) where
  abbrev new : List ℕ
  new = make_drive image n

  abbrev start : Device
  start = new_device image n

  new_is_valid : Valid new
  new_is_valid = new_valid image n low high e

  abbrev logs : List Call → List Event
  logs cs = log_now image n cs

  new_is_held : device_of new ≡ start
  new_is_held = new_held image n low high e

  run_held : (cs : List Call) → device_of (drive_now image n cs) ≡ value.after solver start cs
  run_held cs = sym (ap (λ (x : Device). value.after solver x cs) (sym new_is_held) ∙ held_run new new_is_valid cs)

  log_held : (cs : List Call) → value.log solver start cs ≡ logs cs
  log_held cs = ap (λ (x : Device). value.log solver x cs) (sym new_is_held) ∙ held_log new new_is_valid cs

  -- it holds what the log tells
  pub by_log_held : (cs : List Call) → device_of (drive_now image n cs) ≡ device_now solver start (logs cs)
  by_log_held cs = run_held cs ∙ by_log solver start cs ∙ ap (device_now solver start) (log_held cs)

  pub period_holds : (cs : List Call) → PeriodHolds image n cs
  period_holds cs =
      let left = sym (ap left_of (run_held cs)) ∙ left_held (drive_now image n cs) in
      subst (λ (x : ℕ). Balanced x (granted_now solver start (logs cs)) (total_now (logs cs)) (running_now (logs cs))) left
      (subst (λ (l : List Event). Balanced (left_of (value.after solver start cs)) (granted_now solver start l) (total_now l) (running_now l)) (log_held cs) (balanced solver start (new_left solver image n) cs))

  module _ (cs : List Call) where
    abbrev d : List ℕ
    d = drive_now image n cs

    abbrev l : List Event
    l = logs cs

    valid : Valid d
    valid = valid_run new new_is_valid cs

    image_by_log : held_image d ≡ image_now start l
    unfolding device_of
    image_by_log = ap (λ (x : Device). x.image) (by_log_held cs)

    common_by_log : held_common d ≡ common_now solver start l
    unfolding device_of
    common_by_log = ap (λ (x : Device). x.common) (by_log_held cs)

    count_by_log : held_count d ≡ count_now start l
    count_by_log = sym (count_held d ∙ all_held d valid) ∙ ap head_count (by_log_held cs) ∙ tab_length (head_now solver start l) (count_now start l)

    -- each head made
    module _ (k : ℕ) (h : k < count_now start l) where
      head_by_log : head_of d k ≡ head_now solver start l k
      head_by_log =
          sym (head_held d k (rw (all_held d valid, count_by_log) h)) ∙ ap (λ (x : Device). head_at x k) (by_log_held cs) ∙ tab_at (head_now solver start l) (count_now start l) k absent h

      start_by_log : held_start d k ≡ start_now solver start k l
      unfolding head_of
      start_by_log = ap (λ (x : Head). x.start) head_by_log

      own_by_log : held_own d k ≡ own_now solver start k l
      unfolding head_of
      own_by_log = ap (λ (x : Head). x.own) head_by_log

      waiting_by_log : cond (idle_at d k) none (some (held_answer d k)) ≡ waiting_now start k l
      unfolding head_of
      waiting_by_log = ap (λ (x : Head). x.waiting) head_by_log

    place_by_log : (k : ℕ) → place_number d k ≡ index_number (count_now start l) k
    place_by_log k = place_valid d valid k ∙ ap (λ (m : ℕ). index_number m k) count_by_log

    -- 14 cannot happen, nor a number of the image
    abbrev asked_checks : Bool → List ℕ → List ℕ → List ℕ → ℕ → ℕ
    asked_checks t i state target room =
        first_fault
        (check 13 (input_passes State (sizes_of i) i state)
        ∷ check 16 (input_passes Target (sizes_of i) i target)
        ∷ check 15 (eqb room (answer_length (sizes_of i)))
        ∷ check 20 t
        ∷ [])

    solved : (k : ℕ) (state target : List ℕ) (room : ℕ) (t : Bool) → k < held_count d → or_else (solve_number (held_image d) state target (held_start d k) room) (cond t 0 20) ≡ asked_checks t (held_image d) state target room
    unfolding solve_number solvable_number call_number
    solved k state target room t h =
        let i = held_image d in
        let s = valid.starts k h in
        let p = input_passes State (sizes_of i) i state in
        let q = input_passes Target (sizes_of i) i target in
        rw (valid.image, eq-eqb _ _ s.size, s.within) (ap (λ (m : ℕ). or_else m (cond t 0 20)) (in_order p q (buffer_number (answer_length (sizes_of i)) room)) ∙ then_last p q (eqb room (answer_length (sizes_of i))) t)

    -- 20, of what bytes hold or a log tells
    abbrev affords : List ℕ → ℕ → ℕ → Bool
    affords i own common = leb (sizes_of i).sweeps (own + common)

    abbrev affords_now : ℕ → Bool
    affords_now k = affords (image_now start l) (own_now solver start k l) (common_now solver start l)

    ask_checks_lem : (k : ℕ) (state target : List ℕ) (room : ℕ) → ask_number d k state target room ≡ cond (ltb k (count_now start l)) (asked_checks (affords_now k) (image_now start l) state target room) 3
    unfolding ask_number
    ask_checks_lem k state target room =
        ap (λ (m : ℕ). or_else m behind) (place_by_log k)
        ∙ by_index (count_now start l) k behind (asked_checks (affords_now k) (image_now start l) state target room) by_log_behind
        ∙ first_index (count_now start l) k (asked_checks (affords_now k) (image_now start l) state target room)
      where
        behind : ℕ
        behind = or_else (solve_number (held_image d) state target (held_start d k) room) (cond (affords (held_image d) (held_own d k) (held_common d)) 0 20)

        by_log_behind : k < count_now start l → behind ≡ asked_checks (affords_now k) (image_now start l) state target room
        by_log_behind h =
            solved k state target room (affords (held_image d) (held_own d k) (held_common d)) (rw count_by_log h)
            ∙ ap₂ (λ (i : List ℕ) (c : ℕ). asked_checks (affords i (held_own d k) c) i state target room) image_by_log common_by_log
            ∙ ap (λ (o : ℕ). asked_checks (affords (image_now start l) o (common_now solver start l)) (image_now start l) state target room) (own_by_log k h)

    -- 18, of a head of the drive and of a number that none has
    commit_checks : (k room : ℕ) → commit_number d k room ≡ cond (ltb k (count_now start l)) (first_fault (check 15 (eqb room (first_length (held_image d))) ∷ check 18 (waits (waiting_now start k l)) ∷ [])) 3
    unfolding commit_number head_of
    commit_checks k room =
        ap (λ (m : ℕ). or_else m (checks (not (idle_at d k)))) (parts_valid d valid k ∙ ap (λ (m : ℕ). index_number m k) count_by_log)
        ∙ by_index (count_now start l) k (checks (not (idle_at d k))) (checks (waits (waiting_now start k l))) (λ h. ap checks (sym (waits_held d k) ∙ ap waits (waiting_by_log k h)))
        ∙ first_index (count_now start l) k (checks (waits (waiting_now start k l)))
      where
        checks : Bool → ℕ
        checks t = first_fault (check 15 (eqb room (first_length (held_image d))) ∷ check 18 t ∷ [])

    -- 19
    idle_by_log : all_to (idle_at d) (held_count d) ≡ all_to (λ (k : ℕ). not (waits (waiting_now start k l))) (count_now start l)
    unfolding head_of
    idle_by_log =
        ap (all_to (idle_at d)) count_by_log
        ∙ all_cong (idle_at d) (λ (k : ℕ). not (waits (waiting_now start k l))) (count_now start l) (λ k h. sym (not-not (idle_at d k)) ∙ ap not (sym (waits_held d k) ∙ ap waits (waiting_by_log k h)))

    pub every_run : EveryRun image n cs
    unfolding ask_answer commit_answer first_commands
    every_run = record {
      held_count_lem = count_by_log;
      held_start_lem = start_by_log;
      held_own_lem = own_by_log;
      held_common_lem = common_by_log;
      make_number_lem = make_valid d valid;
      new_number_lem = λ other. new_image_valid d valid other ∙ ap (λ (t : Bool). or_else (image_number other) (cond {A = ℕ} t 0 19)) idle_by_log;
      ask_number_lem = ask_checks_lem;
      ask_answer_lem = λ k state target h. ap₂ (λ (i s : List ℕ). solve_answer i state target s) image_by_log (start_by_log k h);
      commit_number_lem = λ k room. rw (← image_by_log) (commit_checks k room);
      commit_answer_lem = λ k answer h w. ap₂ (λ (i a : List ℕ). first_commands i a) image_by_log (the_answer (idle_at d k) (held_answer d k) answer (waiting_by_log k h ∙ w));
      period_number_lem = period_valid d valid;
      done_number = place_by_log;
    }

    pub own_share_serves : (k : ℕ) → OwnShareServes image n cs k
    own_share_serves k h state target room =
        let i = image_now start l in
        let enough = le-leb (sizes_of i).sweeps (own_now solver start k l + common_now solver start l) (omega arith) in
        ask_checks_lem k state target room ∙ ap (λ (t : Bool). cond (ltb k (count_now start l)) (asked_checks t i state target room) 3) enough

    pub zeros_until_commit : (k : ℕ) → k < n → ZerosUntilCommit image n k cs
    unfolding head_of
    zeros_until_commit k h q =
        let r = make_renews image n high e in
        kept_held new new_is_valid k (rw r.count_is h) cs q ∙ ap (λ (x : Head). x.start) (r.heads k (omega arith) h)

  -- ---- behind a period
  module _ (earlier : List Call) (total : ℕ) where
    abbrev begun : List ℕ
    begun = drive_now image n (period total ∷ earlier)

    abbrev begun_log : List Event
    begun_log = logs (period total ∷ earlier)

    abbrev begun_device : Device
    begun_device = device_now solver start begun_log

    begun_accepted : eqb (number_on (drive_now image n earlier) (period total)) 0 ≡ true
    unfolding number_on
    begun_accepted = eq-eqb _ 0 (period_valid (drive_now image n earlier) (valid earlier))

    begun_count : head_count begun_device ≡ count_now start (logs earlier)
    unfolding count_now
    begun_count = tab_length (head_now solver start begun_log) (count_now start begun_log) ∙ rw begun_accepted

    begun_own : (k : ℕ) → k < head_count begun_device → (head_at begun_device k).own ≡ unsigned16 total / count_now start (logs earlier)
    unfolding own_now
    begun_own k h = ap (λ (x : Head). x.own) (tab_at (head_now solver start begun_log) (count_now start begun_log) k absent (rw (tab_length (head_now solver start begun_log) (count_now start begun_log)) at h)) ∙ rw begun_accepted

    module _ (later : List Call) where
      run_is : device_of (after_run begun later) ≡ value.after solver begun_device later
      run_is = sym (held_run begun (valid (period total ∷ earlier)) later) ∙ ap (λ (x : Device). value.after solver x later) (by_log_held (period total ∷ earlier))

      log_is : value.log solver begun_device later ≡ log_of begun later
      log_is = ap (λ (x : Device). value.log solver x later) (sym (by_log_held (period total ∷ earlier))) ∙ held_log begun (valid (period total ∷ earlier)) later

      pub share_spent : (k : ℕ) → ShareSpent image n k earlier total later
      unfolding head_of
      share_spent k h q =
          let l = value.log solver begun_device later in
          let p : all_leave_share k l ≡ true = rw log_is q in
          let b : k < head_count begun_device = rw begun_count h in
          let number = ap head_count (by_log solver begun_device later) ∙ tab_length (head_now solver begun_device l) (count_now begun_device l) ∙ count_left begun_device k l p in
          let made : k < head_count (value.after solver begun_device later) = rw number b in
          let held : k < held_heads (after_run begun later) = rw (← count_held (after_run begun later), run_is) made in
          sym (ap (λ (x : Head). x.own) (head_held (after_run begun later) k held))
          ∙ ap (λ (x : Device). (head_at x k).own) run_is
          ∙ ap (λ (x : Head). x.own) (logged_head solver begun_device later k made)
          ∙ value-period.share_spent solver begun_device k l p
          ∙ ap₂ (λ (a : ℕ) (l : List Event). a - granted_to solver begun_device k l) (begun_own k b) log_is

  -- an accepted make or new image leaves zeros
  image_start : (d : List ℕ) (c : Call) (other : List ℕ) (k : ℕ) → brought_by c ≡ some other → number_on d c ≡ 0 → k < most_heads → k < held_count (drive_on d c) → held_start (drive_on d c) k ≡ zero_start other
  unfolding number_on drive_on head_of
  image_start d (make i m) other k b z u h =
      let a = makeable i m (length d) z in
      let r = make_renews i m a.high a.accepted in
      rw (ap answer_of (sym b)) (ap (λ (x : Head). x.start) (r.heads k u (rw r.count_is at h)))
  image_start d (new_image i) other k b z u h =
      let a = renewable d i z in
      let r = image_renews d i a.size a.accepted in
      rw (ap answer_of (sym b)) (ap (λ (x : Head). x.start) (r.heads k u (rw r.count_is at h)))
  image_start d (ask j state target room) other k b z u h = absurd (true≢false (sym (ap waits b)))
  image_start d (commit j room) other k b z u h = absurd (true≢false (sym (ap waits b)))
  image_start d (period total) other k b z u h = absurd (true≢false (sym (ap waits b)))
  image_start d (done j) other k b z u h = absurd (true≢false (sym (ap waits b)))

  pub zeros_from_image : (k : ℕ) (earlier : List Call) (c : Call) (other : List ℕ) (later : List Call) → ZerosFromImage image n k earlier c other later
  unfolding after_call
  zeros_from_image k earlier c other later b z h q =
      let before = drive_now image n earlier in
      let v = valid (c ∷ earlier) in
      let made : k < held_count (drive_now image n (c ∷ earlier)) = rw (count_by_log (c ∷ earlier)) h in
      kept_held (drive_now image n (c ∷ earlier)) v k made later q
      ∙ rw (eq-eqb (number_on before c) 0 z) (image_start before c other k b z (omega (arith, made, v.counted.high)) (rw (eq-eqb (number_on before c) 0 z) at made))

  pub last_commit : (k : ℕ) (earlier : List Call) (room : ℕ) (later : List Call) → commit_number (drive_now image n earlier) k room ≡ 0
      → all_keep_start k (log_of (drive_now image n (commit k room ∷ earlier)) later) ≡ true → LastCommit image n k earlier room later
  unfolding after_call number_on drive_on
  last_commit k earlier room later z q = record {
    answer = held_answer before k;
    asked = sym (waiting_by_log earlier k (rw (← count_by_log earlier) c.placed.counted)) ∙ ap (λ (t : Bool). cond t none (some (held_answer before k))) c.waiting;
    start = kept_held after (valid (commit k room ∷ earlier)) k still later q ∙ moved ∙ ap (λ (i : List ℕ). next_start i (held_answer before k)) (image_by_log earlier);
  }
    where
      before : List ℕ
      before = drive_now image n earlier

      after : List ℕ
      after = drive_now image n (commit k room ∷ earlier)

      c : Committable before k room
      c = committable before k room z

      is_commit : after ≡ commit_drive before k
      is_commit = rw (eq-eqb (commit_number before k room) 0 z)

      still : k < held_count after
      still = rw (is_commit, (commit_replaces before k c.placed c.parts).count_is) c.placed.counted

      moved : held_start after k ≡ next_start (held_image before) (held_answer before k)
      moved = rw is_commit (committed_start before k c.placed c.parts)
