-- Requests 10 and 11 of the bytes of a drive: the heads do not disturb one another. Assumes nothing.
use mathlib.Core.Bool.{Bool, true, false, cond, true≢false}
use mathlib.Core.Path.{◌≡◌, refl, sym, ap, subst₂, ◌∙◌}
use mathlib.Core.List.{List, []}
use mathlib.Core.Option.{none, some}
use Prim.Native.Nat.{ℕ, ◌<◌, ◌≤◌, min}
use native.Mathlib.Omega.{arith}
use lib.Dec.{eqb, ltb}
use lib.ListN.{get_or-eq_default}
use borrow.Author.Tests.{ltb-true, ltb-false, eq-eqb, eqb-true}
use Rattle.interface.specs.Tables.{image_number}
use Rattle.device.specs.Device.{Head, most_heads, absent, head_at, waits}
use Rattle.device.specs.Call.{Call}
use Rattle.device.specs.Run as value
use Rattle.device.specs.Run.{Event}
use Rattle.device.specs.Apart.{only, calls_of, no_new_image, stays, Same, Quiet, Alone}
use Rattle.device.proofs.Apart as value-apart
use Rattle.drive.specs.Layout.{held_waiting, held_answer, held_count, held_heads}
use Rattle.drive.specs.Calls.{make_drive}
use Rattle.drive.specs.Held.{head_of, device_of, solver}
use Rattle.drive.specs.Run.{after_run, log_of, Valid, drive_now}
use Rattle.drive.specs.Apart.{concerning, SameHead, QuietBeside, RunAlone, RunsApart, StaysWithin}
use Rattle.drive.proofs.AllHeads.{make_renews}
use Rattle.drive.proofs.Step.{count_held, head_held, all_held, new_valid}
use Rattle.drive.proofs.Run.{valid_run, held_run, held_log, by_log_held}

none_waits : (n : ℕ) (a : List ℕ) → cond (eqb n 0) none (some a) ≡ none → n ≡ 0
none_waits n a e = by (eqb n 0) refl e
  where
    by : (t : Bool) → eqb n 0 ≡ t → cond t none (some a) ≡ none → n ≡ 0
    by true q e = eqb-true n 0 q
    by false q e = absurd (true≢false (ap waits e))

heads_made : (d : List ℕ) (j : ℕ) → j < held_heads d → j < held_count d
heads_made d j h = omega arith

module _ (k : ℕ) where
  -- a head that is not made
  absent_held : (d : List ℕ) (j : ℕ) → held_heads d ≤ j → head_at (device_of d) j ≡ absent
  absent_held d j l = get_or-eq_default (device_of d).heads absent (rw (count_held d) l)

  -- bytes that are the same to head k hold drives that are, and the other way round
  to_value : (d e : List ℕ) → SameHead k d e → Same k (device_of d) (device_of e)
  unfolding device_of
  to_value d e s = record { image = s.image; count_is = count_held d ∙ heads ∙ sym (count_held e); head = by (ltb k (held_heads d)) refl }
    where
      heads : held_heads d ≡ held_heads e
      heads = ap (λ (n : ℕ). min n most_heads) s.count_is

      by : (t : Bool) → ltb k (held_heads d) ≡ t → head_at (device_of d) k ≡ head_at (device_of e) k
      by true q = let h = ltb-true k (held_heads d) q in head_held d k h ∙ s.head h ∙ sym (head_held e k (rw (← heads) h))
      by false q = let l = ltb-false k (held_heads d) q in absent_held d k l ∙ sym (absent_held e k (rw (← heads) l))

  to_bytes : (d e : List ℕ) → Valid d → Valid e → Same k (device_of d) (device_of e) → SameHead k d e
  unfolding device_of
  to_bytes d e v w s = record { image = s.image; count_is = sym (all_held d v) ∙ heads ∙ all_held e w; head = λ h. sym (head_held d k h) ∙ s.head ∙ head_held e k (rw (← heads) h) }
    where
      heads : held_heads d ≡ held_heads e
      heads = sym (count_held d) ∙ s.count_is ∙ count_held e

  -- no other answer waits, nor that of a head that is not made
  quiet_value : (d : List ℕ) → QuietBeside k d → Quiet k (device_of d)
  unfolding head_of
  quiet_value d q j n = by (ltb j (held_heads d)) refl
    where
      by : (t : Bool) → ltb j (held_heads d) ≡ t → (head_at (device_of d) j).waiting ≡ none
      by true l =
          let b = ltb-true j (held_heads d) l in
          ap (λ (x : Head). x.waiting) (head_held d j b) ∙ rw (eq-eqb (held_waiting d j) 0 (q j b n))
      by false l = ap (λ (x : Head). x.waiting) (absent_held d j (ltb-false j (held_heads d) l))

  module _ (d e : List ℕ) (v : Valid d) (w : Valid e) where
    -- what is said of the drives that they hold
    alone_bytes : (cs : List Call) → Alone solver k (device_of d) (device_of e) cs → RunAlone k d e cs
    alone_bytes cs a =
        let same = ap (λ (l : List Event). calls_of (only k l)) (held_log d v cs) in
        let others = concerning k d cs in
        record {
          outcomes = sym (ap (only k) (held_log d v cs)) ∙ a.outcomes ∙ ap (value.log solver (device_of e)) same ∙ held_log e w others;
          left = to_bytes (after_run d cs) (after_run e others) (valid_run d v cs) (valid_run e w others) (subst₂ (Same k) (held_run d v cs) (ap (value.after solver (device_of e)) same ∙ held_run e w others) a.left);
        }

    -- the calls that concern head k have in a run the numbers and bytes that they have in the run of these calls alone, from any drive in
    -- which no other answer waits
    pub run_alone : SameHead k d e → QuietBeside k e → (cs : List Call) → stays solver k (device_of e) (log_of e (concerning k d cs)) ≡ true → RunAlone k d e cs
    run_alone s q cs y = alone_bytes cs (value-apart.alone solver k (device_of d) (device_of e) (to_value d e s) (quiet_value e q) cs (rw (held_log d v cs, held_log e w (concerning k d cs)) y))

    -- and so in any two runs that agree on them
    pub runs_apart : SameHead k d e → (cs others : List Call) → concerning k d cs ≡ concerning k e others → stays solver k (device_of d) (log_of d cs) ≡ true → RunsApart k d e cs others
    runs_apart s cs others q y =
        let a = value-apart.apart solver k (device_of d) (device_of e) (to_value d e s) cs others (rw (held_log d v cs, held_log e w others) q) (rw (held_log d v cs) y) in
        record {
          outcomes = sym (ap (only k) (held_log d v cs)) ∙ a.outcomes ∙ ap (only k) (held_log e w others);
          left = to_bytes (after_run d cs) (after_run e others) (valid_run d v cs) (valid_run e w others) (subst₂ (Same k) (held_run d v cs) (held_run e w others) a.left);
        }

  -- ---- from a new drive, and from any moment of a run
  module _ (image : List ℕ) (n : ℕ) (low : 1 ≤ n) (high : n ≤ most_heads) (ok : image_number image ≡ 0) where
    abbrev fresh : List ℕ
    fresh = make_drive image n

    new : Valid fresh
    new = new_valid image n low high ok

    new_quiet : QuietBeside k fresh
    unfolding head_of
    new_quiet j b _ = none_waits (held_waiting fresh j) (held_answer fresh j) (ap (λ (x : Head). x.waiting) ((make_renews image n high ok).heads j (omega arith) (rw (make_renews image n high ok).count_is at (heads_made fresh j b))))

    here : (d : List ℕ) → SameHead k d d
    here d = record { image = refl; count_is = refl; head = λ _. refl }

    -- the proviso counts from the calls what the bytes hold
    held_stays : (earlier cs : List Call) → StaysWithin k image n earlier cs → stays solver k (device_of (drive_now image n earlier)) (log_of (drive_now image n earlier) cs) ≡ true
    held_stays earlier cs y = rw (by_log_held image n low high ok earlier) y

    pub alone : (cs : List Call) → StaysWithin k image n [] (concerning k fresh cs) → RunAlone k fresh fresh cs
    alone cs y = run_alone fresh fresh new new (here fresh) new_quiet cs (held_stays [] (concerning k fresh cs) y)

    module _ (earlier : List Call) where
      abbrev d : List ℕ
      d = drive_now image n earlier

      v : Valid d
      v = valid_run fresh new earlier

      -- "between accepted new images", whoever's answer waits
      pub between : (cs : List Call) → no_new_image (concerning k d cs) ≡ true → StaysWithin k image n earlier (concerning k d cs) → RunAlone k d d cs
      between cs m y =
          alone_bytes d d v v cs
          (value-apart.between solver k (device_of d) cs (rw (held_log d v cs) m) (rw (held_log d v cs, held_log d v (concerning k d cs)) (held_stays earlier (concerning k d cs) y)))

      pub apart : (cs others : List Call) → concerning k d cs ≡ concerning k d others → StaysWithin k image n earlier cs → RunsApart k d d cs others
      apart cs others q y = runs_apart d d v v (here d) cs others q (held_stays earlier cs y)
