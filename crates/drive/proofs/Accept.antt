-- What number 0 of each call on a drive's bytes says. Assumes nothing.
use Prim.Native.Nat.{ℕ, ◌+◌, ◌<◌, ◌≤◌}
use mathlib.Core.Bool.{Bool, true, false, cond, not}
use mathlib.Core.List.{List, [], ◌∷◌}
use mathlib.Core.Path.{◌≡◌, refl, sym, ap, ◌∙◌}
use lib.Dec.{eqb, leb, lit<}
use lib.ListN.{length}
use borrow.Author.Tests.{eqb-true, leb-true, not-true}
use Rattle.integer.proofs.Tests.{both}
use Rattle.gradient.specs.Index.{all_to}
use Rattle.gradient.proofs.Tests.{all_at}
use Rattle.image.specs.Order.{check, first_fault, or_else, buffer_number}
use Rattle.image.specs.Layout.{sizes_of}
use Rattle.image.specs.Checks.{head_number, body_number}
use Rattle.image.proofs.Ordering.{passed, none, or_assoc, buffer_length}
use Rattle.interface.specs.Tables.{image_number, tables_number}
use Rattle.interface.specs.Calls.{answer_length, call_number, solvable_number, solve_number}
use Rattle.interface.proofs.Accept.{head_whole}
use Rattle.interface.proofs.Demand.{accepted_solve}
use Rattle.interface.proofs.Dominance.{solvable_dominant}
use Rattle.device.specs.Device.{most_heads}
use Rattle.device.specs.Call.{is_count, count_number, index_number}
use Rattle.device.proofs.Runs.{number_inside, index_inside}
use Rattle.drive.specs.Layout.{drive_length, held_image, held_start, held_count, held_heads, held_own, held_common, held_sweeps}
use Rattle.drive.specs.Move.{first_length}
use Rattle.drive.specs.Calls.{imaged_number, make_number, idle_at, new_number, place_number, ask_number, parts_number, commit_number, period_number}
use Rattle.drive.specs.Parts.{Found, Placed, Counted, Askable}

-- ---- the number of heads
pub is_count_lem : (n : ℕ) → count_number n ≡ 0 → (1 ≤ n) × (n ≤ most_heads)
is_count_lem n e =
    let b = both (leb 1 n) (leb n most_heads) (passed (is_count n) 3 0 (lit< tt) e).0 in
    (leb-true 1 n b.0, leb-true n most_heads b.1)

-- ---- make
pub imageable : (image : List ℕ) (room : ℕ) → imaged_number image room ≡ 0 → (image_number image ≡ 0) × (room ≡ drive_length)
unfolding imaged_number
imageable image room e = let a = none (image_number image) _ e in (a.0, buffer_length drive_length room a.1)

pub record Makeable (image : List ℕ) (n room : ℕ) : Type 0 where
  pub low : 1 ≤ n
  pub high : n ≤ most_heads
  pub accepted : image_number image ≡ 0
  pub size : room ≡ drive_length

pub makeable : (image : List ℕ) (n room : ℕ) → make_number image n room ≡ 0 → Makeable image n room
unfolding make_number
makeable image n room e =
    let a = none (count_number n) _ e in
    let c = is_count_lem n a.0 in
    let b = imageable image room a.1 in
    record { low = c.0; high = c.1; accepted = b.0; size = b.1 }

-- ---- new image
pub record Renewable (d image : List ℕ) : Type 0 where
  pub accepted : image_number image ≡ 0
  pub size : length d ≡ drive_length
  pub idle : (k : ℕ) → k < held_heads d → idle_at d k ≡ true

pub renewable : (d image : List ℕ) → new_number d image ≡ 0 → Renewable d image
unfolding new_number
renewable d image e =
    let a = none (imaged_number image (length d)) _ e in
    let b = imageable image (length d) a.0 in
    let i = (passed (all_to (idle_at d) (held_heads d)) 19 0 (lit< tt) a.1).0 in
    record { accepted = b.0; size = b.1; idle = λ k h. all_at (idle_at d) (held_heads d) k h i }

-- ---- period
pub periodic : (d : List ℕ) → period_number d ≡ 0 → Counted d
unfolding period_number
periodic d e =
    let a = none (buffer_number drive_length (length d)) _ e in
    let c = is_count_lem (held_count d) a.1 in
    record { size = buffer_length drive_length (length d) a.0; low = c.0; high = c.1 }

-- ---- the head, and the drive's length
pub placed : (d : List ℕ) (k : ℕ) → place_number d k ≡ 0 → Placed d k
unfolding place_number
placed d k e =
    let a = none (index_number most_heads k) _ e in
    let b = none (buffer_number drive_length (length d)) _ a.1 in
    record { inside = index_inside most_heads k _ e; size = buffer_length drive_length (length d) b.0; counted = number_inside (held_count d) k b.1 }

-- ---- ask
pub askable : (d : List ℕ) (k : ℕ) (state target : List ℕ) (room : ℕ) → ask_number d k state target room ≡ 0 → Askable d k state target room
unfolding ask_number
askable d k state target room e =
    let a = none (place_number d k) _ e in
    let b = none (solve_number (held_image d) state target (held_start d k) room) _ a.1 in
    let n = accepted_solve (held_image d) state target (held_start d k) room b.0 in
    let s = solvable_dominant (held_image d) state target (held_start d k) n.0 in
    let q = (passed (leb (held_sweeps d) (held_own d k + held_common d)) 20 0 (lit< tt) b.1).0 in
    record { placed = placed d k a.0; solves = s.0; dominant = s.1; room_is = n.1; enough = leb-true _ _ q }

pub askable_found : (d : List ℕ) (k : ℕ) (state target : List ℕ) (room : ℕ) → Askable d k state target room → Found d
askable_found d k state target room a = record { size = a.placed.size; whole = a.solves.accepted.whole }

-- a solve begins with the image's length and sizes
twice : (a b : ℕ) → or_else a (or_else a b) ≡ or_else a b
twice a b = by (eqb a 0)
  where
    by : (t : Bool) → cond t (cond t b a) a ≡ cond t b a
    by true = refl
    by false = refl

head_first : (image state target start : List ℕ) (room : ℕ) → or_else (head_number image) (solve_number image state target start room) ≡ solve_number image state target start room
unfolding solve_number solvable_number image_number
head_first image state target start room =
    let h = head_number image in
    let r = or_else (body_number (sizes_of image) image) (tables_number (sizes_of image) image) in
    let c = call_number image state target start in
    let q = buffer_number (answer_length (sizes_of image)) room in
    let e = ap (λ (k : ℕ). or_else k q) (or_assoc h r c) ∙ or_assoc h (or_else r c) q in
    ap (or_else h) e ∙ twice h (or_else (or_else r c) q) ∙ sym e

-- so an ask is tested as the code does it
abbrev pub sweeps_behind : List ℕ → ℕ → List ℕ → List ℕ → ℕ → ℕ
sweeps_behind d k state target room = or_else (solve_number (held_image d) state target (held_start d k) room) (first_fault (check 20 (leb (held_sweeps d) (held_own d k + held_common d)) ∷ []))

pub ask_by_parts : (d : List ℕ) (k : ℕ) (state target : List ℕ) (room : ℕ) → ask_number d k state target room ≡ or_else (parts_number d k) (sweeps_behind d k state target room)
unfolding ask_number parts_number
ask_by_parts d k state target room =
    let n = solve_number (held_image d) state target (held_start d k) room in
    let q = first_fault (check 20 (leb (held_sweeps d) (held_own d k + held_common d)) ∷ []) in
    let h = head_number (held_image d) in
    let e : or_else h (or_else n q) ≡ or_else n q = sym (or_assoc h n q) ∙ ap (λ (m : ℕ). or_else m q) (head_first (held_image d) state target (held_start d k) room) in
    sym (or_assoc (place_number d k) h (or_else n q) ∙ ap (or_else (place_number d k)) e)

-- ---- commit
pub found : (d : List ℕ) (k : ℕ) → parts_number d k ≡ 0 → Placed d k × Found d
unfolding parts_number
found d k e =
    let a = none (place_number d k) _ e in
    let p = placed d k a.0 in
    (p, record { size = p.size; whole = head_whole (held_image d) a.1 })

pub record Committable (d : List ℕ) (k room : ℕ) : Type 0 where
  pub placed : Placed d k
  pub parts : Found d
  pub room_is : room ≡ first_length (held_image d)
  pub waiting : idle_at d k ≡ false

pub committable : (d : List ℕ) (k room : ℕ) → commit_number d k room ≡ 0 → Committable d k room
unfolding commit_number
committable d k room e =
    let h = none (parts_number d k) _ e in
    let f = found d k h.0 in
    let a = passed (eqb room (first_length (held_image d))) 15 _ (lit< tt) h.1 in
    let b = passed (not (idle_at d k)) 18 _ (lit< tt) a.1 in
    record { placed = f.0; parts = f.1; room_is = eqb-true room _ a.0; waiting = not-true (idle_at d k) b.0 }
