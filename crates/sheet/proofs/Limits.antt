-- Each command has the limits that the sheet gives its motor at its step. Assumes nothing.
use mathlib.Core.Path.{◌≡◌, ap, ◌∙◌}
use mathlib.Core.List.{List}
use Prim.Native.Nat.{ℕ, ◌+◌, ◌-◌, ◌*◌, ◌/◌, ◌%◌, ◌<◌}
use native.Mathlib.Omega.{arith}
use Rattle.word.specs.Word.{word_at}
use Rattle.double.specs.Double.{rule_of}
use Rattle.image.specs.declared.Sizes.{Sizes}
use Rattle.image.specs.Sizes.{command_count}
use Rattle.image.specs.Layout.{lower_at, lower_place, sizes_of, upper_at, upper_place}
use Rattle.frame.specs.declared.Due.{Due}
use Rattle.frame.specs.Frame.{due, due_at, low_base, rounding_of}
use Rattle.frame.proofs.Limits.{high_due, low_due}
use Rattle.sheet.specs.Laws.{LimitLine, OwnLimits, Rounded}
use Rattle.sheet.specs.Sheet.{sheet_image, sheet_number}
use Rattle.sheet.proofs.Entries.{words_rounded}

-- a line that is due, and its word
limit_line : (z : Sizes) (s : List ℕ) (i kind motor step : ℕ) → due_at z i ≡ due kind motor step → Rounded z s i
    → LimitLine z s i kind motor step (rule_of (rounding_of kind)) (word_at (sheet_image s) (4 * (8 + i)))
limit_line z s i kind motor step e r = record {
  kind_is = r.kind ∙ ap (λ (d : Due). d.kind) e;
  motor_is = r.row ∙ ap (λ (d : Due). d.row) e;
  step_is = r.column ∙ ap (λ (d : Due). d.column) e;
  scales = r.scales;
  word_is = rw (ap (λ (d : Due). d.kind) e) at r.word;
}

pub own_limits : (s : List ℕ) → sheet_number s ≡ 0 → (k : ℕ) → k < command_count (sizes_of (sheet_image s)) → OwnLimits (sizes_of (sheet_image s)) s k
unfolding lower_at upper_at low_base
own_limits s e k h =
    let z = sizes_of (sheet_image s) in
    let n = command_count z in
    let i = low_base z + k in
    let j = low_base z + n + k in
    let a : i - low_base z ≡ k = omega arith in
    let b : j - low_base z - n ≡ k = omega arith in
    let p : lower_place z + 4 * k ≡ 4 * (8 + i) = omega arith in
    let q : upper_place z + 4 * k ≡ 4 * (8 + j) = omega arith in
    let l : due_at z i ≡ due 4 (k % z.nu) (k / z.nu) = low_due z i (omega arith, omega arith) ∙ rw a in
    let m : due_at z j ≡ due 5 (k % z.nu) (k / z.nu) = high_due z j (omega arith, omega arith) ∙ rw b in
    record {
      low = rw p (limit_line z s i 4 (k % z.nu) (k / z.nu) l (words_rounded s e i (omega arith)));
      high = rw q (limit_line z s j 5 (k % z.nu) (k / z.nu) m (words_rounded s e j (omega arith)));
    }
