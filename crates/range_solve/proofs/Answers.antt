-- The answer's bytes: the arrays of both ends as the lists that they hold. Assumes nothing.
use mathlib.Core.Path.{◌≡◌, sym, ◌∙◌}
use mathlib.Core.List.{List, map}
use Prim.Native.Nat.{ℕ, ◌≤◌}
use native.Mathlib.Omega.{arith}
use lib.ListN.{length-map, take}
use lib.IntN.{ℤ, pos}
use Rattle.word.proofs.Buffer.{taken}
use Rattle.gradient.proofs.Vector.{map_at}
use Rattle.image.specs.Sizes.{command_count}
use Rattle.image.specs.Layout.{sizes_of}
use Rattle.ranges.specs.Interval.{degenerate, End, end_of}
use Rattle.range_interface.specs.Calls.{ranges_after}
use Rattle.range_interface.specs.Accepted.{RangeSolvable}
use Rattle.range_interface.proofs.Guaranteed.{carried_length}
use Rattle.range_solve.specs.Reached.{EndFilled}

-- the first n of an array that holds an end of the n carried commands
pub ends_are : {image ranges target start : List ℕ} → RangeSolvable image ranges target start → (n : ℕ) → n ≡ command_count (sizes_of image) → n ≤ 16
    → (e : End) (l : List ℤ) → EndFilled e (command_count (sizes_of image)) (ranges_after image ranges target start (sizes_of image).sweeps) l
    → take n l ≡ map (end_of e) (ranges_after image ranges target start (sizes_of image).sweeps)
ends_are {image} {ranges} {target} {start} s n q few e l f =
    let xs = ranges_after image ranges target start (sizes_of image).sweeps in
    let long = carried_length image ranges target start s in
    taken (pos 0) l (map (end_of e) xs) n (omega (arith, f.sized)) (length-map xs (end_of e) ∙ long ∙ sym q)
    (λ i h. f.each i (omega arith) ∙ sym (map_at (end_of e) xs i (degenerate (pos 0)) (pos 0) (omega (arith, long))))
