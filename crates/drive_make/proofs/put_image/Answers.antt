use Rattle.std.proofs.Common.{arith, sym, ap, ◌∙◌, ℕ, ◌+◌, ◌-◌, ◌≡◌, List, length, take, replicate, length-take-le}
use Rattle.std.proofs.lemmas.List.{length-replicate}
use Rattle.word.specs.Buffer.{put_at}
use Rattle.word.specs.Word.{bytes_of}
use Rattle.word.proofs.Beside.{put_lent}
use Rattle.drive.specs.Layout.{length_place, image_place, count_place}
use Rattle.drive.specs.Calls.{imaged}
use Rattle.drive_make.proofs.put_image.Goals as goal

pub returns : goal.returns
unfolding imaged
returns c =
    let d = c.args.drive.now in
    let i = c.args.image.now in
    let room : length (take count_place d) ≡ count_place = length-take-le count_place d (omega arith) in
    let zeros : c.fill.new.self ≡ replicate count_place 0 = c.fill.ensures.after (λ y h. h) ∙ ap (λ (n : ℕ). replicate n 0) room in
    let cleared = put_lent d length_place count_place c.fill.new.self (replicate count_place 0) zeros (sym (length-replicate {A = ℕ} count_place 0)) in
    put_lent c.put_nat.new.out image_place (image_place + length i - image_place) c.copy.new.to i c.copy.ensures (omega arith)
    ∙ ap (λ (x : List ℕ). put_at x image_place i) (c.put_nat.ensures ∙ ap (λ (x : List ℕ). put_at x length_place (bytes_of (length i))) cleared)
