use Rattle.std.proofs.Common.{ap, ◌∙◌, ℕ, ◌≡◌, replicate}
use Rattle.drive.specs.Calls.{make_drive, blank_drive}
use Rattle.drive_make.proofs.fill.Goals as goal

pub returns : goal.returns
unfolding make_drive blank_drive
returns c =
    let zeros : c.fill.new.self ≡ blank_drive = c.fill.ensures.after (λ y h. h) ∙ ap (λ (n : ℕ). replicate n 0) c.requires.1 in
    cc
