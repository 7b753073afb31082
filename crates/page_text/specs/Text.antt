-- Document 02, request 2: what the page program prints for the bytes of drive.hex. Definitions only.
use Rattle.std.specs.Prelude.{ℕ, ◌*◌, List}
use Rattle.text.specs.Text.{printed}
use Rattle.design_page.specs.Page.{design_count, page_number, sheet_page}

-- the "design page", or the refusal: "a refused sheet gives no page". The number is that for a buffer of "the exact length", so 15 cannot occur
unfoldable pub page_text : List ℕ → List ℕ
page_text drive = printed (page_number drive (44 * design_count drive)) (sheet_page drive)
