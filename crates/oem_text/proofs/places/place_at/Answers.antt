use Rattle.oem_text.proofs.MarkLaws.{here_mark}
use Rattle.oem_text.proofs.places.place_at.Goals as goal

pub returns-then-mark-number : goal.returns-then-mark-number
returns-then-mark-number c =
    let found = c.in_ok-mark.ensures.lookup in
    here_mark _ _ _ _ found.3.0 found.1 c.if-mark-number.true
