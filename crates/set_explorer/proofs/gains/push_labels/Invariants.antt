use Rattle.std.proofs.Common.{◌≡◌, ◌++◌, take}
use Rattle.set_explorer.specs.inside.Gains.{labels_in}
use Rattle.set_explorer.proofs.gains.push_labels.Given as goal

abbrev pub invariant-row : goal.invariant-row
invariant-row g l = l.labels ≡ l.fn.labels ++ labels_in (take l.entry-index l.fn.row)
