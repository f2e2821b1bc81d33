-- What a plan of labels is seen as.
use Rattle.std.specs.Prelude.{ℕ, List, [], drop, Option, Some, None}
use Rattle.oem_labels.specs.Labels.{PlannedLabels}

-- no text comes, or those of the whole table behind the known ones
abbrev pub planned : Option (List (List ℕ)) → ℕ → PlannedLabels
planned None known = record { come = []; whole = [] }
planned (Some texts) known = record { come = drop known texts; whole = texts }
