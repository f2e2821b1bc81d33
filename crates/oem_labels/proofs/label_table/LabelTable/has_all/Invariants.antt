use Rattle.std.proofs.Common.{◌≡◌, drop}
use Rattle.oem_labels.specs.Labels.{first_uses}
use Rattle.oem_labels.proofs.label_table.LabelTable.has_all.Given as goal

abbrev pub invariant-texts : goal.invariant-texts
invariant-texts l = first_uses l.self (drop l.text-index l.fn.texts) ≡ first_uses l.self l.fn.texts
