use Rattle.std.proofs.Common.{◌≡◌, ◌++◌, drop}
use Rattle.oem_labels.specs.Labels.{first_uses}
use Rattle.oem_labels.proofs.label_table.LabelTable.add_all.Given as goal

abbrev pub invariant-texts : goal.invariant-texts
invariant-texts l = l.self ++ first_uses l.self (drop l.text-index l.fn.texts) ≡ l.fn.self ++ first_uses l.fn.self l.fn.texts
