use Rattle.std.proofs.Common.{◌≡◌, take}
use Rattle.oem_text.proofs.label_numbers.LabelNumbers.texts.Given as goal

abbrev pub invariant-labels : goal.invariant-labels
invariant-labels l = l.texts ≡ take l.place l.self.come
