use Rattle.std.proofs.Common.{ℕ, ◌<◌, List, get_or}
use Rattle.lore_base.specs.Names.{IsLabel}
use Rattle.dump_text.proofs.rules.are_labels.Given as goal

abbrev pub invariant-texts : goal.invariant-texts
invariant-texts l = (k : ℕ) (d : List ℕ) → k < l.text-index → IsLabel (get_or l.texts k d)
