use Rattle.std.proofs.Common.{refl, ◌∙◌}
use Rattle.lorel_trees.proofs.CopyLaws.{copied_same}
use Rattle.dump_text.proofs.reading.changes_of.Goals as goal

pub returns : goal.returns
returns c = record {
  made = copied_same c.in_ok-made.ensures;
  added = refl;
  named = c.in_ok-named.ensures ∙ c.as_slice.ensures;
  labels = copied_same c.in_ok-labels.ensures;
  no_values = c.new-changes.ensures.values;
  no_removed = c.new-changes.ensures.removed;
  no_unnamed = c.new-changes.ensures.unnamed;
}
