use Rattle.std.proofs.Common.{◌≡◌, take, map}
use Rattle.value_index.specs.inside.Marks.{marked_by}
use Rattle.value_index.proofs.marks.mark_named.Given as goal

abbrev pub invariant-entries : goal.invariant-entries
invariant-entries l = l.objects.items ≡ map (marked_by l.kind (take l.entry-index l.fn.entries)) l.fn.objects.items
