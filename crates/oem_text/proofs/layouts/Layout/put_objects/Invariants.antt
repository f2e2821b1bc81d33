use Rattle.std.proofs.Common.{◌≡◌, ◌+◌, ◌++◌, drop}
use Rattle.oem_text.specs.Literals.{numbered}
use Rattle.oem_text.proofs.layouts.Layout.put_objects.Given as goal

abbrev pub invariant-literals : goal.invariant-literals
invariant-literals l = record {
  numbered : l.objects ++ numbered l.number (drop l.literal-index l.self.values) ≡ l.fn.objects ++ numbered l.next l.self.values;
  number : l.number ≡ l.next + l.literal-index;
}
