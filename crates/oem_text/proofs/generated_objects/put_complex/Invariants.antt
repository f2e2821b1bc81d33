use Rattle.std.proofs.Common.{◌≡◌, ◌++◌, replicate}
use Rattle.oem_text.specs.Types.{Complex}
use Rattle.oem_text.specs.Literals.{numbered}
use Rattle.oem_text.proofs.generated_objects.put_complex.Given as goal

abbrev pub invariant-objects : goal.invariant-objects
invariant-objects l = l.objects ≡ l.fn.objects ++ numbered l.first (replicate l.place Complex)
