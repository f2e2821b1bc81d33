use Rattle.std.proofs.Common.{◌≡◌, ◌<◌, ◌++◌, flat_map}
use Rattle.oem_text.specs.Literals.{numbered}
use Rattle.oem_text.specs.Generated.{numbers_from, drawn, person_values}
use Rattle.oem_text.proofs.generated_objects.put_persons.Given as goal

abbrev pub invariant-persons : goal.invariant-persons
invariant-persons l = record {
  number : l.number ≡ drawn l.seed l.place;
  small : l.number < 2147483648;
  objects : l.objects ≡ l.fn.objects ++ numbered l.first (flat_map (person_values l.seed) (numbers_from 1 l.place));
}
