use Rattle.std.proofs.Common.{ℕ, ◌+◌, ◌*◌, ◌++◌, ap, ◌∙◌, arith}
use Rattle.oem_text.specs.Literals.{numbered}
use Rattle.oem_text.specs.Generated.{age_from, values_of_person}
use Rattle.oem_text.proofs.GeneratedObjectLaws.{drawn_more, persons_more}
use Rattle.oem_text.proofs.generated_objects.put_persons.Goals as goal

pub persons-preserved : goal.persons-preserved
persons-preserved c =
    let place = c.persons.place in
    let at = c.args.first + 4 * c.from.result in
    let number = drawn_more c.args.seed place c.persons.number c.number_after-number.result c.persons.invariant.number c.number_after-number.ensures.next in
    let age = c.age_of.ensures ∙ ap age_from number in
    record {
      number = number;
      small = c.number_after-number.ensures.small;
      objects = persons_more c.args.seed place c.args.first at c.args.objects.now c.persons.objects c.put_person.new.objects c.persons.invariant.objects
          (omega (arith, c.from.ensures))
          (c.in_ok-put_person.ensures ∙ ap (λ (n : ℕ). c.persons.objects ++ numbered at (values_of_person (place + 1) n)) age);
    }
