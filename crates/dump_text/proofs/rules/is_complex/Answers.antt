use Rattle.dump_text.proofs.RuleLaws.{complex_told}
use Rattle.dump_text.proofs.rules.is_complex.Goals as goal

pub returns-in-Some : goal.returns-in-Some
returns-in-Some c =
    complex_told c.args.objects.now c.requires c.args.oid c.in-Some.value.now c.is_no_atom.result c.in-Some.ensures.found c.is_no_atom.ensures
