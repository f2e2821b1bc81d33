use Rattle.oem_set.proofs.MemberSearch.{none_found}
use Rattle.one_index.proofs.places.place_of.Goals as goal

pub returns-in-Err-clause-none : goal.returns-in-Err-clause-none
returns-in-Err-clause-none c at =
    none_found c.args.objects.now c.requires c.args.oid c.in-Err.field-0 c.in-Err.ensures.position at
