use Rattle.std.proofs.lemmas.Bool.{false≢true}
use Rattle.oem_set.proofs.MemberSearch.{none_found}
use Rattle.row_hints.proofs.lists.is_among.Goals as goal

pub returns-in-Err : goal.returns-in-Err
returns-in-Err c = (
  λ no. absurd (false≢true no),
  λ at. absurd (none_found c.args.oids.now c.requires c.args.oid c.in-Err.field-0 (rw c.as_slice.ensures at c.in-Err.ensures.position) at),
)
