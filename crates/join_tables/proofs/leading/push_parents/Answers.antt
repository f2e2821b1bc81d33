use Rattle.std.proofs.Common.{FitsSigned, w64, rules}
use Rattle.std.proofs.lemmas.Int.{to_z-of_z}
use Rattle.std.proofs.lemmas.Result.{on_ok_weaker}
use Rattle.join_tables.proofs.LeadingLaws.{parents_taken}
use Rattle.join_tables.proofs.leading.push_parents.Goals as goal

pub returns : goal.returns
returns g c =
    let fits : FitsSigned w64 c.args.child.0 = search rules in
    on_ok_weaker c.push_each.result
    (parents_taken (g.K.Links.edges c.args.links.now) c.args.label c.args.child _ c.cut.new.self c.parents.new.buf c.as_slice.result.now c.args.found.now
    c.push_each.new.found (to_z-of_z w64 c.args.child.0 fits) c.cut.ensures c.in_ok-parents.ensures.edges c.as_slice.ensures) c.push_each.ensures
