use Rattle.graph_changes.proofs.DropLaws.{dropped-found, dropped-absent}
use Rattle.graph_changes.proofs.object_changes.drop_object.Goals as goal

pub returns-in-Some : goal.returns-in-Some
returns-in-Some c =
    dropped-found _ _ _ c.args.oid _ c.as_slice.ensures.value c.requires c.in-Some.ensures.inside c.in-Some.ensures.found c.remove-gone.ensures.by_index.2

pub returns-in_default : goal.returns-in_default
returns-in_default c = dropped-absent _ _ c.args.oid c.as_slice.ensures.value c.in_default.ensures.none
