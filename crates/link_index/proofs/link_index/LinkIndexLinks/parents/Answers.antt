use Rattle.std.proofs.Common.{List, ap, subst, ◌∙◌}
use Rattle.lore_base.specs.Walks.{ListsEntering}
use Rattle.link_index.specs.Types.{Edge}
use Rattle.link_index.specs.declared.records.LinkRecord.{LinkRecord}
use Rattle.link_index.specs.inside.LinkEdges.{edges_of}
use Rattle.link_index.specs.inside.Records.{links_of}
use Rattle.link_index.proofs.RunLaws.{lists_entering}
use Rattle.link_index.proofs.link_index.LinkIndexLinks.parents.Goals as goal

pub returns-clause-edges : goal.returns-clause-edges
returns-clause-edges g c =
    let more = c.in_ok-push_run.ensures.ok in
    let links = ap (λ (r : List LinkRecord). edges_of (links_of r)) c.as_slice-2.ensures.value ∙ ap (λ i. i.links) c.self.view_is in
    let lists = lists_entering c.as_slice-2.result.now c.args.oid c.args.label more.0 more.2 in
    (more.0, more.1, subst (λ (edges : List Edge). ListsEntering edges c.args.oid c.args.label more.0) links lists)
