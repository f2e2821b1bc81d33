use Rattle.std.proofs.Common.{◌≡◌, ◌++◌, List, map, ap, ◌∙◌}
use Rattle.std.proofs.lemmas.Result.{on_ok_weaker}
use Rattle.lore_base.specs.Walks.{out_of}
use Rattle.object_search.specs.Types.{Edge}
use Rattle.object_search.proofs.SearchLaws.{leads_to_children}
use Rattle.object_search.proofs.children.ChildrenSpace.push_next.Goals as goal

pub returns-clause-next : goal.returns-clause-next
returns-clause-next g c =
    let edges = g.A.OutArcs.edges c.args.self.now.arcs.now in
    let out = out_of c.args.place.0 edges in
    let read : c.as_slice.result.now ≡ out = c.as_slice.ensures ∙ c.in_ok-push_out.ensures.edges ∙ ap (λ l. l ++ out) c.cut.ensures in
    on_ok_weaker c.push_ends.result
    (λ is. leads_to_children edges c.args.place.0 c.args.place.1 c.args.out.now.items c.push_ends.new.out.items
    (is ∙ ap (λ (l : List Edge). c.args.out.now.items ++ map (λ edge. (edge.child, c.args.place.1)) l) read))
    c.push_ends.ensures
