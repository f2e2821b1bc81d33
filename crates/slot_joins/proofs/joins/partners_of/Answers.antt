use Rattle.std.proofs.Common.{List, sym, subst}
use Rattle.lore_base.specs.TargetSets.{ListsInOrder}
use Rattle.word_walks.specs.WordWalks.{IsReachedBy}
use Rattle.slot_joins.specs.Types.{Oid}
use Rattle.slot_joins.proofs.JoinLaws.{fits_found}
use Rattle.slot_joins.proofs.joins.partners_of.Goals as goal

pub returns : goal.returns
returns g c =
    let edges = g.G.Adjacent.edges c.args.graph.now in
    fits_found edges (g.G.ValueOf.objects c.args.graph.now) c.args.join.now c.args.row.now c.in-Some.from c.as_slice.result.now c.partners.result
    c.in-Some.ensures
    (subst (λ (l : List Oid). ListsInOrder (IsReachedBy c.args.join.now.word edges c.in-Some.from) l) (sym c.as_slice.ensures) c.in_ok-walk.ensures.objects)
    c.partners.ensures
