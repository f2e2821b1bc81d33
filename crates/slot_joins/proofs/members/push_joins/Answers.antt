use Rattle.std.proofs.Common.{◌≡◌, List, map, OnOk, sym, ap, ◌∙◌, subst}
use Rattle.lorel_bound.specs.Bound.{BoundPathTree, bound_cond, conds_from}
use Rattle.lorel_bound.specs.Conditions.{CondOf, and}
use Rattle.member_clues.proofs.MadeLaws.{and_cond}
use Rattle.slot_joins.specs.inside.Joins.{AddsJoins}
use Rattle.slot_joins.proofs.members.push_joins.Goals as goal

pub returns-in-And : goal.returns-in-And
returns-in-And g c =
    let indexed = c.args.indexed.now in
    let edges = g.G.Adjacent.edges indexed.graph.now in
    let objects = g.G.ValueOf.objects indexed.graph.now in
    let whole : and (conds_from (map bound_cond c.as_slice.result.now)) ≡ bound_cond c.args.cond.now =
    ap (λ (l : List (CondOf BoundPathTree)). and (conds_from l)) c.as_slice.ensures.trees ∙ sym (and_cond c.args.cond.now c.in-And.members c.in-And.is) in
    subst (λ (w : CondOf BoundPathTree). OnOk c.push_each.result (AddsJoins indexed.labels.now edges objects w c.args.joins.now.items c.push_each.new.joins.items)) whole
    c.push_each.ensures
