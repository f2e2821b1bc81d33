use Rattle.std.proofs.Common.{◌↔◌, ◌⊎◌, List, Contains, refl, sym, subst}
use Rattle.std.proofs.lemmas.Result.{on_ok_weaker}
use Rattle.path_expr.specs.Machines.{IsIn}
use Rattle.set_walk.specs.Types.{Oid, END}
use Rattle.set_walk.proofs.SetWalkLaws.{members-added}
use Rattle.set_walk.proofs.ends.push_ended.Goals as goal

pub returns : goal.returns
returns g c =
    let has = g.G.SetGraph.has c.args.graph.now in
    let old = c.args.ended.now in
    let ends = IsIn ((c.args.place).1).0 END in
    on_ok_weaker c.append.result
    (λ is.
    subst (λ (l : List Oid). (oid : Oid) → Contains l oid ↔ (Contains old oid ⊎ (ends × has (c.args.place).0 oid)))
    (sym is)
    (members-added has (c.args.place).0 c.members.result.now old ends (c.if-not-has.ensures.0 refl) c.members.ensures))
    c.append.ensures.ok
