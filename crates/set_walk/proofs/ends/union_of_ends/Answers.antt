use Rattle.std.proofs.Common.{◌↔◌, [], take, Contains, subst, sym}
use Rattle.std.proofs.lemmas.List.{take_all}
use Rattle.list_laws.proofs.PartLaws.{take_more_read}
use Rattle.set_walk.specs.Types.{Oid}
use Rattle.set_walk.specs.inside.SetWalks.{IsEnded}
use Rattle.set_walk.proofs.SetWalkLaws.{ended-none, ended-more}
use Rattle.oem_set.proofs.MemberSearch.{same_oid, lists-sorted}
use Rattle.set_walk.proofs.ends.union_of_ends.Goals as goal

pub places-init : goal.places-init
places-init g c = λ oid.
    subst (λ l. Contains l oid ↔ IsEnded (g.G.SetGraph.has c.args.graph.now) [] oid) (sym c.new-ended.ensures)
    (ended-none (g.G.SetGraph.has c.args.graph.now) oid)

pub places-preserved : goal.places-preserved
places-preserved g c =
    let has = g.G.SetGraph.has c.args.graph.now in
    let met = c.args.met.now in
    let place = c.place-item.result in
    subst (λ l. (oid : Oid) → Contains c.push_ended.new.ended oid ↔ IsEnded has l oid)
    (sym (take_more_read met c.places.place-index place c.places-test.true c.place-item.is))
    (ended-more has (take c.places.place-index met) place c.places.ended c.push_ended.new.ended c.places.invariant
    c.in_ok-push_ended.ensures)

pub returns : goal.returns
returns g c =
    let has = g.G.SetGraph.has c.args.graph.now in
    let all : (oid : Oid) → Contains c.places.ended oid ↔ IsEnded has c.args.met.now oid =
    subst (λ l. (oid : Oid) → Contains c.places.ended oid ↔ IsEnded has l oid)
    (take_all c.places.place-index c.args.met.now c.places-test.false) c.places.invariant in
    lists-sorted (IsEnded has c.args.met.now) c.places.ended c.sort_set.new.self c.sort_set.ensures.ascend
    (c.sort_set.ensures.members same_oid) all
