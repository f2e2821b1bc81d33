use Rattle.std.proofs.Common.{Some, map, sym, ap, ◌∙◌, subst, Contains}
use Rattle.std.proofs.lemmas.Bool.{true≢false}
use Rattle.std.proofs.lemmas.Option.{IfSome_then}
use Rattle.index_traits.proofs.ObjectLaws.{one_value_of}
use Rattle.lore_base.specs.Databases.{AreAscendingObjects}
use Rattle.edge_lists.specs.Objects.{object_of}
use Rattle.oem_graph.specs.Plans.{GraphLists}
use Rattle.graph_changes.proofs.PairLaws.{pairs-ascend}
use Rattle.graph_changes.proofs.LeftLaws.{among, among-back}
use Rattle.oem_graph.proofs.ReadLaws.{given-value, kept-value, value-kept, none_then}
use Rattle.oem_graph.proofs.graph_then.GraphThenValueOf.value_of.Goals as goal

pub returns-in-Some-clause-found : goal.returns-in-Some-clause-found
returns-in-Some-clause-found c =
    let then = c.self.inside in
    subst (λ (v : GraphLists). Contains v.objects (c.args.oid, c.in-Some.value.now)) c.self.view_is
    (given-value then.dead.now (map object_of then.objects.now) then.given.now (pairs-ascend then.objects.now c.self.invariant.lists.ascend) c.self.invariant.given_ascend
    c.args.oid c.in-Some.value.now c.in-Some.ensures.found)

pub returns-in-Some-clause-only : goal.returns-in-Some-clause-only
returns-in-Some-clause-only c value at =
    ap Some (one_value_of _ (subst (λ (v : GraphLists). AreAscendingObjects v.objects) c.self.view_is c.self.invariant.objects_ascend) _ _ _ (returns-in-Some-clause-found c) at)

pub returns-then-is_dead-clause-none : goal.returns-then-is_dead-clause-none
returns-then-is_dead-clause-none c = λ live.
    let then = c.self.inside in
    (value-kept then.dead.now (map object_of then.objects.now) then.given.now (pairs-ascend then.objects.now c.self.invariant.lists.ascend) c.self.invariant.given_ascend
    c.args.oid live.0 c.in_default.ensures.none (subst (λ (v : GraphLists). Contains v.objects (c.args.oid, live.0)) (sym c.self.view_is) live.1)).1
    (among-back then.dead.now c.args.oid (sym c.is_dead.ensures ∙ c.if-is_dead.true))

pub returns-then-is_dead-clause-only : goal.returns-then-is_dead-clause-only
returns-then-is_dead-clause-only c value at = absurd (returns-then-is_dead-clause-none c (value, at))

pub returns-clause-found : goal.returns-clause-found
returns-clause-found c =
    let then = c.self.inside in
    IfSome_then c.value_of.result c.value_of.ensures.found
    (λ value at. subst (λ (v : GraphLists). Contains v.objects (c.args.oid, value.now)) c.self.view_is
    (kept-value then.dead.now (map object_of then.objects.now) then.given.now (pairs-ascend then.objects.now c.self.invariant.lists.ascend) c.self.invariant.given_ascend
    c.args.oid value.now c.in_default.ensures.none (λ dies. true≢false (sym (among then.dead.now c.args.oid dies) ∙ sym c.is_dead.ensures ∙ c.if-is_dead.false)) at))

pub returns-clause-none : goal.returns-clause-none
returns-clause-none c =
    let then = c.self.inside in
    none_then c.value_of.result c.value_of.ensures.none (λ live. (
      live.0,
      (value-kept then.dead.now (map object_of then.objects.now) then.given.now (pairs-ascend then.objects.now c.self.invariant.lists.ascend) c.self.invariant.given_ascend
          c.args.oid live.0 c.in_default.ensures.none (subst (λ (v : GraphLists). Contains v.objects (c.args.oid, live.0)) (sym c.self.view_is) live.1)).0,
    ))

pub returns-clause-only : goal.returns-clause-only
returns-clause-only c value at =
    let then = c.self.inside in
    c.value_of.ensures.only value
    (value-kept then.dead.now (map object_of then.objects.now) then.given.now (pairs-ascend then.objects.now c.self.invariant.lists.ascend) c.self.invariant.given_ascend
    c.args.oid value c.in_default.ensures.none (subst (λ (v : GraphLists). Contains v.objects (c.args.oid, value)) (sym c.self.view_is) at)).0
