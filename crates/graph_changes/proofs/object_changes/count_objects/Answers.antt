use Rattle.std.proofs.Common.{◌≡◌, map, ap, Contains, subst, arith}
use Rattle.edge_layers.proofs.LayerLaws.{none_there}
use Rattle.edge_lists.specs.Objects.{object_of}
use Rattle.graph_changes.proofs.EmptyLaws.{count-given}
use Rattle.graph_changes.proofs.CountLaws.{few-left, given-step}
use Rattle.edge_lists.specs.Objects.{IsLive}
use Rattle.graph_changes.specs.Types.{Oid, Value}
use Rattle.graph_changes.proofs.object_changes.count_objects.Goals as goal

pub returns-then-is_empty : goal.returns-then-is_empty
returns-then-is_empty c = count-given c.args.dead.now (map object_of c.args.objects.now) c.args.given.now
    (ap (map object_of) (none_there c.args.objects.now c.is_empty.result c.is_empty.ensures c.if-is_empty.true)) c.requires.given

pub given-init : goal.given-init
given-init c = record {
  is = c.count_left-left.ensures;
  few = omega (arith, c.count_left-left.ensures, few-left c.args.dead.now c.args.objects.now);
}

pub given-preserved : goal.given-preserved
given-preserved c =
    let object = c.object-item.result in
    let new = subst (λ (o : Oid × Value). c.count_new-count.result ≡ 1 → ¬ (IsLive c.args.objects.now o.0 × (¬ Contains c.args.dead.now o.0))) c.object-item.is c.count_new-count.ensures.new in
    let old = subst (λ (o : Oid × Value). c.count_new-count.result ≡ 0 → IsLive c.args.objects.now o.0 × (¬ Contains c.args.dead.now o.0)) c.object-item.is c.count_new-count.ensures.old in
    let step = given-step c.args.dead.now c.args.given.now c.requires.given c.args.objects.now c.requires.objects c.given.object-index object c.given-test.true
    c.count_new-count.result c.count_new-count.ensures.most new old in
    record {
      is = omega (arith, c.given.invariant.is, step);
      few = omega (arith, c.given.invariant.few, c.count_new-count.ensures.most);
    }
