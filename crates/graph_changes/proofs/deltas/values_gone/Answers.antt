use Rattle.std.proofs.Common.{List, ◌++◌, map, ap, ◌∙◌}
use Rattle.edge_lists.specs.Objects.{object_of}
use Rattle.graph_changes.specs.Types.{Oid, Value}
use Rattle.edge_layers.proofs.LayerLaws.{none_there}
use Rattle.graph_changes.proofs.EmptyLaws.{gone-nothing}
use Rattle.graph_changes.proofs.DeltaLaws.{gone-objects, oids-rise, same_number}
use Rattle.graph_changes.proofs.deltas.values_gone.Goals as goal

pub returns-then-is_empty : goal.returns-then-is_empty
returns-then-is_empty c = gone-nothing (map object_of c.args.objects.now) c.args.dead.now c.args.come.now c.new.result
    (ap (map object_of) (none_there c.args.objects.now c.is_empty.result c.is_empty.ensures c.if-is_empty.true)) c.new.ensures

pub values_of-requires-clause-oids : goal.values_of-requires-clause-oids
values_of-requires-clause-oids c = rw c.as_slice.ensures (oids-rise c.sort_set.new.self c.sort_set.ensures.ascend)

pub returns : goal.returns
returns c =
    let first = c.in_ok-append.ensures.ok ∙ ap (λ (l : List Oid). l ++ c.args.dead.now) c.in_ok-oids.ensures in
    let listed = c.in_ok-push_oids.ensures ∙ ap (λ (l : List Oid). l ++ map (λ (o : Oid × Value). o.0) c.args.come.now) first in
    gone-objects (map object_of c.args.objects.now) c.args.dead.now c.args.come.now c.in_ok-gone.gone c.push_oids.new.oids c.sort_set.new.self listed
    (c.sort_set.ensures.members same_number) (rw c.as_slice.ensures at c.in_ok-gone.ensures)
