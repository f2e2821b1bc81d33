use Rattle.std.proofs.Common.{◌≡◌, ◌+◌, ◌<◌, ◌≤◌, [], length, refl, arith}
use Rattle.updates.specs.Types.{LABELS, OBJECTS, EDGES, NEXT_NUMBER}
use Rattle.updates.specs.Effects.{no_changes}
use Rattle.updates.proofs.TextLaws.{under}
use Rattle.updates.proofs.FormLaws.{adds_nothing}
use Rattle.updates.proofs.CopyLaws.{nothing_grows}
use Rattle.updates.proofs.CopyCauseLaws.{grown_many_objects, grown_many_edges, grown_clear}
use Rattle.updates.proofs.copies.no_copy.Goals as goal

pub returns-then-objects-gt-OBJECTS-clause-err : goal.returns-then-objects-gt-OBJECTS-clause-err
returns-then-objects-gt-OBJECTS-clause-err c =
    let graph = c.args.graph.now.graph in
    let low = c.next-next.ensures.indexable.ordered.next_numbered.1 in
    let few = under c.has_too_many.result LABELS (length c.args.labels.now) c.has_too_many.ensures c.if-has_too_many.false in
    grown_many_objects c.args.labels.now graph no_changes refl (adds_nothing graph no_changes refl) (omega (arith, low)) (omega (arith, few)) [] c.requires
    (nothing_grows graph) (omega (arith, c.objects.ensures.count, c.if-objects-gt-OBJECTS.true))

pub returns-then-edges-gt-EDGES-clause-err : goal.returns-then-edges-gt-EDGES-clause-err
returns-then-edges-gt-EDGES-clause-err c =
    let graph = c.args.graph.now.graph in
    let low = c.next-next.ensures.indexable.ordered.next_numbered.1 in
    let few = under c.has_too_many.result LABELS (length c.args.labels.now) c.has_too_many.ensures c.if-has_too_many.false in
    grown_many_edges c.args.labels.now graph no_changes refl (adds_nothing graph no_changes refl) (omega (arith, low)) (omega (arith, few)) [] c.requires
    (nothing_grows graph) (omega (arith, c.objects.ensures.count, c.if-objects-gt-OBJECTS.false))
    (omega (arith, c.edges.ensures.count, c.if-edges-gt-EDGES.true))

pub returns-clause-ok : goal.returns-clause-ok
returns-clause-ok c =
    let graph = c.args.graph.now.graph in
    let low = c.next-next.ensures.indexable.ordered.next_numbered.1 in
    let few = under c.has_too_many.result LABELS (length c.args.labels.now) c.has_too_many.ensures c.if-has_too_many.false in
    grown_clear c.args.labels.now graph no_changes refl (adds_nothing graph no_changes refl) (omega (arith, low)) (omega (arith, few)) [] c.requires
    (nothing_grows graph) (omega (arith, c.objects.ensures.count, c.if-objects-gt-OBJECTS.false))
    (omega (arith, c.edges.ensures.count, c.if-edges-gt-EDGES.false))
