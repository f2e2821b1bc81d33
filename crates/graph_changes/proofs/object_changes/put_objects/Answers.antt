use Rattle.std.proofs.Common.{List, sym, ap, ◌∙◌, length, subst, arith}
use Rattle.std.proofs.lemmas.List.{nil_from_length}
use Rattle.graph_changes.specs.Types.{Oid, Value}
use Rattle.graph_changes.proofs.RecordLaws.{IsPutSoFar, put-first, put-next, put-last}
use Rattle.graph_changes.proofs.object_changes.put_objects.Goals as goal

pub given-init : goal.given-init
given-init c =
    let is = c.into_iter-object-iterator.ensures.into_iter_gives.0 ∙ c.into_items-object-items.ensures in
    record {
      so_far = subst (λ (l : List (Oid × Value)). IsPutSoFar c.args.given l c.args.objects.now.items c.args.objects.now.items) (sym is)
          (put-first c.args.given c.args.objects.now.items c.requires.ascend);
      room = omega (arith, ap length is, c.requires.room);
    }

pub put_object-requires-clause-ascend : goal.put_object-requires-clause-ascend
put_object-requires-clause-ascend c = c.given.invariant.so_far.put.ascend

pub put_object-requires-clause-room : goal.put_object-requires-clause-room
put_object-requires-clause-room c = omega (arith, ap length c.in-Some.ensures.steps.0, c.given.invariant.room)

pub given-preserved : goal.given-preserved
given-preserved c = record {
  so_far = put-next c.args.given c.given.object-iterator.rest.items c.next.new.self.rest.items c.in-Some.object c.args.objects.now.items c.given.objects.items c.put_object.new.objects.items
      c.given.invariant.so_far c.in-Some.ensures.steps.0 c.put_object.ensures.put;
  room = omega (arith, ap length c.in-Some.ensures.steps.0, c.put_object.ensures.len, c.put_object.ensures.capacity, c.given.invariant.room);
}

pub returns : goal.returns
returns c = put-last c.args.given c.given.object-iterator.rest.items c.args.objects.now.items c.given.objects.items c.given.invariant.so_far
    (nil_from_length c.given.object-iterator.rest.items (omega (arith, c.in-None.ensures.steps.0, c.given.object-iterator.rest.ok.0)))
