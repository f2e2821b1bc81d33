use Rattle.std.proofs.Common.{List, refl, sym, ap, ◌∙◌, length, subst, arith}
use Rattle.std.proofs.lemmas.List.{nil_from_length}
use Rattle.value_orders.specs.Types.{Oid, Value}
use Rattle.value_orders.proofs.HeldLaws.{IsPutSoFar, put-first, put-next, put-last}
use Rattle.value_orders.proofs.held.put_each.Goals as goal

pub given-init : goal.given-init
given-init c =
    let is = c.into_iter-object-iterator.ensures.into_iter_gives.0 in
    record {
      so_far = subst (λ (l : List (Oid × Value)). IsPutSoFar c.args.given.items l c.args.values.now.items c.args.values.now.items) (sym is)
          (put-first c.args.given.items c.args.values.now.items c.requires.ascend);
      room = omega (arith, ap length is, c.requires.room);
      capacity = refl;
    }

pub put_value-requires-clause-ascend : goal.put_value-requires-clause-ascend
put_value-requires-clause-ascend c = c.given.invariant.so_far.put_ones.ascend

pub put_value-requires-clause-room : goal.put_value-requires-clause-room
put_value-requires-clause-room c = omega (arith, ap length c.in-Some.ensures.steps.0, c.given.invariant.room)

pub given-preserved : goal.given-preserved
given-preserved c = record {
  so_far = put-next c.args.given.items c.given.object-iterator.rest.items c.next.new.self.rest.items c.args.values.now.items c.given.values.items c.put_value.new.values.items c.in-Some.object
      c.requires.given c.given.invariant.so_far c.in-Some.ensures.steps.0 c.put_value.ensures.put;
  room = omega (arith, ap length c.in-Some.ensures.steps.0, c.put_value.ensures.len, c.put_value.ensures.capacity, c.given.invariant.room);
  capacity = c.put_value.ensures.capacity ∙ c.given.invariant.capacity;
}

pub returns-clause-put : goal.returns-clause-put
returns-clause-put c = put-last c.args.given.items c.given.object-iterator.rest.items c.args.values.now.items c.given.values.items c.given.invariant.so_far
    (nil_from_length c.given.object-iterator.rest.items (omega (arith, c.in-None.ensures.steps.0, c.given.object-iterator.rest.ok.0)))
