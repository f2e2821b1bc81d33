use Rattle.std.proofs.Common.{List, refl, sym, ap, ◌∙◌, length, subst, arith}
use Rattle.std.proofs.lemmas.List.{nil_from_length}
use Rattle.value_orders.specs.Types.{Oid, Value}
use Rattle.value_orders.specs.inside.Puts.{IsPutBehind, IsSetOrPushed}
use Rattle.value_orders.proofs.BehindLaws.{behind-first, behind-next, front-ascends}
use Rattle.value_orders.proofs.held.put_behind.Goals as goal

pub given-init : goal.given-init
given-init c =
    let is = c.into_iter-object-iterator.ensures.into_iter_gives.0 in
    record {
      so_far = subst (λ (l : List (Oid × Value)). IsPutBehind c.args.given.items l c.args.values.now.items c.args.values.now.items) (sym is)
          (behind-first c.args.given.items c.args.values.now.items c.requires.ascend);
      long = omega arith;
      room = omega (arith, ap length is, c.requires.room);
      capacity = refl;
    }

pub set_or_push-requires-clause-known : goal.set_or_push-requires-clause-known
set_or_push-requires-clause-known c = omega (arith, c.len-known.ensures, c.given.invariant.long)

pub set_or_push-requires-clause-ascend : goal.set_or_push-requires-clause-ascend
set_or_push-requires-clause-ascend c = front-ascends _ _ c.args.values.now.items _ _ (omega (arith, c.len-known.ensures, c.args.values.now.ok.0)) c.given.invariant.so_far

pub set_or_push-requires-clause-room : goal.set_or_push-requires-clause-room
set_or_push-requires-clause-room c = omega (arith, ap length c.in-Some.ensures.steps.0, c.given.invariant.room)

pub given-preserved : goal.given-preserved
given-preserved c = record {
  so_far = behind-next c.args.given.items c.given.object-iterator.rest.items c.next.new.self.rest.items c.args.values.now.items c.given.values.items c.set_or_push.new.values.items c.in-Some.object
      c.requires.given c.requires.ascend c.given.invariant.so_far c.in-Some.ensures.steps.0
      (subst (λ n. IsSetOrPushed n c.in-Some.object c.given.values.items c.set_or_push.new.values.items) (omega (arith, c.len-known.ensures, c.args.values.now.ok.0)) c.set_or_push.ensures.set);
  long = omega (arith, c.set_or_push.ensures.more, c.given.invariant.long);
  room = omega (arith, ap length c.in-Some.ensures.steps.0, c.set_or_push.ensures.len, c.set_or_push.ensures.capacity, c.given.invariant.room);
  capacity = c.set_or_push.ensures.capacity ∙ c.given.invariant.capacity;
}

pub returns-clause-put : goal.returns-clause-put
returns-clause-put c =
    subst (λ (l : List (Oid × Value)). IsPutBehind c.args.given.items l c.args.values.now.items c.given.values.items)
    (nil_from_length c.given.object-iterator.rest.items (omega (arith, c.in-None.ensures.steps.0, c.given.object-iterator.rest.ok.0)))
    c.given.invariant.so_far
