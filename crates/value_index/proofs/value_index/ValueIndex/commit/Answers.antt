use Rattle.std.proofs.Common.{◌≡◌, List, All, length, ap, refl, subst, sym, ◌∙◌, arith}
use Rattle.value_index.specs.Types.{Oid, Value, Complex, Wholes, Texts, Flags, Readings, FlagReadings}
use Rattle.value_orders.specs.Held.{AscendByObject, ArePut, less_objects}
use Rattle.value_index.specs.inside.Leaving.{leaving_of}
use Rattle.value_orders.specs.Orders.{Orders, orders_of, in_order}
use Rattle.value_orders.proofs.KeyLaws.{ascend-seen}
use Rattle.value_index.proofs.MarkLaws.{held-atomic}
use Rattle.value_orders.proofs.OrderLaws.{ascend-in_order}
use Rattle.value_index.proofs.IndexLaws.{AreTaken, AreAllJoined, AreSeen, taken-seen, joined-seen, left-ascends, coming-ascends, coming-new, commit-less, commit-orders}
use Rattle.value_index.proofs.value_index.ValueIndex.commit.Goals as goal

pub change_values-requires-clause-gone : goal.change_values-requires-clause-gone
change_values-requires-clause-gone c =
    subst (λ (l : List (Oid × Value)). AscendByObject l) (sym c.into_values.ensures.values) c.into_values.ensures.sorted.objects_ascend

pub change_values-requires-clause-atomic : goal.change_values-requires-clause-atomic
change_values-requires-clause-atomic c =
    subst (λ (l : List (Oid × Value)). All (λ (o : Oid × Value). o.1 ≡ Complex → ⊥) l) (sym c.into_values.ensures.values)
    (held-atomic c.plan.inside.gone c.into_values.ensures.sorted)

pub put_into-requires : goal.put_into-requires
put_into-requires c =
    let at = c.self.inside in
    let old = orders_of at.values.items at.wholes.items at.chars.items at.flags.items at.readings.items at.flag_readings.items in
    let going = c.plan.inside.gone in
    let come = c.come.inside in
    let coming = orders_of come.values.items come.wholes.items come.chars.items come.flags.items come.readings.items come.flag_readings.items in
    let left = orders_of at.values.items c.take_from.new.order.items c.take_from-2.new.order.items c.take_from-3.new.order.items c.take_from-4.new.order.items
    c.take_from-5.new.order.items in
    let values_are = c.as_slice-old.ensures.value in
    let taken : AreTaken old going left = record {
      wholes = taken-seen Wholes _ _ _ _ _ _ values_are refl c.take_from.ensures.without;
      chars = taken-seen Texts _ _ _ _ _ _ values_are refl c.take_from-2.ensures.without;
      flags = taken-seen Flags _ _ _ _ _ _ values_are refl c.take_from-3.ensures.without;
      readings = taken-seen Readings _ _ _ _ _ _ values_are refl c.take_from-4.ensures.without;
      flag_readings = taken-seen FlagReadings _ _ _ _ _ _ values_are refl c.take_from-5.ensures.without;
    } in
    let seen : AreSeen old going coming c.args.self.now.entries c.args.plan.gone c.args.plan.come = record {
      old_sorted = c.self.invariant.sorted;
      going_sorted = c.into_values.ensures.sorted;
      coming_sorted = c.come.invariant;
      kept_is = ap (λ v. v.entries) c.self.view_is;
      gone_is = ap (λ v. v.gone) c.plan.view_is;
      come_is = ap in_order c.come.view_is ∙ ap (λ v. v.come) c.plan.view_is;
      fits = c.requires.fits;
    } in
    let now = c.change_values.new.values.items in
    let put = subst (λ (l : List (Oid × Value)). ArePut coming.values (less_objects (leaving_of coming.values left.wholes left.chars left.flags l) old.values) now)
    c.into_values.ensures.values c.change_values.ensures in
    record {
      objects = subst (λ (l : List (Oid × Value)). AscendByObject l) (sym c.as_slice-new.ensures.value) put.ascend;
      ascend = ascend-seen Wholes _ _ _ _ c.as_slice-new.ensures.value refl (left-ascends old going coming _ _ _ seen left taken now put Wholes);
      come = ascend-seen Wholes _ _ _ _ c.as_slice-new.ensures.value refl (coming-ascends old going coming _ _ _ seen left taken now put Wholes);
      new = coming-new old going coming _ _ _ seen left taken now put Wholes;
      room = omega (
        arith,
        c.requires.room.wholes,
        c.take_from.ensures.room,
        ap (λ v. v.room.wholes) c.self.view_is,
        ap (λ v. v.needs.wholes) c.plan.view_is,
        ap (λ (o : Orders). length o.wholes) c.come.view_is,
      );
    }

pub put_into-requires-2 : goal.put_into-requires-2
put_into-requires-2 c =
    let at = c.self.inside in
    let old = orders_of at.values.items at.wholes.items at.chars.items at.flags.items at.readings.items at.flag_readings.items in
    let going = c.plan.inside.gone in
    let come = c.come.inside in
    let coming = orders_of come.values.items come.wholes.items come.chars.items come.flags.items come.readings.items come.flag_readings.items in
    let left = orders_of at.values.items c.take_from.new.order.items c.take_from-2.new.order.items c.take_from-3.new.order.items c.take_from-4.new.order.items
    c.take_from-5.new.order.items in
    let values_are = c.as_slice-old.ensures.value in
    let taken : AreTaken old going left = record {
      wholes = taken-seen Wholes _ _ _ _ _ _ values_are refl c.take_from.ensures.without;
      chars = taken-seen Texts _ _ _ _ _ _ values_are refl c.take_from-2.ensures.without;
      flags = taken-seen Flags _ _ _ _ _ _ values_are refl c.take_from-3.ensures.without;
      readings = taken-seen Readings _ _ _ _ _ _ values_are refl c.take_from-4.ensures.without;
      flag_readings = taken-seen FlagReadings _ _ _ _ _ _ values_are refl c.take_from-5.ensures.without;
    } in
    let seen : AreSeen old going coming c.args.self.now.entries c.args.plan.gone c.args.plan.come = record {
      old_sorted = c.self.invariant.sorted;
      going_sorted = c.into_values.ensures.sorted;
      coming_sorted = c.come.invariant;
      kept_is = ap (λ v. v.entries) c.self.view_is;
      gone_is = ap (λ v. v.gone) c.plan.view_is;
      come_is = ap in_order c.come.view_is ∙ ap (λ v. v.come) c.plan.view_is;
      fits = c.requires.fits;
    } in
    let now = c.change_values.new.values.items in
    let put = subst (λ (l : List (Oid × Value)). ArePut coming.values (less_objects (leaving_of coming.values left.wholes left.chars left.flags l) old.values) now)
    c.into_values.ensures.values c.change_values.ensures in
    record {
      objects = subst (λ (l : List (Oid × Value)). AscendByObject l) (sym c.as_slice-new.ensures.value) put.ascend;
      ascend = ascend-seen Texts _ _ _ _ c.as_slice-new.ensures.value refl (left-ascends old going coming _ _ _ seen left taken now put Texts);
      come = ascend-seen Texts _ _ _ _ c.as_slice-new.ensures.value refl (coming-ascends old going coming _ _ _ seen left taken now put Texts);
      new = coming-new old going coming _ _ _ seen left taken now put Texts;
      room = omega (
        arith,
        c.requires.room.chars,
        c.take_from-2.ensures.room,
        ap (λ v. v.room.chars) c.self.view_is,
        ap (λ v. v.needs.chars) c.plan.view_is,
        ap (λ (o : Orders). length o.chars) c.come.view_is,
      );
    }

pub put_into-requires-3 : goal.put_into-requires-3
put_into-requires-3 c =
    let at = c.self.inside in
    let old = orders_of at.values.items at.wholes.items at.chars.items at.flags.items at.readings.items at.flag_readings.items in
    let going = c.plan.inside.gone in
    let come = c.come.inside in
    let coming = orders_of come.values.items come.wholes.items come.chars.items come.flags.items come.readings.items come.flag_readings.items in
    let left = orders_of at.values.items c.take_from.new.order.items c.take_from-2.new.order.items c.take_from-3.new.order.items c.take_from-4.new.order.items
    c.take_from-5.new.order.items in
    let values_are = c.as_slice-old.ensures.value in
    let taken : AreTaken old going left = record {
      wholes = taken-seen Wholes _ _ _ _ _ _ values_are refl c.take_from.ensures.without;
      chars = taken-seen Texts _ _ _ _ _ _ values_are refl c.take_from-2.ensures.without;
      flags = taken-seen Flags _ _ _ _ _ _ values_are refl c.take_from-3.ensures.without;
      readings = taken-seen Readings _ _ _ _ _ _ values_are refl c.take_from-4.ensures.without;
      flag_readings = taken-seen FlagReadings _ _ _ _ _ _ values_are refl c.take_from-5.ensures.without;
    } in
    let seen : AreSeen old going coming c.args.self.now.entries c.args.plan.gone c.args.plan.come = record {
      old_sorted = c.self.invariant.sorted;
      going_sorted = c.into_values.ensures.sorted;
      coming_sorted = c.come.invariant;
      kept_is = ap (λ v. v.entries) c.self.view_is;
      gone_is = ap (λ v. v.gone) c.plan.view_is;
      come_is = ap in_order c.come.view_is ∙ ap (λ v. v.come) c.plan.view_is;
      fits = c.requires.fits;
    } in
    let now = c.change_values.new.values.items in
    let put = subst (λ (l : List (Oid × Value)). ArePut coming.values (less_objects (leaving_of coming.values left.wholes left.chars left.flags l) old.values) now)
    c.into_values.ensures.values c.change_values.ensures in
    record {
      objects = subst (λ (l : List (Oid × Value)). AscendByObject l) (sym c.as_slice-new.ensures.value) put.ascend;
      ascend = ascend-seen Flags _ _ _ _ c.as_slice-new.ensures.value refl (left-ascends old going coming _ _ _ seen left taken now put Flags);
      come = ascend-seen Flags _ _ _ _ c.as_slice-new.ensures.value refl (coming-ascends old going coming _ _ _ seen left taken now put Flags);
      new = coming-new old going coming _ _ _ seen left taken now put Flags;
      room = omega (
        arith,
        c.requires.room.flags,
        c.take_from-3.ensures.room,
        ap (λ v. v.room.flags) c.self.view_is,
        ap (λ v. v.needs.flags) c.plan.view_is,
        ap (λ (o : Orders). length o.flags) c.come.view_is,
      );
    }

pub put_into-requires-4 : goal.put_into-requires-4
put_into-requires-4 c =
    let at = c.self.inside in
    let old = orders_of at.values.items at.wholes.items at.chars.items at.flags.items at.readings.items at.flag_readings.items in
    let going = c.plan.inside.gone in
    let come = c.come.inside in
    let coming = orders_of come.values.items come.wholes.items come.chars.items come.flags.items come.readings.items come.flag_readings.items in
    let left = orders_of at.values.items c.take_from.new.order.items c.take_from-2.new.order.items c.take_from-3.new.order.items c.take_from-4.new.order.items
    c.take_from-5.new.order.items in
    let values_are = c.as_slice-old.ensures.value in
    let taken : AreTaken old going left = record {
      wholes = taken-seen Wholes _ _ _ _ _ _ values_are refl c.take_from.ensures.without;
      chars = taken-seen Texts _ _ _ _ _ _ values_are refl c.take_from-2.ensures.without;
      flags = taken-seen Flags _ _ _ _ _ _ values_are refl c.take_from-3.ensures.without;
      readings = taken-seen Readings _ _ _ _ _ _ values_are refl c.take_from-4.ensures.without;
      flag_readings = taken-seen FlagReadings _ _ _ _ _ _ values_are refl c.take_from-5.ensures.without;
    } in
    let seen : AreSeen old going coming c.args.self.now.entries c.args.plan.gone c.args.plan.come = record {
      old_sorted = c.self.invariant.sorted;
      going_sorted = c.into_values.ensures.sorted;
      coming_sorted = c.come.invariant;
      kept_is = ap (λ v. v.entries) c.self.view_is;
      gone_is = ap (λ v. v.gone) c.plan.view_is;
      come_is = ap in_order c.come.view_is ∙ ap (λ v. v.come) c.plan.view_is;
      fits = c.requires.fits;
    } in
    let now = c.change_values.new.values.items in
    let put = subst (λ (l : List (Oid × Value)). ArePut coming.values (less_objects (leaving_of coming.values left.wholes left.chars left.flags l) old.values) now)
    c.into_values.ensures.values c.change_values.ensures in
    record {
      objects = subst (λ (l : List (Oid × Value)). AscendByObject l) (sym c.as_slice-new.ensures.value) put.ascend;
      ascend = ascend-seen Readings _ _ _ _ c.as_slice-new.ensures.value refl (left-ascends old going coming _ _ _ seen left taken now put Readings);
      come = ascend-seen Readings _ _ _ _ c.as_slice-new.ensures.value refl (coming-ascends old going coming _ _ _ seen left taken now put Readings);
      new = coming-new old going coming _ _ _ seen left taken now put Readings;
      room = omega (
        arith,
        c.requires.room.readings,
        c.take_from-4.ensures.room,
        ap (λ v. v.room.readings) c.self.view_is,
        ap (λ v. v.needs.readings) c.plan.view_is,
        ap (λ (o : Orders). length o.readings) c.come.view_is,
      );
    }

pub put_into-requires-5 : goal.put_into-requires-5
put_into-requires-5 c =
    let at = c.self.inside in
    let old = orders_of at.values.items at.wholes.items at.chars.items at.flags.items at.readings.items at.flag_readings.items in
    let going = c.plan.inside.gone in
    let come = c.come.inside in
    let coming = orders_of come.values.items come.wholes.items come.chars.items come.flags.items come.readings.items come.flag_readings.items in
    let left = orders_of at.values.items c.take_from.new.order.items c.take_from-2.new.order.items c.take_from-3.new.order.items c.take_from-4.new.order.items
    c.take_from-5.new.order.items in
    let values_are = c.as_slice-old.ensures.value in
    let taken : AreTaken old going left = record {
      wholes = taken-seen Wholes _ _ _ _ _ _ values_are refl c.take_from.ensures.without;
      chars = taken-seen Texts _ _ _ _ _ _ values_are refl c.take_from-2.ensures.without;
      flags = taken-seen Flags _ _ _ _ _ _ values_are refl c.take_from-3.ensures.without;
      readings = taken-seen Readings _ _ _ _ _ _ values_are refl c.take_from-4.ensures.without;
      flag_readings = taken-seen FlagReadings _ _ _ _ _ _ values_are refl c.take_from-5.ensures.without;
    } in
    let seen : AreSeen old going coming c.args.self.now.entries c.args.plan.gone c.args.plan.come = record {
      old_sorted = c.self.invariant.sorted;
      going_sorted = c.into_values.ensures.sorted;
      coming_sorted = c.come.invariant;
      kept_is = ap (λ v. v.entries) c.self.view_is;
      gone_is = ap (λ v. v.gone) c.plan.view_is;
      come_is = ap in_order c.come.view_is ∙ ap (λ v. v.come) c.plan.view_is;
      fits = c.requires.fits;
    } in
    let now = c.change_values.new.values.items in
    let put = subst (λ (l : List (Oid × Value)). ArePut coming.values (less_objects (leaving_of coming.values left.wholes left.chars left.flags l) old.values) now)
    c.into_values.ensures.values c.change_values.ensures in
    record {
      objects = subst (λ (l : List (Oid × Value)). AscendByObject l) (sym c.as_slice-new.ensures.value) put.ascend;
      ascend = ascend-seen FlagReadings _ _ _ _ c.as_slice-new.ensures.value refl (left-ascends old going coming _ _ _ seen left taken now put FlagReadings);
      come = ascend-seen FlagReadings _ _ _ _ c.as_slice-new.ensures.value refl (coming-ascends old going coming _ _ _ seen left taken now put FlagReadings);
      new = coming-new old going coming _ _ _ seen left taken now put FlagReadings;
      room = omega (
        arith,
        c.requires.room.flag_readings,
        c.take_from-5.ensures.room,
        ap (λ v. v.room.flag_readings) c.self.view_is,
        ap (λ v. v.needs.flag_readings) c.plan.view_is,
        ap (λ (o : Orders). length o.flag_readings) c.come.view_is,
      );
    }

pub invariant_of-self : goal.invariant_of-self
invariant_of-self c =
    let at = c.self.inside in
    let old = orders_of at.values.items at.wholes.items at.chars.items at.flags.items at.readings.items at.flag_readings.items in
    let going = c.plan.inside.gone in
    let come = c.come.inside in
    let coming = orders_of come.values.items come.wholes.items come.chars.items come.flags.items come.readings.items come.flag_readings.items in
    let left = orders_of at.values.items c.take_from.new.order.items c.take_from-2.new.order.items c.take_from-3.new.order.items c.take_from-4.new.order.items
    c.take_from-5.new.order.items in
    let values_are = c.as_slice-old.ensures.value in
    let taken : AreTaken old going left = record {
      wholes = taken-seen Wholes _ _ _ _ _ _ values_are refl c.take_from.ensures.without;
      chars = taken-seen Texts _ _ _ _ _ _ values_are refl c.take_from-2.ensures.without;
      flags = taken-seen Flags _ _ _ _ _ _ values_are refl c.take_from-3.ensures.without;
      readings = taken-seen Readings _ _ _ _ _ _ values_are refl c.take_from-4.ensures.without;
      flag_readings = taken-seen FlagReadings _ _ _ _ _ _ values_are refl c.take_from-5.ensures.without;
    } in
    let seen : AreSeen old going coming c.args.self.now.entries c.args.plan.gone c.args.plan.come = record {
      old_sorted = c.self.invariant.sorted;
      going_sorted = c.into_values.ensures.sorted;
      coming_sorted = c.come.invariant;
      kept_is = ap (λ v. v.entries) c.self.view_is;
      gone_is = ap (λ v. v.gone) c.plan.view_is;
      come_is = ap in_order c.come.view_is ∙ ap (λ v. v.come) c.plan.view_is;
      fits = c.requires.fits;
    } in
    let now = c.change_values.new.values.items in
    let put = subst (λ (l : List (Oid × Value)). ArePut coming.values (less_objects (leaving_of coming.values left.wholes left.chars left.flags l) old.values) now)
    c.into_values.ensures.values c.change_values.ensures in
    let after : AreAllJoined left coming (orders_of now c.put_into.new.order.items c.put_into-2.new.order.items c.put_into-3.new.order.items
    c.put_into-4.new.order.items c.put_into-5.new.order.items) = record {
      wholes = joined-seen Wholes _ _ _ _ _ c.as_slice-new.ensures.value c.put_into.ensures;
      chars = joined-seen Texts _ _ _ _ _ c.as_slice-new.ensures.value c.put_into-2.ensures;
      flags = joined-seen Flags _ _ _ _ _ c.as_slice-new.ensures.value c.put_into-3.ensures;
      readings = joined-seen Readings _ _ _ _ _ c.as_slice-new.ensures.value c.put_into-4.ensures;
      flag_readings = joined-seen FlagReadings _ _ _ _ _ c.as_slice-new.ensures.value c.put_into-5.ensures;
    } in
    commit-orders old going coming _ _ _ seen left taken now put c.put_into.new.order.items c.put_into-2.new.order.items c.put_into-3.new.order.items c.put_into-4.new.order.items
    c.put_into-5.new.order.items after

pub returns-clause-ascend : goal.returns-clause-ascend
returns-clause-ascend c = ascend-in_order (orders_of c.change_values.new.values.items c.put_into.new.order.items c.put_into-2.new.order.items c.put_into-3.new.order.items c.put_into-4.new.order.items
    c.put_into-5.new.order.items)

pub returns-clause-entries : goal.returns-clause-entries
returns-clause-entries c =
    let at = c.self.inside in
    let old = orders_of at.values.items at.wholes.items at.chars.items at.flags.items at.readings.items at.flag_readings.items in
    let going = c.plan.inside.gone in
    let come = c.come.inside in
    let coming = orders_of come.values.items come.wholes.items come.chars.items come.flags.items come.readings.items come.flag_readings.items in
    let left = orders_of at.values.items c.take_from.new.order.items c.take_from-2.new.order.items c.take_from-3.new.order.items c.take_from-4.new.order.items
    c.take_from-5.new.order.items in
    let values_are = c.as_slice-old.ensures.value in
    let taken : AreTaken old going left = record {
      wholes = taken-seen Wholes _ _ _ _ _ _ values_are refl c.take_from.ensures.without;
      chars = taken-seen Texts _ _ _ _ _ _ values_are refl c.take_from-2.ensures.without;
      flags = taken-seen Flags _ _ _ _ _ _ values_are refl c.take_from-3.ensures.without;
      readings = taken-seen Readings _ _ _ _ _ _ values_are refl c.take_from-4.ensures.without;
      flag_readings = taken-seen FlagReadings _ _ _ _ _ _ values_are refl c.take_from-5.ensures.without;
    } in
    let seen : AreSeen old going coming c.args.self.now.entries c.args.plan.gone c.args.plan.come = record {
      old_sorted = c.self.invariant.sorted;
      going_sorted = c.into_values.ensures.sorted;
      coming_sorted = c.come.invariant;
      kept_is = ap (λ v. v.entries) c.self.view_is;
      gone_is = ap (λ v. v.gone) c.plan.view_is;
      come_is = ap in_order c.come.view_is ∙ ap (λ v. v.come) c.plan.view_is;
      fits = c.requires.fits;
    } in
    let now = c.change_values.new.values.items in
    let put = subst (λ (l : List (Oid × Value)). ArePut coming.values (less_objects (leaving_of coming.values left.wholes left.chars left.flags l) old.values) now)
    c.into_values.ensures.values c.change_values.ensures in
    let after : AreAllJoined left coming (orders_of now c.put_into.new.order.items c.put_into-2.new.order.items c.put_into-3.new.order.items
    c.put_into-4.new.order.items c.put_into-5.new.order.items) = record {
      wholes = joined-seen Wholes _ _ _ _ _ c.as_slice-new.ensures.value c.put_into.ensures;
      chars = joined-seen Texts _ _ _ _ _ c.as_slice-new.ensures.value c.put_into-2.ensures;
      flags = joined-seen Flags _ _ _ _ _ c.as_slice-new.ensures.value c.put_into-3.ensures;
      readings = joined-seen Readings _ _ _ _ _ c.as_slice-new.ensures.value c.put_into-4.ensures;
      flag_readings = joined-seen FlagReadings _ _ _ _ _ c.as_slice-new.ensures.value c.put_into-5.ensures;
    } in
    commit-less old going coming _ _ _ seen left taken now put c.put_into.new.order.items c.put_into-2.new.order.items c.put_into-3.new.order.items c.put_into-4.new.order.items
    c.put_into-5.new.order.items after
