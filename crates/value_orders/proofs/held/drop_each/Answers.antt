use Rattle.std.proofs.Common.{List, refl, sym, ap, subst, ◌∙◌, arith}
use Rattle.std.proofs.lemmas.List.{take_all}
use Rattle.list_laws.proofs.PartLaws.{take_more_read}
use Rattle.value_orders.specs.Types.{Oid, Value}
use Rattle.value_orders.specs.Held.{AscendByObject, less_objects}
use Rattle.value_orders.specs.inside.Puts.{less_object}
use Rattle.value_orders.proofs.HeldLaws.{less-none, less-ascend}
use Rattle.value_orders.proofs.DropLaws.{less-more}
use Rattle.value_orders.proofs.held.drop_each.Goals as goal

pub leaving-init : goal.leaving-init
leaving-init c = record {
  less = sym (less-none c.args.values.now.items);
  few = omega arith;
  capacity = refl;
}

pub drop_value-requires : goal.drop_value-requires
drop_value-requires c =
    subst (λ (l : List (Oid × Value)). AscendByObject l) (sym c.leaving.invariant.less) (less-ascend _ c.args.values.now.items c.requires)

pub leaving-preserved : goal.leaving-preserved
leaving-preserved c = record {
  less = c.drop_value.ensures.values ∙ ap (less_object c.object-item.result.0) c.leaving.invariant.less ∙ less-more _ c.object-item.result c.args.values.now.items
      ∙ ap (λ (l : List (Oid × Value)). less_objects l c.args.values.now.items) (sym (take_more_read _ _ c.object-item.result c.leaving-test.true c.object-item.is));
  few = omega (arith, c.drop_value.ensures.few, c.leaving.invariant.few);
  capacity = c.drop_value.ensures.capacity ∙ c.leaving.invariant.capacity;
}

pub returns-clause-values : goal.returns-clause-values
returns-clause-values c =
    c.leaving.invariant.less ∙ ap (λ (l : List (Oid × Value)). less_objects l c.args.values.now.items) (take_all c.leaving.object-index c.args.leaving.now (omega (arith, c.leaving-test.false)))
