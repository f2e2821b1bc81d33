use Rattle.std.proofs.Common.{List, subst, sym, ap, ◌∙◌, arith}
use Rattle.value_index.specs.Types.{Oid, Value, Wholes, Texts, Flags}
use Rattle.value_orders.specs.Held.{AscendByObject, ArePut, less_objects}
use Rattle.value_index.specs.inside.Leaving.{leaving_of}
use Rattle.value_orders.proofs.KeyLaws.{ascend-seen}
use Rattle.value_orders.proofs.HeldLaws.{less-ascend}
use Rattle.value_index.proofs.ChangeLaws.{leaving-ascends}
use Rattle.value_index.proofs.IndexLaws.{put-seen}
use Rattle.value_index.proofs.leaving.change_values.Goals as goal

pub leaving_objects-leaving-requires-clause-wholes : goal.leaving_objects-leaving-requires-clause-wholes
leaving_objects-leaving-requires-clause-wholes c = ascend-seen Wholes _ _ _ _ c.as_slice-2.ensures.value c.as_slice-wholes.ensures c.requires.wholes

pub leaving_objects-leaving-requires-clause-chars : goal.leaving_objects-leaving-requires-clause-chars
leaving_objects-leaving-requires-clause-chars c = ascend-seen Texts _ _ _ _ c.as_slice-2.ensures.value c.as_slice-chars.ensures c.requires.chars

pub leaving_objects-leaving-requires-clause-flags : goal.leaving_objects-leaving-requires-clause-flags
leaving_objects-leaving-requires-clause-flags c = ascend-seen Flags _ _ _ _ c.as_slice-2.ensures.value c.as_slice-flags.ensures c.requires.flags

pub drop_values-requires-clause-leaving : goal.drop_values-requires-clause-leaving
drop_values-requires-clause-leaving c =
    subst (λ (l : List (Oid × Value)). AscendByObject l) (sym (c.as_slice-3.ensures.value ∙ c.leaving_objects-leaving.ensures))
    (leaving-ascends _ _ _ _ _ c.requires.gone)

pub put_values-requires-clause-ascend : goal.put_values-requires-clause-ascend
put_values-requires-clause-ascend c =
    subst (λ (l : List (Oid × Value)). AscendByObject l) (sym c.drop_values.ensures.values) (less-ascend _ _ c.requires.objects)

pub put_values-requires-clause-room : goal.put_values-requires-clause-room
put_values-requires-clause-room c = omega (arith, c.drop_values.ensures.few, c.drop_values.ensures.capacity, c.requires.room)

pub returns : goal.returns
returns c =
    let leaves = c.as_slice-3.ensures.value ∙ c.leaving_objects-leaving.ensures
    ∙ ap (λ (l : List (Oid × Value)). leaving_of l c.as_slice-wholes.result.now c.as_slice-chars.result.now c.as_slice-flags.result.now c.args.gone.items) c.as_slice.ensures.value in
    let left = c.drop_values.ensures.values ∙ ap (λ (l : List (Oid × Value)). less_objects l c.args.values.now.items) leaves in
    put-seen _ _ _ _ _ _ _ _ _ _ c.as_slice-wholes.ensures c.as_slice-chars.ensures c.as_slice-flags.ensures
    (subst (λ (l : List (Oid × Value)). ArePut c.args.come.items l c.put_values.new.values.items) left c.put_values.ensures.put)
