use Rattle.std.proofs.Common.{List, ◌||◌, not, rules, map, subst, sym, ap, ◌∙◌}
use Rattle.std.specs.Prelude.{filter}
use Rattle.std.proofs.lemmas.Fn.{filter_same}
use Rattle.value_index.specs.Types.{Oid, Value, Wholes, Texts, Flags}
use Rattle.value_orders.specs.Held.{AscendByObject, has_value}
use Rattle.value_index.specs.inside.Marks.{is_complex, marked_by}
use Rattle.value_index.proofs.MarkLaws.{marked-ascend, marked-leave}
use Rattle.value_index.proofs.leaving.many_leaving.Goals as goal

pub mark_named-requires-2 : goal.mark_named-requires-2
mark_named-requires-2 c =
    subst (λ (l : List (Oid × Value)). AscendByObject l) (sym c.mark_named.ensures) (marked-ascend Wholes c.args.wholes.now c.args.gone.items c.requires.gone)

pub mark_named-requires-3 : goal.mark_named-requires-3
mark_named-requires-3 c =
    subst (λ (l : List (Oid × Value)). AscendByObject l) (sym (c.mark_named-2.ensures ∙ ap (map (marked_by Texts c.args.chars.now)) c.mark_named.ensures))
    (marked-ascend Texts c.args.chars.now _ (marked-ascend Wholes c.args.wholes.now c.args.gone.items c.requires.gone))

pub returns : goal.returns
returns c =
    let marks = c.mark_named-3.ensures ∙ ap (map (marked_by Flags c.args.flags.now)) (c.mark_named-2.ensures ∙ ap (map (marked_by Texts c.args.chars.now)) c.mark_named.ensures) in
    filter_same _ (λ object. not (is_complex object.1 || has_value c.args.come.now object.0)) _ (λ x b q k. search rules) _ _ c.retain.ensures.filtered
    ∙ ap (filter (λ (object : Oid × Value). not (is_complex object.1 || has_value c.args.come.now object.0))) marks
    ∙ marked-leave c.args.come.now c.args.wholes.now c.args.chars.now c.args.flags.now c.args.gone.items c.requires.atomic
