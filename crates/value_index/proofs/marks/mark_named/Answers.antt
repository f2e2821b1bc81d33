use Rattle.std.proofs.Common.{List, get_or, map, sym, ap, subst, ◌∙◌, arith}
use Rattle.std.proofs.lemmas.List.{take_all, take_more}
use Rattle.value_index.specs.Types.{Oid, Value, Entry}
use Rattle.value_orders.specs.Held.{AscendByObject}
use Rattle.value_index.specs.inside.Marks.{marked, marked_by}
use Rattle.value_index.proofs.MarkLaws.{marked-none, marked-more, marked-ascend}
use Rattle.value_index.proofs.marks.mark_named.Goals as goal

pub entries-init : goal.entries-init
entries-init c = marked-none c.args.kind c.args.objects.now.items

pub mark-requires : goal.mark-requires
mark-requires c =
    subst (λ (l : List (Oid × Value)). AscendByObject l) (sym c.entries.invariant) (marked-ascend c.args.kind _ c.args.objects.now.items c.requires)

pub entries-preserved : goal.entries-preserved
entries-preserved c =
    let entry = get_or c.args.entries.now c.entries.entry-index (record { label = record { 0 = 0 }; object = record { 0 = 0 } }) in
    c.mark.ensures ∙ ap (map (marked c.args.kind entry.object)) c.entries.invariant ∙ marked-more c.args.kind _ entry c.args.objects.now.items
    ∙ ap (λ (l : List Entry). map (marked_by c.args.kind l) c.args.objects.now.items) (sym (take_more c.args.entries.now c.entries.entry-index _ c.entries-test.true))

pub returns : goal.returns
returns c =
    c.entries.invariant
    ∙ ap (λ (l : List Entry). map (marked_by c.args.kind l) c.args.objects.now.items) (take_all c.entries.entry-index c.args.entries.now (omega (arith, c.entries-test.false)))
