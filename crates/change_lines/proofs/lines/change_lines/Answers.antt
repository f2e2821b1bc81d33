use Rattle.std.proofs.Common.{◌≡◌, Less, List, sym, ◌∙◌, ap, subst}
use Rattle.std.specs.Prelude.{ℕ, AllPairs, codes, decimal}
use Rattle.std.specs.declared.cmp.Ordering.{Ordering}
use Rattle.lore_base.specs.Walks.{edge_cmp}
use Rattle.dump_text.specs.Dumps.{line_of}
use Rattle.doem_history.specs.Facts.{name_order, object_order}
use Rattle.doem_history.proofs.DeltaLaws.{names_ascend, objects_ascend}
use Rattle.change_lines.proofs.LineLaws.{lines_put, merged_from}
use Rattle.change_lines.proofs.lines.change_lines.Goals as goal

abbrev Rises : {F : Type 0} → (F → F → Ordering) → List F → Type 0
Rises order facts = AllPairs (λ a b. order a b ≡ Less) facts

pub put_changes-requires-clause-gone : goal.put_changes-requires-clause-gone
put_changes-requires-clause-gone c =
    let delta = c.args.delta.now in
    subst (Rises name_order) (sym (c.as_slice.ensures.value ∙ c.in_ok-gone.ensures)) (names_ascend delta.names_gone c.requires.2.names_ascend.0)

pub put_changes-requires-clause-come : goal.put_changes-requires-clause-come
put_changes-requires-clause-come c =
    let delta = c.args.delta.now in
    subst (Rises name_order) (sym (c.as_slice-2.ensures.value ∙ c.in_ok-come.ensures)) (names_ascend delta.names_come c.requires.2.names_ascend.1)

pub put_changes-requires-2-clause-gone : goal.put_changes-requires-2-clause-gone
put_changes-requires-2-clause-gone c =
    let delta = c.args.delta.now in
    subst (Rises object_order) (sym c.as_slice-gone.ensures) (objects_ascend delta.objects_gone c.requires.2.objects_ascend.0)

pub put_changes-requires-2-clause-come : goal.put_changes-requires-2-clause-come
put_changes-requires-2-clause-come c =
    let delta = c.args.delta.now in
    subst (Rises object_order) (sym c.as_slice-come.ensures) (objects_ascend delta.objects_come c.requires.2.objects_ascend.1)

pub put_changes-requires-3-clause-gone : goal.put_changes-requires-3-clause-gone
put_changes-requires-3-clause-gone c = subst (Rises edge_cmp) (sym c.as_slice-gone-2.ensures) c.requires.2.edges_ascend.0

pub put_changes-requires-3-clause-come : goal.put_changes-requires-3-clause-come
put_changes-requires-3-clause-come c = subst (Rises edge_cmp) (sym c.as_slice-come-2.ensures) c.requires.2.edges_ascend.1

pub returns : goal.returns
returns c = λ before after differ.
    let delta = c.args.delta.now in
    let names = c.in_ok-put_changes.ensures in
    let objects = c.in_ok-put_changes-2.ensures in
    let edges = c.in_ok-put_changes-3.ensures in
    lines_put c.args.labels.now before after delta differ names.0 objects.0 edges.0
    (merged_from name_order delta.names_gone delta.names_come c.as_slice.result.now c.as_slice-2.result.now names.0
    (c.as_slice.ensures.value ∙ c.in_ok-gone.ensures) (c.as_slice-2.ensures.value ∙ c.in_ok-come.ensures) names.1)
    (merged_from object_order delta.objects_gone delta.objects_come c.as_slice-gone.result.now c.as_slice-come.result.now objects.0
    c.as_slice-gone.ensures c.as_slice-come.ensures objects.1)
    (merged_from edge_cmp delta.edges_gone delta.edges_come c.as_slice-gone-2.result.now c.as_slice-come-2.result.now edges.0
    c.as_slice-gone-2.ensures c.as_slice-come-2.ensures edges.1)
    c.new-lines.result c.put_changes.new.lines c.put_changes-2.new.lines c.put_changes-3.new.lines c.push.new.self c.in_ok-count_line.field-0
    c.new-lines.ensures names.2 objects.2 edges.2
    (c.in_ok-count_line.ensures ∙ ap (λ (k : ℕ). line_of (codes "changes") (decimal k)) c.len.ensures) c.in_ok-push.ensures.ok
