use Rattle.std.proofs.Common.{◌∙◌, ◌+◌, ◌<◌, ap, sym, subst, arith, List}
use Rattle.lore_base.specs.Names.{IsNameTable}
use Rattle.lore_base.specs.Walks.{edge_cmp}
use Rattle.lore_base.specs.Deltas.{IsDelta, ListsOnlyIn}
use Rattle.doem_history.specs.Types.{Delta}
use Rattle.doem_history.specs.Facts.{name_order, object_order}
use Rattle.doem_history.specs.inside.FactLaws.{name_total, object_total, edge_total}
use Rattle.doem_history.specs.Moments.{graph_of}
use Rattle.doem_history.specs.Histories.{KeptHistory, facts_at, ordered, moment_at}
use Rattle.doem_history.specs.inside.Kept.{AreFacts}
use Rattle.doem_history.proofs.DeltaLaws.{names_table, objects_rise}
use Rattle.doem_history.proofs.ViewLaws.{only_told}
use Rattle.doem_history.proofs.history.History.between.Goals as goal

pub differing-requires-clause-facts : goal.differing-requires-clause-facts
differing-requires-clause-facts c = subst (λ k. AreFacts name_order k c.self.inside.names.runs) (sym c.self.invariant.names.count) c.self.invariant.names.facts

pub differing-requires-2-clause-facts : goal.differing-requires-2-clause-facts
differing-requires-2-clause-facts c = subst (λ k. AreFacts object_order k c.self.inside.objects.runs) (sym c.self.invariant.objects.count) c.self.invariant.objects.facts

pub name_table-requires : goal.name_table-requires
name_table-requires c = subst IsNameTable (sym c.as_slice.ensures) (names_table c.in_ok-names.names.gone c.in_ok-names.ensures.ascend.0)

pub name_table-requires-2 : goal.name_table-requires-2
name_table-requires-2 c = subst IsNameTable (sym c.as_slice-2.ensures) (names_table c.in_ok-names.names.come c.in_ok-names.ensures.ascend.1)

pub returns : goal.returns
returns c =
    let last = ap (λ (h : KeptHistory). h.last) c.self.view_is in
    let order = c.requires.order in let within = c.requires.last in
    let moments = c.self.inside.last + 1 in
    let in_i : c.args.i < moments = omega arith in
    let in_j : c.args.j < moments = omega arith in
    let gone_is = c.in_ok-names_gone.ensures ∙ c.as_slice.ensures in
    let come_is = c.in_ok-names_come.ensures ∙ c.as_slice-2.ensures in
    let d : Delta = record { names_gone = c.in_ok-names_gone.names_gone; names_come = c.in_ok-names_come.names_come; objects_gone = c.in_ok-objects.objects.gone; objects_come = c.in_ok-objects.objects.come; edges_gone = c.in_ok-edges.edges.gone; edges_come = c.in_ok-edges.edges.come } in
    subst (λ (h : KeptHistory). IsDelta (graph_of (moment_at h c.args.i)) (graph_of (moment_at h c.args.j)) d) c.self.view_is (record {
      names_gone = subst (λ (l : List _). ListsOnlyIn l (ordered name_order (facts_at c.args.i c.self.inside.names.runs)) (ordered name_order (facts_at c.args.j c.self.inside.names.runs))) (sym gone_is)
          (only_told name_order name_total moments c.args.i c.args.j c.self.inside.names.runs c.in_ok-names.names.gone c.self.invariant.names.facts in_i in_j c.in_ok-names.ensures.gone);
      names_come = subst (λ (l : List _). ListsOnlyIn l (ordered name_order (facts_at c.args.j c.self.inside.names.runs)) (ordered name_order (facts_at c.args.i c.self.inside.names.runs))) (sym come_is)
          (only_told name_order name_total moments c.args.j c.args.i c.self.inside.names.runs c.in_ok-names.names.come c.self.invariant.names.facts in_j in_i c.in_ok-names.ensures.come);
      objects_gone = (only_told object_order object_total moments c.args.i c.args.j c.self.inside.objects.runs c.in_ok-objects.objects.gone c.self.invariant.objects.facts in_i in_j c.in_ok-objects.ensures.gone);
      objects_come = (only_told object_order object_total moments c.args.j c.args.i c.self.inside.objects.runs c.in_ok-objects.objects.come c.self.invariant.objects.facts in_j in_i c.in_ok-objects.ensures.come);
      edges_gone = (only_told edge_cmp edge_total moments c.args.i c.args.j c.self.inside.edges.runs c.in_ok-edges.edges.gone c.self.invariant.edges.facts in_i in_j c.in_ok-edges.ensures.gone);
      edges_come = (only_told edge_cmp edge_total moments c.args.j c.args.i c.self.inside.edges.runs c.in_ok-edges.edges.come c.self.invariant.edges.facts in_j in_i c.in_ok-edges.ensures.come);
      names_ascend = (subst IsNameTable (sym gone_is) (names_table c.in_ok-names.names.gone c.in_ok-names.ensures.ascend.0), subst IsNameTable (sym come_is) (names_table c.in_ok-names.names.come c.in_ok-names.ensures.ascend.1));
      objects_ascend = (objects_rise c.in_ok-objects.objects.gone c.in_ok-objects.ensures.ascend.0, objects_rise c.in_ok-objects.objects.come c.in_ok-objects.ensures.ascend.1);
      edges_ascend = (c.in_ok-edges.ensures.ascend.0, c.in_ok-edges.ensures.ascend.1);
    })
