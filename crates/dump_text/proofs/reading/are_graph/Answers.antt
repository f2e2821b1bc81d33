use Rattle.std.proofs.Common.{true≢false, sym, subst, ◌∙◌}
use Rattle.std.proofs.lemmas.Result.{IfOk-weaker}
use Rattle.lore_base.specs.Databases.{AreAscendingEdges}
use Rattle.dump_text.specs.inside.RuleParts.{IsGraph}
use Rattle.dump_text.proofs.ListLaws.{told_false}
use Rattle.dump_text.proofs.RuleLaws.{linked_there, graph_told}
use Rattle.dump_text.proofs.reading.are_graph.Goals as goal

pub returns-then-not-are_ascending_edges : goal.returns-then-not-are_ascending_edges
returns-then-not-are_ascending_edges c =
    told_false (λ (graph : IsGraph c.args.tree.now). true≢false
    (sym (c.are_ascending_edges.ensures.1 (subst AreAscendingEdges (sym c.requires.edges) graph.edges)) ∙ c.if-not-are_ascending_edges.true))

pub returns-then-not-are_linked : goal.returns-then-not-are_linked
returns-then-not-are_linked c =
    told_false (λ (graph : IsGraph c.args.tree.now). true≢false
    (sym (c.are_linked.ensures.1 (linked_there c.args.tree.now c.as_slice-names.result.now c.as_slice-objects.result.now c.args.edges.now
    c.as_slice-names.ensures c.as_slice-objects.ensures c.requires.edges graph.linked)) ∙ c.if-not-are_linked.true))

pub are_reached-requires-clause-linked : goal.are_reached-requires-clause-linked
are_reached-requires-clause-linked c = c.are_linked.ensures.0 c.if-not-are_linked.false

pub returns : goal.returns
returns c =
    IfOk-weaker c.are_reached.result _ _
    (λ good tells. graph_told c.args.tree.now c.as_slice-names.result.now c.as_slice-objects.result.now c.args.edges.now c.as_slice-names.ensures
    c.as_slice-objects.ensures c.requires.edges (c.are_ascending_edges.ensures.0 c.if-not-are_ascending_edges.false)
    (c.are_linked.ensures.0 c.if-not-are_linked.false) good tells)
    c.are_reached.ensures
