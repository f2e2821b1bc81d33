use Rattle.std.proofs.Common.{sym, ◌∙◌}
use Rattle.oem_graph.specs.Plans.{graph_then}
use Rattle.value_changes.specs.EntryChanges.{AreEntryChanges}
use Rattle.lore_store.specs.Indexes.{state_of}
use Rattle.lore_store.proofs.IndexLaws.{IsFound, gone_kept, come_new, keeps_value, found_changes, fits_entries, links_same}
use Rattle.lore_store.proofs.indexes.planned_indexes.Goals as goal

pub prepare-requires : goal.prepare-requires
prepare-requires g c =
    let graph = c.args.graph.now.graph in
    let then = graph_then graph c.args.plan.now in
    let links = c.args.links.now.links in
    let delta = c.args.plan.now.delta in
    rw c.delta-delta.ensures (record {
      removed = c.requires.delta.edges_ascend.0;
      kept = gone_kept graph.edges then.edges links delta.edges_gone c.requires.kept.links c.requires.delta.edges_gone;
      added = c.requires.delta.edges_ascend.1;
      new = come_new graph.edges then.edges links delta.edges_come c.requires.kept.links c.requires.delta.edges_come;
    })

pub then-then-requires-clause-objects : goal.then-then-requires-clause-objects
then-then-requires-clause-objects g c = c.requires.then.well_formed.ordered.objects_ascend

pub then-then-requires-clause-edges : goal.then-then-requires-clause-edges
then-then-requires-clause-edges g c = c.requires.then.well_formed.ordered.edges_ascend

pub prepare-requires-2 : goal.prepare-requires-2
prepare-requires-2 g c =
    let graph = c.args.graph.now.graph in
    let then = graph_then graph c.args.plan.now in
    let delta = c.args.plan.now.delta in
    let gone = c.in_ok-entries.entries.gone in
    let come = c.in_ok-entries.entries.come in
    let found : IsFound graph then c.args.overlay.now.edges c.args.overlay.now.fresh delta.edges_gone delta.edges_come delta.objects_come gone come =
    λ old new objects is settled settled_then differ read. c.in_ok-entries.ensures.entries old new objects (is ∙ sym c.then-then.ensures.objects) settled settled_then
    (rw (c.as_slice.ensures, c.as_slice-2.ensures, c.as_slice-3.ensures, c.delta-delta.ensures) differ)
    (rw (c.as_slice.ensures, c.as_slice-4.ensures, c.fresh.ensures, c.delta-delta.ensures) read) in
    record {
      fits = fits_entries graph then c.requires.then c.requires.few c.args.values.now.entries gone come c.requires.kept.values
          (found_changes graph then c.args.overlay.now.edges c.args.overlay.now.fresh delta.edges_gone delta.edges_come delta.objects_come c.requires.rooted c.requires.then
          c.requires.delta.edges_gone c.requires.delta.edges_come (keeps_value graph then delta.objects_come c.requires.rooted c.requires.delta.objects_come)
          c.requires.read gone come found);
    }

pub returns-clause-entries : goal.returns-clause-entries
returns-clause-entries g c =
    let graph = c.args.graph.now.graph in
    let then = graph_then graph c.args.plan.now in
    let delta = c.args.plan.now.delta in
    let gone = c.in_ok-entries.entries.gone in
    let come = c.in_ok-entries.entries.come in
    let found : IsFound graph then c.args.overlay.now.edges c.args.overlay.now.fresh delta.edges_gone delta.edges_come delta.objects_come gone come =
    λ old new objects is settled settled_then differ read. c.in_ok-entries.ensures.entries old new objects (is ∙ sym c.then-then.ensures.objects) settled settled_then
    (rw (c.as_slice.ensures, c.as_slice-2.ensures, c.as_slice-3.ensures, c.delta-delta.ensures) differ)
    (rw (c.as_slice.ensures, c.as_slice-4.ensures, c.fresh.ensures, c.delta-delta.ensures) read) in
    let changes =
    found_changes graph then c.args.overlay.now.edges c.args.overlay.now.fresh delta.edges_gone delta.edges_come delta.objects_come c.requires.rooted c.requires.then
    c.requires.delta.edges_gone c.requires.delta.edges_come (keeps_value graph then delta.objects_come c.requires.rooted c.requires.delta.objects_come)
    c.requires.read gone come found in
    let entries : AreEntryChanges (state_of graph) (state_of then) c.in_ok-values_then.values_then.gone c.in_ok-values_then.values_then.come =
    rw (c.in_ok-values_then.ensures.gone, c.in_ok-values_then.ensures.come) changes in
    record {
      gone = links_same graph.edges then.edges c.in_ok-links_then.links_then.gone delta.edges_gone (rw c.delta-delta.ensures at c.in_ok-links_then.ensures.gone) c.requires.delta.edges_gone;
      come = links_same then.edges graph.edges c.in_ok-links_then.links_then.come delta.edges_come (rw c.delta-delta.ensures at c.in_ok-links_then.ensures.come) c.requires.delta.edges_come;
      values = entries;
    }

pub returns-clause-reads : goal.returns-clause-reads
returns-clause-reads g c ascend =
    rw (c.as_slice.ensures, c.as_slice-2.ensures, c.as_slice-3.ensures, c.delta-delta.ensures, c.then-then.ensures.objects)
    at c.in_ok-entries.ensures.reads ascend
