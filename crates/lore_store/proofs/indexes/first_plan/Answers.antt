use Rattle.std.proofs.Common.{[], length, sym, ap, ◌∙◌, arith}
use Rattle.lore_base.specs.Databases.{OemGraph, new_graph}
use Rattle.value_changes.specs.EntryChanges.{AreEntryChanges}
use Rattle.lore_store.specs.Indexes.{state_of}
use Rattle.lore_store.proofs.IndexLaws.{gone_kept, come_new, fits_entries, links_same}
use Rattle.lore_store.proofs.RestoredLaws.{lost_ascend, none_lost, fresh_ascend, all_fresh, first_entries}
use Rattle.lore_store.proofs.indexes.first_plan.Goals as goal

pub prepare-requires : goal.prepare-requires
prepare-requires g c =
    let graph = c.args.graph.now.graph in
    let links = c.args.links.now.links in
    let rooted = c.requires.rooted in
    let none = c.new.ensures in
    let all = c.requires.edges in
    let lost = none_lost graph rooted c.new.result c.args.edges.now none all in
    let fresh = all_fresh graph rooted c.new.result c.args.edges.now none all in
    record {
      removed = lost_ascend graph rooted c.new.result c.args.edges.now none all;
      kept = gone_kept [] graph.edges links c.new.result c.requires.kept.links lost;
      added = fresh_ascend graph rooted c.new.result c.args.edges.now none all;
      new = come_new [] graph.edges links c.args.edges.now c.requires.kept.links fresh;
    }

pub prepare-requires-2 : goal.prepare-requires-2
prepare-requires-2 g c =
    let graph = c.args.graph.now.graph in
    let kept = c.requires.kept in
    let same = ap length c.requires.edges in
    let nothing = ap (λ (g : OemGraph). g.objects) c.new-nothing.ensures in
    let found = first_entries graph c.requires.rooted c.args.links.now.links c.args.edges.now kept.links c.requires.edges
    c.in_ok-entries.entries.gone c.in_ok-entries.entries.come
    (λ old new objects is settled settled_then changed read. c.in_ok-entries.ensures.entries old new (objects ∙ sym nothing) is settled settled_then
    (rw c.as_slice.ensures changed) read) in
    record {
      fits = fits_entries new_graph graph c.requires.rooted (omega (arith, same, c.requires.few)) c.args.values.now.entries
          c.in_ok-entries.entries.gone c.in_ok-entries.entries.come kept.values found;
    }

pub returns : goal.returns
returns g c =
    let graph = c.args.graph.now.graph in
    let kept = c.requires.kept in
    let nothing = ap (λ (g : OemGraph). g.objects) c.new-nothing.ensures in
    let lost = none_lost graph c.requires.rooted c.new.result c.args.edges.now c.new.ensures c.requires.edges in
    let fresh = all_fresh graph c.requires.rooted c.new.result c.args.edges.now c.new.ensures c.requires.edges in
    let found = first_entries graph c.requires.rooted c.args.links.now.links c.args.edges.now kept.links c.requires.edges
    c.in_ok-entries.entries.gone c.in_ok-entries.entries.come
    (λ old new objects is settled settled_then changed read. c.in_ok-entries.ensures.entries old new (objects ∙ sym nothing) is settled settled_then
    (rw c.as_slice.ensures changed) read) in
    let entries : AreEntryChanges (state_of new_graph) (state_of graph) c.in_ok-values_then.values_then.gone c.in_ok-values_then.values_then.come =
    rw (c.in_ok-values_then.ensures.gone, c.in_ok-values_then.ensures.come) found in
    record {
      gone = links_same [] graph.edges c.in_ok-links_then.links_then.gone c.new.result c.in_ok-links_then.ensures.gone lost;
      come = links_same graph.edges [] c.in_ok-links_then.links_then.come c.args.edges.now c.in_ok-links_then.ensures.come fresh;
      values = entries;
    }
