use Rattle.std.proofs.Common.{length, Option, IfSome, sym, ap, subst, ◌∙◌, arith, All}
use Rattle.lore_base.specs.Databases.{OemGraph, IsOrdered}
use Rattle.oem_changes.proofs.ValidLaws.{rooted_graph}
use Rattle.oem_graph.specs.Graphs.{HasEnds}
use Rattle.oem_graph.specs.Plans.{graph_then}
use Rattle.oem_graph.proofs.GraphLaws.{linked_ends}
use Rattle.dataguide.specs.Deltas.{PlannedGuide, IsReady}
use Rattle.lore_store.specs.declared.indexes.Indexes.{Indexes}
use Rattle.lore_store.specs.Stores.{RoomyDatabase, PlannedDatabase, guide_then}
use Rattle.lore_store.proofs.IndexLaws.{fits_indexes}
use Rattle.lore_store.proofs.CommitLaws.{leads_inside, kept_guide, stored_then}
use Rattle.lore_store.proofs.store.Store.commit.Goals as goal

pub commit-requires-clause-leads : goal.commit-requires-clause-leads
commit-requires-clause-leads c =
    let first = ap (λ (s : RoomyDatabase). graph_then s.db.graph c.prepared.inside.graph) c.self.view_is in
    let second = ap (λ (p : PlannedDatabase). graph_then c.args.self.now.db.graph p.graph) c.prepared.view_is in
    let same = first ∙ second in
    let edges = ap (λ (g : OemGraph). length g.edges) same in
    record {
      ordered = subst (λ (g : OemGraph). IsOrdered g) (sym same) c.requires.leads.valid.restorable.rooted.well_formed.ordered;
      linked = subst (λ (g : OemGraph). All (HasEnds g.objects) g.edges) (sym same) (linked_ends _ c.requires.leads.valid.restorable.rooted.well_formed);
      few_edges = omega (arith, edges, c.requires.leads.valid.restorable.few_edges);
    }

pub commit_indexes-requires-clause-fits : goal.commit_indexes-requires-clause-fits
commit_indexes-requires-clause-fits c =
    let leads = leads_inside _ _ _ _ c.self.view_is c.prepared.view_is c.requires.leads in
    let indexes : Indexes = record { links = c.self.inside.links; values = c.self.inside.values } in
    fits_indexes c.self.inside.graph.graph (graph_then c.self.inside.graph.graph c.prepared.inside.graph) indexes c.prepared.inside.indexes
    c.self.invariant.indexes leads.indexes (rooted_graph _ leads.valid) leads.valid.restorable.few_edges

pub invariant_of-self : goal.invariant_of-self
invariant_of-self c =
    let graph = c.self.inside.graph.graph in
    let leads = leads_inside _ _ _ _ c.self.view_is c.prepared.view_is c.requires.leads in
    stored_then c.self.inside.labels graph c.self.inside.limit c.self.inside.mode c.self.inside.guide _ leads _ _ _ _ c.commit_new.ensures c.commit.ensures
    (ap (guide_then c.self.inside.guide) c.in-Some.is ∙ sym c.commit-in-Some.ensures)
    (c.commit_indexes.ensures graph (graph_then graph c.prepared.inside.graph) c.self.invariant.indexes leads.indexes)

pub invariant_of-self-in_default : goal.invariant_of-self-in_default
invariant_of-self-in_default c =
    let graph = c.self.inside.graph.graph in
    let leads = leads_inside _ _ _ _ c.self.view_is c.prepared.view_is c.requires.leads in
    stored_then c.self.inside.labels graph c.self.inside.limit c.self.inside.mode c.self.inside.guide _ leads _ _ _ _ c.commit_new.ensures c.commit.ensures
    (kept_guide c.self.inside.guide c.prepared.inside.guide c.in_default.not-Some)
    (c.commit_indexes.ensures graph (graph_then graph c.prepared.inside.graph) c.self.invariant.indexes leads.indexes)

pub commit-requires-in-Some : goal.commit-requires-in-Some
commit-requires-in-Some c =
    let leads = leads_inside _ _ _ _ c.self.view_is c.prepared.view_is c.requires.leads in
    subst (λ (o : Option PlannedGuide). IfSome o (IsReady c.self.inside.guide.nodes)) c.in-Some.is leads.ready
