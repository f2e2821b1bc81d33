use Rattle.std.proofs.Common.{true≢false, sym, subst, ◌∙◌}
use Rattle.std.specs.Int.{w64}
use Rattle.std.proofs.lemmas.Int.{to_z-of_z}
use Rattle.lore_base.specs.declared.change_set.Changes.{Changes}
use Rattle.lore_base.specs.Databases.{OemGraph, IsLive}
use Rattle.lore_base.specs.ChangeSets.{HasChildren, Fits}
use Rattle.lore_store.specs.Reads.{ReadsWithinWork}
use Rattle.session_tests.proofs.GivenLaws.{where_ok, given_fits, given_reads}
use Rattle.session_tests.proofs.reads.prepares.Goals as goal

pub prepare-prepared-requires : goal.prepare-prepared-requires
prepare-prepared-requires g c =
    let db = c.args.store.now.db in
    let live : IsLive db.graph.objects c.args.oid =
    subst (λ (graph : OemGraph). IsLive graph.objects c.args.oid) c.graph-graph.ensures.graph (_, c.in-Some.ensures.found) in
    let childless : HasChildren db.graph.edges c.args.oid → ⊥ = λ has.
    true≢false (sym (c.has_edge.ensures.1 (subst (λ (graph : OemGraph). HasChildren graph.edges c.args.oid) (sym c.graph-graph.ensures.graph) has)) ∙ c.if-has_edge.false) in
    record { fits = subst (Fits db) (sym (rw (to_z-of_z w64 c.args.number c.ranges.number) at c.in_ok-changes.ensures)) (given_fits db c.graph-graph.ensures.valid c.args.oid c.args.number c.ranges.number live childless) }

pub returns : goal.returns
returns g c =
    let db = c.args.store.now.db in
    let childless : HasChildren db.graph.edges c.args.oid → ⊥ = λ has.
    true≢false (sym (c.has_edge.ensures.1 (subst (λ (graph : OemGraph). HasChildren graph.edges c.args.oid) (sym c.graph-graph.ensures.graph) has)) ∙ c.if-has_edge.false) in
    let given = rw (to_z-of_z w64 c.args.number c.ranges.number) at c.in_ok-changes.ensures in
    record {
      few = λ told.
          given_reads db c.graph-graph.ensures.valid c.args.oid c.args.number childless c.requires.once _ _
          (subst (λ (changes : Changes). ReadsWithinWork db.graph changes c.args.steps.now c.prepare-prepared.new.steps) given
          (where_ok _ _ c.prepare-prepared.ensures.reads (c.gives.ensures told)));
    }
