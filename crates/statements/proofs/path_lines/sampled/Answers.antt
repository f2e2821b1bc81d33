use Rattle.std.proofs.Common.{inl, refl, sym, ap, subst, ◌∙◌}
use Rattle.std.specs.Prelude.{ℤ}
use Rattle.std.specs.Int.{w64}
use Rattle.std.proofs.lemmas.Int.{to_z-of_z}
use Rattle.lore_base.specs.Names.{object_of}
use Rattle.lore_base.specs.Databases.{OemGraph}
use Rattle.lore_store.specs.Stores.{IsGuided}
use Rattle.statements.specs.Types.{SAMPLE}
use Rattle.statements.specs.Forms.{IsBetween}
use Rattle.statements.proofs.NamingLaws.{unbound_by, bound_by}
use Rattle.statements.proofs.PathStatementLaws.{sample_unbound, sample_outside, sample_clear, sampled}
use Rattle.statements.proofs.path_lines.sampled.Goals as goal

pub returns-then-is_none-clause-refused : goal.returns-then-is_none-clause-refused
returns-then-is_none-clause-refused c =
    let db = c.args.store.now.db in
    let path = c.args.path.now in
    let valid = c.graph-graph.ensures.valid in
    let is = c.name.ensures ∙ ap (λ (g : OemGraph). object_of g.names path.start) c.graph-graph.ensures.graph in
    sample_unbound db path.start path.labels c.args.count
    (unbound_by db.graph.names path.start c.name.result c.is_none.result valid.restorable.rooted.well_formed.ordered.names_ascend is c.is_none.ensures c.if-is_none.true)

pub returns-in_default-clause-refused : goal.returns-in_default-clause-refused
returns-in_default-clause-refused c =
    let db = c.args.store.now.db in
    let path = c.args.path.now in
    let is = c.name.ensures ∙ ap (λ (g : OemGraph). object_of g.names path.start) c.graph-graph.ensures.graph in
    let bound = bound_by db.graph.names path.start c.name.result c.is_none.result is c.is_none.ensures c.if-is_none.false in
    let same = to_z-of_z w64 c.args.count c.ranges.count in
    let outside = subst (λ (n : ℤ). IsBetween 1 SAMPLE n → ⊥) same c.in_default.ensures.none in
    sample_outside db path.start path.labels c.args.count bound outside

pub returns-clause-ok : goal.returns-clause-ok
returns-clause-ok c =
    let db = c.args.store.now.db in
    let path = c.args.path.now in
    let is = c.name.ensures ∙ ap (λ (g : OemGraph). object_of g.names path.start) c.graph-graph.ensures.graph in
    let bound = bound_by db.graph.names path.start c.name.result c.is_none.result is c.is_none.ensures c.if-is_none.false in
    let same = to_z-of_z w64 c.args.count c.ranges.count in
    let size = c.in-Some.ensures.some in
    let count = c.in-Some.count in
    let number = sym same ∙ size.0 in
    let guide = c.guide.result.now in
    let guided = subst (IsGuided db.graph) (sym c.guide.ensures.guide) c.guide.ensures.guided in
    let lines = c.in_ok-lines.lines in
    let shown = sampled db c.graph-graph.ensures.valid guide guided path.start path.labels lines c.labels.result.now c.labels.ensures count
    c.graph-graph.result.now.graph.objects (ap (λ (g : OemGraph). g.objects) c.graph-graph.ensures.graph) c.in_ok-lines.ensures in
    inl (
      sample_clear db path.start path.labels c.args.count bound (count, number, size.1, size.2),
      (
        refl,
        (
          count,
          number,
          lines,
          refl,
          shown,
        ),
      ),
    )
