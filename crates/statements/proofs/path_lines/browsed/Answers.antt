use Rattle.std.proofs.Common.{inl, refl, sym, ap, subst, ◌∙◌}
use Rattle.lore_base.specs.Names.{object_of}
use Rattle.lore_base.specs.Databases.{OemGraph}
use Rattle.lore_store.specs.Stores.{IsGuided}
use Rattle.statements.proofs.NamingLaws.{unbound_by, bound_by}
use Rattle.statements.proofs.PathStatementLaws.{browse_told, browse_clear, browsed}
use Rattle.statements.proofs.path_lines.browsed.Goals as goal

pub returns-then-is_none-clause-refused : goal.returns-then-is_none-clause-refused
returns-then-is_none-clause-refused c =
    let db = c.args.store.now.db in
    let path = c.args.path.now in
    let valid = c.graph.ensures.valid in
    let is = c.name.ensures ∙ ap (λ (g : OemGraph). object_of g.names path.start) c.graph.ensures.graph in
    browse_told db path.start path.labels
    (unbound_by db.graph.names path.start c.name.result c.is_none.result valid.restorable.rooted.well_formed.ordered.names_ascend is c.is_none.ensures c.if-is_none.true)

pub returns-clause-ok : goal.returns-clause-ok
returns-clause-ok c =
    let db = c.args.store.now.db in
    let path = c.args.path.now in
    let is = c.name.ensures ∙ ap (λ (g : OemGraph). object_of g.names path.start) c.graph.ensures.graph in
    let bound = bound_by db.graph.names path.start c.name.result c.is_none.result is c.is_none.ensures c.if-is_none.false in
    let guide = c.guide.result.now in
    let guided = subst (IsGuided db.graph) (sym c.guide.ensures.guide) c.guide.ensures.guided in
    let lines = c.in_ok-lines.lines in
    let shown = browsed db c.graph.ensures.valid guide guided path.start path.labels lines c.labels.result.now c.labels.ensures c.in_ok-lines.ensures in
    inl (
      browse_clear db path.start path.labels bound,
      (
        refl,
        (
          lines,
          refl,
          shown,
        ),
      ),
    )
