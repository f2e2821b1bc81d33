use Rattle.std.proofs.Common.{refl, sym, ap, subst, ◌∙◌}
use Rattle.lore_base.specs.Databases.{OemGraph}
use Rattle.lore_store.specs.Stores.{IsGuided}
use Rattle.statements.proofs.GuideStatementLaws.{shown_lines}
use Rattle.statements.proofs.guides.guide_shown.Goals as goal

pub returns-clause-ok : goal.returns-clause-ok
returns-clause-ok c =
    let db = c.args.store.now.db in
    let lines = c.in_ok-lines.lines in
    let guide = c.guide.result.now in
    let guided = subst (IsGuided db.graph) (sym c.guide.ensures.guide) c.guide.ensures.guided in
    let names = c.names.ensures ∙ ap (λ (g : OemGraph). g.names) c.graph.ensures.graph in
    let shown = shown_lines db c.graph.ensures.valid guide guided c.labels.result.now c.names.result.now c.labels.ensures names
    lines c.in_ok-lines.ensures in (
      refl,
      (lines, refl, shown),
    )
