use Rattle.std.proofs.Common.{ap, ◌∙◌}
use Rattle.lore_base.specs.Names.{object_of}
use Rattle.lore_base.specs.Databases.{OemGraph}
use Rattle.statements.proofs.NamingLaws.{unbound_by, bound_by, unbound_stop, unnamed_lists}
use Rattle.statements.proofs.namings.unname_changes.Goals as goal

pub returns-then-is_none-clause-refused : goal.returns-then-is_none-clause-refused
returns-then-is_none-clause-refused c =
    let db = c.args.store.now.db in
    let name = c.args.name.now in
    let is = c.name.ensures ∙ ap (λ (g : OemGraph). object_of g.names name) c.graph.ensures.graph in
    unbound_stop db c.graph.ensures.valid name
    (unbound_by db.graph.names name c.name.result c.is_none.result c.graph.ensures.valid.restorable.rooted.well_formed.ordered.names_ascend is c.is_none.ensures
    c.if-is_none.true)

pub returns-clause-lists : goal.returns-clause-lists
returns-clause-lists c =
    let db = c.args.store.now.db in
    let name = c.args.name.now in
    let is = c.name.ensures ∙ ap (λ (g : OemGraph). object_of g.names name) c.graph.ensures.graph in
    unnamed_lists db c.graph.ensures.valid name (bound_by db.graph.names name c.name.result c.is_none.result is c.is_none.ensures c.if-is_none.false)
    c.in_ok-unnaming.field-0 c.in_ok-unnaming.ensures
