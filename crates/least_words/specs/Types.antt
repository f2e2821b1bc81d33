-- The declared types that definitions name, and the state at the end of an automaton.
pub use Rattle.lore_base.specs.declared.edges.Oid.{Oid}
pub use Rattle.lore_base.specs.declared.edges.Label.{Label}
pub use Rattle.lore_base.specs.declared.edges.Edge.{Edge}
pub use Rattle.path_expr.specs.declared.state_sets.States.{States}
pub use Rattle.path_expr.specs.declared.state_sets.TheConstants.{END}
pub use Rattle.least_words.specs.declared.arcs.Arc.{Arc}
pub use Rattle.least_words.specs.declared.groups.Place.{Place}
pub use Rattle.least_words.specs.declared.groups.Origin.{Origin}
