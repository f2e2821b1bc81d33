-- The declared types that definitions name, the limit on leaves, and the state at the end of an automaton.
pub use Rattle.lore_base.specs.declared.edges.Oid.{Oid}
pub use Rattle.lore_base.specs.declared.edges.Label.{Label}
pub use Rattle.lore_base.specs.declared.edges.Edge.{Edge}
pub use Rattle.lore_base.specs.declared.paths.Pattern.{Pattern}
pub use Rattle.lore_base.specs.declared.limits.TheConstants.{LEAVES}
pub use Rattle.path_expr.specs.declared.state_sets.States.{States}
pub use Rattle.product_walk.specs.declared.state_marks.StateMarks.{StateMarks}
pub use Rattle.path_expr.specs.declared.state_sets.TheConstants.{END}
