-- The declared types that the definitions of this crate cite, under one module.
pub use Rattle.lore_base.specs.declared.edges.Oid.{Oid}
pub use Rattle.lore_base.specs.declared.edges.Label.{Label}
pub use Rattle.lore_base.specs.declared.limits.TheConstants.{LEAVES}
pub use Rattle.path_expr.specs.declared.state_sets.States.{States}
pub use Rattle.path_expr.specs.declared.state_sets.TheConstants.{END}
pub use Rattle.set_walk.specs.declared.state_marks.StateMarks.{StateMarks}
