-- The declared types that definitions cite with their variants, the limit on leaves, and the end of an automaton.
pub use Rattle.lore_base.specs.declared.edges.Label.{Label}
pub use Rattle.lore_base.specs.declared.limits.TheConstants.{LEAVES}
pub use Rattle.path_expr.specs.declared.state_sets.States.{States}
pub use Rattle.path_expr.specs.declared.state_sets.TheConstants.{END}
pub use Rattle.path_expr.specs.declared.leaves.Leaf.{Leaf}
pub use Rattle.path_expr.specs.declared.leaves.Leaf.TheVariants.{One, AnyLabel}
