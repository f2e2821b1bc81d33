-- The replies that definitions and proofs cite, under one module.
pub use Rattle.statements.specs.declared.replies.Reply.{Reply}
pub use Rattle.statements.specs.declared.replies.Reply.TheVariants.{Changed, Rows, Past, PlanShown, Lines, Dump, Refused}
