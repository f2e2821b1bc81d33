use Rattle.std.proofs.Common.{ℕ, Option, Contains, subst}
use Rattle.std.specs.Option.{IfSome}
use Rattle.edge_lists.proofs.walks.start_of.Goals as goal

pub returns-then-lies_before : goal.returns-then-lies_before
returns-then-lies_before c waiting apart =
    let at = c.lies_before.ensures c.if-lies_before.true in
    (at.0, (at.1, subst (λ (last : Option ℕ). IfSome last (λ key. ¬ Contains waiting key)) c.in-Some.is apart), at.2)
