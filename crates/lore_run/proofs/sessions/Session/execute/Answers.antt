use Rattle.std.proofs.Common.{IfOk, subst}
use Rattle.lore_db.specs.States.{Kept, Performs}
use Rattle.lorel_trees.specs.Trees.{statement_tree}
use Rattle.lore_run.specs.Reads.{StatementReads}
use Rattle.lore_run.proofs.ReadLaws.{statement_reads}
use Rattle.lore_run.proofs.sessions.Session.execute.Goals as goal

pub returns-clause-ok : goal.returns-clause-ok
returns-clause-ok g c =
    subst (λ (kept : Kept). IfOk c.execute.result (λ reply. Performs kept.state (statement_tree c.args.statement.now) reply c.execute.new.self.state))
    c.self.view_is c.execute.ensures.ok

pub returns-clause-read : goal.returns-clause-read
returns-clause-read g c =
    let tree = statement_tree c.args.statement.now in
    subst (λ (kept : Kept). IfOk c.execute.result (λ reply. StatementReads kept.state tree reply c.args.steps.now c.execute.new.steps)) c.self.view_is
    (statement_reads c.self.inside.db tree c.args.steps.now c.execute.new.steps c.execute.result c.execute.ensures.uncounted c.execute.ensures.bounded)
