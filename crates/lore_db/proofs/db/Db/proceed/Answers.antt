use Rattle.std.proofs.Common.{◌≡◌, true≢false, sym, ◌∙◌}
use Rattle.lorel_trees.specs.Trees.{statement_tree}
use Rattle.lore_db.specs.States.{CountsNoStep, BlocksTellAll}
use Rattle.lore_db.proofs.BlockedLaws.{unasked_tells}
use Rattle.lore_db.proofs.BoundLaws.{still_within, still_stops}
use Rattle.lore_db.proofs.PerformLaws.{on_reply_any}
use Rattle.lore_db.proofs.db.Db.proceed.Goals as goal

pub returns-then-is_changing-clause-uncounted : goal.returns-then-is_changing-clause-uncounted
returns-then-is_changing-clause-uncounted g c =
    on_reply_any c.change.result (CountsNoStep c.args.self.now (statement_tree c.args.statement.now) → c.change.new.steps ≡ c.args.steps.now)
    c.change.ensures.uncounted

pub returns-else-is_changing-clause-bounded : goal.returns-else-is_changing-clause-bounded
returns-else-is_changing-clause-bounded g c =
    still_within c.args.self.now.state (statement_tree c.args.statement.now) c.args.steps.now c.execute_still.new.steps
    (λ h. true≢false (sym (c.is_changing.ensures.1 h) ∙ c.if-is_changing.false)) c.execute_still.result

pub returns-else-is_changing-clause-stopped : goal.returns-else-is_changing-clause-stopped
returns-else-is_changing-clause-stopped g c =
    still_stops c.args.self.now.state (statement_tree c.args.statement.now) c.args.steps.now c.execute_still.new.steps
    (λ h. true≢false (sym (c.is_changing.ensures.1 h) ∙ c.if-is_changing.false)) c.execute_still.result

pub returns-then-is_changing-clause-unread : goal.returns-then-is_changing-clause-unread
returns-then-is_changing-clause-unread g c =
    let tree = statement_tree c.args.statement.now in
    on_reply_any c.change.result (BlocksTellAll c.args.self.now tree → c.change.new.steps ≡ c.args.steps.now)
    (λ tells. absurd (unasked_tells c.args.self.now tree c.requires.unblocked tells))

pub returns-else-is_changing-clause-unread : goal.returns-else-is_changing-clause-unread
returns-else-is_changing-clause-unread g c =
    let tree = statement_tree c.args.statement.now in
    on_reply_any c.execute_still.result (BlocksTellAll c.args.self.now tree → c.execute_still.new.steps ≡ c.args.steps.now)
    (λ tells. absurd (unasked_tells c.args.self.now tree c.requires.unblocked tells))
