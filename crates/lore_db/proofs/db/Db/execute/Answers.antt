use Rattle.std.proofs.Common.{◌≡◌, ap}
use Rattle.lorel_trees.specs.Trees.{statement_tree}
use Rattle.statements.proofs.ExecutionLaws.{replied_on, on_err_weaker}
use Rattle.lore_db.specs.States.{Kept, CountsNoStep, BlocksTellAll}
use Rattle.lore_db.proofs.BlockedLaws.{replied_blocked}
use Rattle.lore_db.proofs.BoundLaws.{replied_within}
use Rattle.lore_db.proofs.PerformLaws.{replied, replied_same}
use Rattle.lore_db.proofs.KeptLaws.{replied_keeps}
use Rattle.lore_db.proofs.db.Db.execute.Goals as goal

pub returns-clause-ok : goal.returns-clause-ok
returns-clause-ok g c =
    let old = c.args.self.now in
    let new = c.perform.new.self in
    let done = c.perform.result in
    replied old.state new.state (statement_tree c.args.statement.now) done c.reply_of.result c.reply_of.ensures c.perform.ensures.ok
    (on_err_weaker done (new ≡ old) (new.state ≡ old.state) (λ same. ap (λ (k : Kept). k.state) same) c.perform.ensures.same)
    c.perform.ensures.refused

pub returns-clause-fresh : goal.returns-clause-fresh
returns-clause-fresh g c =
    replied_keeps c.args.self.now c.perform.new.self (statement_tree c.args.statement.now) c.perform.result c.reply_of.result c.reply_of.ensures
    c.perform.ensures.fresh c.perform.ensures.same

pub returns-clause-err : goal.returns-clause-err
returns-clause-err g c =
    replied_same c.perform.result c.reply_of.result c.reply_of.ensures (c.perform.new.self ≡ c.args.self.now) c.perform.ensures.same

pub returns-clause-uncounted : goal.returns-clause-uncounted
returns-clause-uncounted g c =
    replied_on c.perform.result c.reply_of.result c.reply_of.ensures
    (CountsNoStep c.args.self.now (statement_tree c.args.statement.now) → c.perform.new.steps ≡ c.args.steps.now) c.perform.ensures.uncounted

pub returns-clause-bounded : goal.returns-clause-bounded
returns-clause-bounded g c =
    replied_within c.args.self.now.state (statement_tree c.args.statement.now) c.args.steps.now c.perform.new.steps c.perform.result
    c.reply_of.result c.reply_of.ensures c.perform.ensures.bounded c.perform.ensures.stopped

pub returns-clause-unread : goal.returns-clause-unread
returns-clause-unread g c =
    replied_on c.perform.result c.reply_of.result c.reply_of.ensures
    (BlocksTellAll c.args.self.now (statement_tree c.args.statement.now) → c.perform.new.steps ≡ c.args.steps.now) c.perform.ensures.unread

pub returns-clause-blocked : goal.returns-clause-blocked
returns-clause-blocked g c =
    let old = c.args.self.now in
    let new = c.perform.new.self in
    let done = c.perform.result in
    replied_blocked old.blocked new.blocked (statement_tree c.args.statement.now) done c.reply_of.result c.reply_of.ensures c.perform.ensures.blocked
    (on_err_weaker done (new ≡ old) (new.blocked ≡ old.blocked) (λ same. ap (λ (k : Kept). k.blocked) same) c.perform.ensures.same)
