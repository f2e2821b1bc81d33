use Rattle.std.proofs.Common.{◌≡◌, true≢false, sym, subst, ◌∙◌}
use Rattle.std.specs.Prelude.{Bool, false, IfOk, IfErr}
use Rattle.lore_base.specs.Verdicts.{IsToldBy}
use Rattle.lorel_trees.specs.Trees.{history}
use Rattle.statements.specs.Stops.{told}
use Rattle.lore_db.specs.States.{Performs, StateCause, state_order}
use Rattle.lore_db.specs.Freshness.{KeepsFresh}
use Rattle.lore_db.proofs.PerformLaws.{on_reply_any}
use Rattle.lore_db.proofs.db.Db.keep.Goals as goal

pub returns-then-on-clause-ok : goal.returns-then-on-clause-ok
returns-then-on-clause-ok g c =
    subst (λ (b : Bool). IfOk c.begin.result (λ reply. Performs c.args.self.now.state (history b) reply c.begin.new.self.state)) (sym c.if-on.true)
    c.begin.ensures.ok

pub returns-then-on-clause-refused : goal.returns-then-on-clause-refused
returns-then-on-clause-refused g c =
    subst (λ (b : Bool). IfErr c.begin.result (λ stop. IsToldBy (StateCause c.args.self.now.state (history b)) state_order (told stop)))
    (sym c.if-on.true) c.begin.ensures.refused

pub returns-then-on-clause-uncounted : goal.returns-then-on-clause-uncounted
returns-then-on-clause-uncounted g c =
    on_reply_any c.begin.result (c.args.on ≡ false → c.begin.new.steps ≡ c.args.steps.now) (λ quiet. absurd (true≢false (sym c.if-on.true ∙ quiet)))

pub returns-else-on-clause-ok : goal.returns-else-on-clause-ok
returns-else-on-clause-ok g c =
    subst (λ (b : Bool). Performs c.args.self.now.state (history b) c.end.result c.end.new.self.state) (sym c.if-on.false) c.end.ensures.ok

pub returns-then-on-clause-fresh : goal.returns-then-on-clause-fresh
returns-then-on-clause-fresh g c =
    subst (λ (b : Bool). IfOk c.begin.result (λ reply. KeepsFresh c.args.self.now (history b) reply c.begin.new.self)) (sym c.if-on.true)
    c.begin.ensures.fresh

pub returns-else-on-clause-fresh : goal.returns-else-on-clause-fresh
returns-else-on-clause-fresh g c =
    subst (λ (b : Bool). KeepsFresh c.args.self.now (history b) c.end.result c.end.new.self) (sym c.if-on.false) c.end.ensures.fresh
