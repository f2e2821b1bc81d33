use Rattle.std.proofs.Common.{sym, ◌∙◌, arith}
use Rattle.std.proofs.lemmas.Bool.{true≢false}
use Rattle.graph_changes.proofs.LeftLaws.{among, among-back}
use Rattle.graph_changes.proofs.object_changes.count_new.Goals as goal

pub returns-then-is_dead-clause-new : goal.returns-then-is_dead-clause-new
returns-then-is_dead-clause-new c one = λ both. both.1 (among-back c.args.dead.now c.args.oid (sym c.is_dead.ensures ∙ c.if-is_dead.true))

pub returns-clause-new : goal.returns-clause-new
returns-clause-new c one = λ both. c.count_live.ensures.none (omega (arith, one, c.count_live.ensures.most)) both.0

pub returns-clause-old : goal.returns-clause-old
returns-clause-old c none = (
  c.count_live.ensures.live (omega (arith, none, c.count_live.ensures.most)),
  λ at. true≢false (sym (among c.args.dead.now c.args.oid at) ∙ sym c.is_dead.ensures ∙ c.if-is_dead.false),
)
