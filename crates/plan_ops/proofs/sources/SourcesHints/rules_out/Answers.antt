use Rattle.std.proofs.lemmas.Result.{IfOk-weaker}
use Rattle.plan_ops.proofs.FitLaws.{none_of_both, none_of_other}
use Rattle.plan_ops.proofs.sources.SourcesHints.rules_out.Goals as goal

pub returns-then-knows_from : goal.returns-then-knows_from
returns-then-knows_from g c =
    let self = c.args.self.now in
    IfOk-weaker c.rules_out.result _ _ (λ answer none yes.
    none_of_both (g.T.RowTest.passes self.test.now) (g.T.RowTest.passes self.hints.now) c.args.known.now c.args.row.now (none yes)) c.rules_out.ensures

pub returns : goal.returns
returns g c =
    let self = c.args.self.now in
    IfOk-weaker c.rules_out-2.result _ _ (λ answer none yes.
    none_of_other (g.T.RowTest.passes self.test.now) (g.T.RowTest.passes self.hints.now) c.args.known.now c.args.row.now (none yes)) c.rules_out-2.ensures
