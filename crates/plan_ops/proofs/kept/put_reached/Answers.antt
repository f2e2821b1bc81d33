use Rattle.std.proofs.Common.{List, subst}
use Rattle.std.proofs.lemmas.Result.{IfOk-weaker}
use Rattle.plan_ops.specs.Types.{Oid}
use Rattle.plan_ops.specs.inside.Offers.{PutsAll}
use Rattle.plan_ops.proofs.kept.put_reached.Goals as goal

pub returns-then-again-clause-puts : goal.returns-then-again-clause-puts
returns-then-again-clause-puts c =
    IfOk-weaker c.put_copy.result _ _ (λ offer puts. subst (λ (l : List Oid). PutsAll c.args.slot l offer) c.as_slice.ensures puts) c.put_copy.ensures
