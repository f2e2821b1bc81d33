use Rattle.std.proofs.Common.{◌<◌, List, AllPairs, subst}
use Rattle.product_walk.specs.Types.{Oid}
use Rattle.product_walk.proofs.LevelLaws.{already_extends}
use Rattle.product_walk.proofs.label_step.put_in_order.Goals as goal

pub returns-then-ascends-clause-ok : goal.returns-then-ascends-clause-ok
returns-then-ascends-clause-ok c =
    already_extends c.args.from c.args.buf.now
    (subst (λ (l : List Oid). AllPairs (λ a b. a.0 < b.0) l) c.tail_of.ensures (c.ascends.ensures.0 c.if-ascends.true))
