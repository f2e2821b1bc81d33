use Rattle.std.proofs.Common.{Some, ap}
use Rattle.index_traits.proofs.ObjectLaws.{one_value_of}
use Rattle.graph_changes.proofs.PairLaws.{pairs-ascend, live-record, value-at}
use Rattle.graph_changes.proofs.object_lists.value_of.Goals as goal

pub returns-in-Some-clause-found : goal.returns-in-Some-clause-found
returns-in-Some-clause-found c = value-at c.args.objects.now c.args.oid c.in-Some.place _ c.in-Some.ensures.inside (c.in-Some.ensures.found _)

pub returns-in-Some-clause-only : goal.returns-in-Some-clause-only
returns-in-Some-clause-only c value at =
    ap Some (one_value_of _ (pairs-ascend c.args.objects.now c.requires) _ _ _ (returns-in-Some-clause-found c) at)

pub returns-in-None-clause-none : goal.returns-in-None-clause-none
returns-in-None-clause-none c = λ live. c.in-None.ensures.none (live-record c.args.objects.now c.args.oid live)

pub returns-in-None-clause-only : goal.returns-in-None-clause-only
returns-in-None-clause-only c value at = absurd (returns-in-None-clause-none c (value, at))
