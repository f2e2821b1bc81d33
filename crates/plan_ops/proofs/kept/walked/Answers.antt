use Rattle.std.proofs.Common.{◌≡◌, ℕ, List, ap, subst, sym}
use Rattle.std.proofs.lemmas.Result.{IfOk-weaker}
use Rattle.lore_base.specs.TargetSets.{ListsInOrder}
use Rattle.plan_ops.specs.Types.{Oid}
use Rattle.plan_ops.specs.inside.Keeping.{Kept, IsKept}
use Rattle.plan_ops.specs.inside.Offers.{PutsAll}
use Rattle.plan_ops.proofs.kept.walked.Goals as goal

pub returns-then-has_all-clause-objects : goal.returns-then-has_all-clause-objects
returns-then-has_all-clause-objects g c =
    let reached = c.args.kept.now.reached in
    let there : c.args.kept.now.from ≡ c.args.from = ap (λ (n : ℕ). record { 0 = n }) (c.has_all.ensures.from c.if-has_all.true) in
    let lists = subst (λ (o : Oid). ListsInOrder (g.W.Walks.leads c.args.walk.now o) reached) there
    (c.requires (c.has_all.ensures.whole c.if-has_all.true)) in
    IfOk-weaker c.put_copy.result _ _ (λ offer puts. (reached, lists, subst (λ (l : List Oid). PutsAll c.args.slot l offer) c.as_slice.ensures puts)) c.put_copy.ensures

pub returns-clause-kept : goal.returns-clause-kept
returns-clause-kept g c =
    λ whole. subst (λ (k : Kept). IsKept (g.W.Walks.leads c.args.walk.now) k) (sym (c.put_reached.ensures.kept whole)) c.walk_anew.ensures.kept whole

pub returns-clause-objects : goal.returns-clause-objects
returns-clause-objects g c =
    IfOk-weaker c.put_reached.result _ _ (λ offer puts. (c.walk_anew.new.kept.reached, c.in_ok-walk_anew.ensures.objects, puts)) c.put_reached.ensures.puts
