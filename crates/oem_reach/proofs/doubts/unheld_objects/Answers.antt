use Rattle.std.proofs.Common.{not, List, ap, ◌∙◌, subst}
use Rattle.std.specs.List.{filter}
use Rattle.std.proofs.lemmas.Result.{IfOk-weaker}
use Rattle.lore_base.specs.TargetSets.{ListsInOrder}
use Rattle.object_search.specs.Reached.{IsWalkedFrom}
use Rattle.oem_reach.specs.Types.{Oid, Edge}
use Rattle.oem_reach.specs.inside.Doubts.{is_listed}
use Rattle.oem_reach.proofs.HeldLaws.{unheld_left}
use Rattle.oem_reach.proofs.doubts.unheld_objects.Goals as goal

pub returns : goal.returns
returns c =
    let oids = c.args.oids.now in
    let inner = c.in_ok-inner.inner in
    let held = c.in_ok-held.held in
    let staying = c.in_ok-staying.staying in
    let lists = subst (λ (l : List Oid). ListsInOrder (IsWalkedFrom inner l) staying) c.as_slice-2.ensures
    (subst (λ (l : List Edge). ListsInOrder (IsWalkedFrom l c.as_slice-2.result.now) staying) (c.new-arcs.ensures ∙ c.as_slice.ensures) c.in_ok-staying.ensures.reached) in
    IfOk-weaker c.without.result _ _
    (λ left is inside. unheld_left oids c.args.named.now c.args.edges.now inside held c.in_ok-held.ensures inner staying left
    c.requires c.in_ok-inner.ensures.members lists
    (is ∙ ap (λ (l : List Oid). filter (λ oid. not (is_listed l oid)) oids) c.as_slice-3.ensures))
    c.without.ensures
