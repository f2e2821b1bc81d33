use Rattle.std.proofs.Common.{◌≡◌, ◌+◌, ◌++◌, List, map, Contains, refl, ap, ◌∙◌, subst}
use Rattle.std.specs.List.{filter, sum_by}
use Rattle.std.proofs.lemmas.Result.{IfOk-weaker}
use Rattle.lore_base.specs.TargetSets.{ListsInOrder}
use Rattle.lore_base.specs.Databases.{AreAscendingEdges}
use Rattle.object_search.specs.Reached.{IsWalkedFrom}
use Rattle.read_costs.specs.ReadCosts.{in_reads}
use Rattle.read_costs.specs.Entering.{AreEntering}
use Rattle.oem_reach.specs.Types.{Oid, Edge}
use Rattle.oem_reach.specs.inside.Doubts.{old_of, is_listed, IsStaying, AreLeft}
use Rattle.oem_reach.proofs.LowerParentLaws.{none_dead}
use Rattle.oem_reach.proofs.SearchLaws.{bound_then, uncut, reads_none, reads_below, search_dead}
use Rattle.oem_reach.proofs.dead.dead_objects.Goals as goal

pub returns-then-led-clause-dead : goal.returns-then-led-clause-dead
returns-then-led-clause-dead g c = λ before rooted named fits overlay same.
    let between = g.V.Adjacent.edges c.args.overlay.now in
    let changes = c.args.changes.now in
    none_dead before changes between c.args.lost.now c.args.fresh.now rooted fits overlay
    (uncut before changes between c.args.lost.now c.args.fresh.now c.args.names.now rooted named fits overlay c.in_ok-parted.parted c.in_ok-parted.ensures
    (c.is_empty.ensures.0 c.if-is_empty.true))
    (map (λ entry. entry.1) changes.named) (bound_then before.names changes)
    (c.in_ok-led.ensures c.if-led.true before.next fits.numbered) c.new.result c.new.ensures

pub returns-then-led-clause-reads : goal.returns-then-led-clause-reads
returns-then-led-clause-reads g c = λ before rooted named fits overlay same.
    reads_none before c.args.changes.now (g.V.Adjacent.edges c.args.overlay.now) c.args.lost.now c.args.fresh.now c.args.names.now rooted named fits overlay
    c.in_ok-parted.parted c.in_ok-parted.ensures (c.is_empty.ensures.0 c.if-is_empty.true) c.args.steps.now c.args.steps.now refl

pub returns-clause-dead : goal.returns-clause-dead
returns-clause-dead g c =
    let between = g.V.Adjacent.edges c.args.overlay.now in
    let links = g.V.Links.edges c.args.overlay.now in
    let lost = c.args.lost.now in
    let fresh = c.args.fresh.now in
    let below = c.in_ok-below.below in
    let entering = c.in_ok-entering.entering in
    let doubts = c.in_ok-doubts.doubts in
    let named = c.in_ok-named.named in
    let edges = c.in_ok-edges.edges in
    let lists = subst (λ (l : List Oid). ListsInOrder (IsWalkedFrom (old_of fresh between) l) below) c.as_slice.ensures c.in_ok-below.ensures.below in
    let enters = subst (λ (l : List Oid). AreEntering links l entering) c.as_slice-2.ensures c.in_ok-entering.ensures.edges in
    let all = c.in_ok-edges.ensures
    ∙ ap (λ (l : List Edge). entering ++ filter (λ edge. is_listed c.as_slice-4.result.now edge.child) l) c.as_slice-3.ensures
    ∙ ap (λ (l : List Oid). entering ++ filter (λ edge. is_listed l edge.child) fresh) c.as_slice-4.ensures in
    IfOk-weaker c.unheld_objects.result _ _
    (λ dead left before rooted named_so fits overlay same.
    search_dead before c.args.changes.now between lost fresh c.args.names.now rooted named_so fits overlay c.in_ok-parted.parted c.in_ok-parted.ensures
    below lists doubts c.in_ok-doubts.ensures.members links entering edges named dead same enters all c.in_ok-named.ensures
    (subst (λ (l : List Oid). ((edge : Edge) → Contains edges edge → Contains l edge.child) → AreLeft l (IsStaying l named edges) dead) c.as_slice-5.ensures
    (subst (λ (l : List Oid). ((edge : Edge) → Contains edges edge → Contains c.as_slice-5.result.now edge.child)
    → AreLeft c.as_slice-5.result.now (IsStaying c.as_slice-5.result.now l edges) dead) c.as_slice-6.ensures
    (subst (λ (l : List Edge). ((edge : Edge) → Contains l edge → Contains c.as_slice-5.result.now edge.child)
    → AreLeft c.as_slice-5.result.now (IsStaying c.as_slice-5.result.now c.as_slice-6.result.now l) dead) c.as_slice-7.ensures left))))
    c.unheld_objects.ensures

pub returns-clause-reads : goal.returns-clause-reads
returns-clause-reads g c =
    let between = g.V.Adjacent.edges c.args.overlay.now in
    let links = g.V.Links.edges c.args.overlay.now in
    let fresh = c.args.fresh.now in
    let below = c.in_ok-below.below in
    let mid = c.objects_below.new.steps in
    let now = c.entering_edges.new.steps in
    let lists = subst (λ (l : List Oid). ListsInOrder (IsWalkedFrom (old_of fresh between) l) below) c.as_slice.ensures c.in_ok-below.ensures.below in
    let counted = subst (λ (l : List Oid). AreAscendingEdges links → now ≡ mid + sum_by (in_reads links) l) c.as_slice-2.ensures c.in_ok-entering.ensures.steps in
    IfOk-weaker c.unheld_objects.result _ _
    (λ dead _ before rooted named_so fits overlay same.
    reads_below before c.args.changes.now between c.args.lost.now fresh c.args.names.now rooted named_so fits overlay c.in_ok-parted.parted c.in_ok-parted.ensures
    below lists links same c.args.steps.now mid now c.in_ok-below.ensures.steps counted)
    c.unheld_objects.ensures
