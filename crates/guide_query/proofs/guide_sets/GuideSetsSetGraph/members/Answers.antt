use Rattle.std.proofs.Common.{List, sym, subst}
use Rattle.lore_base.specs.TargetSets.{ListsInOrder}
use Rattle.guide_query.specs.Types.{Oid}
use Rattle.guide_query.specs.GuideReaches.{IsMember}
use Rattle.guide_query.proofs.GuideWalkLaws.{set-listed, none-listed}
use Rattle.guide_query.proofs.guide_sets.GuideSetsSetGraph.members.Goals as goal

pub returns-in-Some : goal.returns-in-Some
returns-in-Some c =
    let nodes = c.args.self.now.guide.now.nodes in
    subst (λ (l : List Oid). ListsInOrder (IsMember nodes c.args.node) l) (sym c.as_slice.ensures.oids)
    (set-listed nodes c.args.node c.in-Some.set.now (sym c.in-Some.ensures) c.as_slice.ensures.set)

pub returns-in-None : goal.returns-in-None
returns-in-None c = none-listed c.args.self.now.guide.now.nodes c.args.node (sym c.in-None.ensures)
