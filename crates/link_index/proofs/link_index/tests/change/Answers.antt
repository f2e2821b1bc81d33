use Rattle.std.proofs.Common.{◌≡◌, List, [], ◌∷◌, ◌++◌, All, Contains, sym, subst, ◌∙◌, ap}
use Rattle.lore_base.specs.Databases.{AreAscendingEdges}
use Rattle.link_index.specs.Types.{Edge}
use Rattle.link_index.proofs.SampleLaws.{one_ascends, of_one, of_links}
use Rattle.link_index.proofs.link_index.tests.change.Goals as goal

pub prepare-requires-clause-added : goal.prepare-requires-clause-added
prepare-requires-clause-added c =
    let one : c.push.new.self ≡ c.args.come ∷ [] = c.in_ok-push.ensures.ok ∙ ap (λ (l : List Edge). l ++ c.args.come ∷ []) c.new-added.ensures in
    subst AreAscendingEdges (sym one) (one_ascends c.args.come)

pub prepare-requires-clause-new : goal.prepare-requires-clause-new
prepare-requires-clause-new c =
    let one : c.push.new.self ≡ c.args.come ∷ [] = c.in_ok-push.ensures.ok ∙ ap (λ (l : List Edge). l ++ c.args.come ∷ []) c.new-added.ensures in
    subst (All (λ edge. ¬ Contains c.args.index.now.links edge)) (sym one) (of_one (λ edge. ¬ Contains c.args.index.now.links edge) c.args.come c.requires.new)

pub commit-requires-clause-kept : goal.commit-requires-clause-kept
commit-requires-clause-kept c =
    of_links (Contains c.reserve.new.self.links) c.args.removed.now _ c.in_ok-plan.ensures.gone
    (subst (λ (l : List Edge). All (Contains l) c.args.removed.now) (sym c.reserve.ensures.same) c.requires.kept)

pub commit-requires-clause-new : goal.commit-requires-clause-new
commit-requires-clause-new c =
    let one : c.push.new.self ≡ c.args.come ∷ [] = c.in_ok-push.ensures.ok ∙ ap (λ (l : List Edge). l ++ c.args.come ∷ []) c.new-added.ensures in
    of_links (λ edge. ¬ Contains c.reserve.new.self.links edge) c.push.new.self _ c.in_ok-plan.ensures.come
    (subst (λ (l : List Edge). All (λ edge. ¬ Contains l edge) c.push.new.self) (sym c.reserve.ensures.same)
    (subst (All (λ edge. ¬ Contains c.args.index.now.links edge)) (sym one) (of_one (λ edge. ¬ Contains c.args.index.now.links edge) c.args.come c.requires.new)))
