use Rattle.std.proofs.Common.{◌≡◌, List, [], ◌∷◌, ◌++◌, All, Contains, sym, subst, ◌∙◌, ap}
use Rattle.std.proofs.lemmas.Bool.{true≢false}
use Rattle.lore_base.specs.Databases.{AreAscendingEdges}
use Rattle.link_index.specs.Types.{Edge}
use Rattle.link_index.proofs.SampleLaws.{one_ascends, of_one}
use Rattle.link_index.proofs.link_index.tests.swap.Goals as goal

pub change-requires-clause-ascend : goal.change-requires-clause-ascend
change-requires-clause-ascend g c =
    let one : c.push.new.self ≡ c.args.gone ∷ [] = c.in_ok-push.ensures.ok ∙ ap (λ (l : List Edge). l ++ c.args.gone ∷ []) c.new-removed.ensures in
    subst AreAscendingEdges (sym one) (one_ascends c.args.gone)

pub change-requires-clause-kept : goal.change-requires-clause-kept
change-requires-clause-kept g c =
    let one : c.push.new.self ≡ c.args.gone ∷ [] = c.in_ok-push.ensures.ok ∙ ap (λ (l : List Edge). l ++ c.args.gone ∷ []) c.new-removed.ensures in
    subst (All (Contains c.args.index.now.links)) (sym one) (of_one (Contains c.args.index.now.links) c.args.gone (c.in_ok-held.ensures.0 c.if-not-held.false))

pub change-requires-clause-new : goal.change-requires-clause-new
change-requires-clause-new g c = λ is. true≢false (sym (c.in_ok-there.ensures.1 is) ∙ c.if-there.false)
