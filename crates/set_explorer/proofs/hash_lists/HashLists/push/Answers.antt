use Rattle.std.proofs.Common.{◌≡◌, ℕ, List, [], ◌∷◌, ◌++◌, Contains, sym, ap, ◌∙◌, subst}
use Rattle.set_explorer.specs.Types.{Node}
use Rattle.set_explorer.specs.inside.HashLists.{listed}
use Rattle.set_explorer.proofs.ListedLaws.{listed-kept}
use Rattle.set_explorer.proofs.hash_lists.HashLists.push.Goals as goal

pub returns-clause-kept : goal.returns-clause-kept
returns-clause-kept c =
    let old = c.self.inside.lists.entries in
    let list : c.push.new.self ≡ listed old c.args.hash ++ c.args.node ∷ [] =
    c.in_ok-push.ensures.ok
    ∙ ap (λ (l : List Node). l ++ c.args.node ∷ [])
    (c.in_ok-append.ensures.ok ∙ ap (λ (l : List Node). l ++ c.get.result.now) c.new-list.ensures ∙ c.get.ensures
    ∙ ap (λ (l : List (ℕ × List Node)). listed l c.args.hash) (sym c.self.view_is)) in
    λ other there at. listed-kept old c.insert.new.self.entries c.args.hash c.push.new.self c.args.node list
    c.in_ok-insert.ensures.updates.0 other there
    (subst (λ (l : List (ℕ × List Node)). Contains (listed l other) there) (sym c.self.view_is) at)
