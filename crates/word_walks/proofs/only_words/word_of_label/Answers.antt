use Rattle.std.proofs.Common.{◌≡◌, ◌↔◌, ◌++◌, ◌∷◌, [], List, sym, ap, ◌∙◌, subst}
use Rattle.lore_base.specs.Paths.{step, Spells}
use Rattle.word_walks.specs.Types.{Label}
use Rattle.word_walks.proofs.only_words.word_of_label.Goals as goal

pub returns-in_ok-push-in-Found-clause-word : goal.returns-in_ok-push-in-Found-clause-word
returns-in_ok-push-in-Found-clause-word c = λ word.
    let label = c.in-Found.label in
    let is : c.push.new.self ≡ label ∷ [] = c.in_ok-push-in-Found.ensures.ok ∙ ap (λ (l : List Label). l ++ label ∷ []) c.new-word.ensures in
    subst (λ (l : List Label). Spells c.args.labels.now (step c.args.pattern.now) word ↔ (word ≡ l)) (sym is) (c.in-Found.ensures word)
