use Rattle.std.proofs.Common.{IfOk, IfSome, sym, subst}
use Rattle.lore_base.specs.Paths.{PathTree}
use Rattle.word_walks.specs.WordWalks.{IsItsWord}
use Rattle.word_walks.proofs.WordLaws.{step_tree}
use Rattle.word_walks.proofs.only_words.only_word.Goals as goal

pub returns-in-Step-clause-word : goal.returns-in-Step-clause-word
returns-in-Step-clause-word c =
    subst (λ (tree : PathTree). IfOk c.word_of_label.result (λ found. IfSome found (IsItsWord c.args.labels.now tree)))
    (sym (step_tree c.args.path.now c.in-Step.pattern c.in-Step.is)) c.word_of_label.ensures.word
