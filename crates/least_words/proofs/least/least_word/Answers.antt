use Rattle.std.proofs.Common.{◌≡◌, sym, subst}
use Rattle.std.proofs.lemmas.Result.{IfOk-weaker}
use Rattle.least_words.specs.MachineWords.{word_to, IsLeastOfPath}
use Rattle.least_words.proofs.least.least_word.Goals as goal

pub returns-clause-spelled : goal.returns-clause-spelled
returns-clause-spelled g c =
    let labels = g.T.LabelTest.texts c.args.labels.now in
    let edges = g.A.Adjacent.edges c.args.graph.now in
    let least = IsLeastOfPath labels edges c.args.automaton.now c.args.from c.args.to in
    IfOk-weaker c.word.result (λ word. word ≡ word_to c.in_ok-words.words c.args.to) least
    (λ word is. subst least (sym is) (c.in_ok-words.ensures.spelled c.args.to)) c.word.ensures
