use Rattle.std.proofs.Common.{◌≡◌, List, Option, Some, IfOk, subst, sym}
use Rattle.std.specs.List.{slice_get}
use Rattle.std.proofs.lemmas.Result.{IfOk-weaker}
use Rattle.lore_base.specs.Paths.{path_tree}
use Rattle.lorel_bound.specs.SlotRows.{StartsAt}
use Rattle.least_words.specs.MachineWords.{word_to}
use Rattle.answers.specs.Types.{Label}
use Rattle.answers.specs.inside.Words.{WordsOver, HasWord}
use Rattle.answers.proofs.WordLaws.{has_word}
use Rattle.answers.proofs.ReadLaws.{row_shows}
use Rattle.answers.proofs.slot_words.SlotWords.word.Goals as goal

pub returns-in-Some-clause-word : goal.returns-in-Some-clause-word
returns-in-Some-clause-word g c =
    let ends : slice_get c.args.row.now c.args.self.now.slot ≡ Some c.get-to.result =
    subst (λ (over : WordsOver). slice_get c.args.row.now over.slot ≡ Some c.get-to.result) c.self.view_is c.get-to.ensures.oid in
    IfOk-weaker c.word.result (λ (word : Option (List Label)). word ≡ word_to c.in-Some.words.now c.get-to.result) (HasWord c.args.self.now c.args.row.now)
    (λ word. has_word c.args.self.now c.args.row.now c.start-from.result c.get-to.result c.in-Some.words.now word c.start-from.ensures ends c.in-Some.ensures)
    c.word.ensures

pub invariant_of-self : goal.invariant_of-self
invariant_of-self g c = (
  c.self.invariant.0,
  c.self.invariant.1,
  c.self.invariant.2,
  λ to. c.in_ok-words.ensures.spelled to (path_tree c.self.inside.range.now.path) c.self.invariant.2,
)

pub returns-clause-word : goal.returns-clause-word
returns-clause-word g c =
    let over : WordsOver = record {
      labels = c.self.inside.labels.now;
      edges = g.A.Adjacent.edges c.self.inside.graph.now;
      range = c.self.inside.range.now;
      slot = c.self.inside.slot;
    } in
    let begins : StartsAt c.args.row.now over.range.start c.start-from.result =
    subst (λ (own : WordsOver). StartsAt c.args.row.now own.range.start c.start-from.result) (sym c.self.view_is) c.start-from.ensures in
    subst (λ (own : WordsOver). IfOk c.word-word.result (HasWord own c.args.row.now)) c.self.view_is
    (IfOk-weaker c.word-word.result (λ (word : Option (List Label)). word ≡ word_to c.in_ok-words.words c.get-to.result) (HasWord over c.args.row.now)
    (λ word. has_word over c.args.row.now c.start-from.result c.get-to.result c.in_ok-words.words word begins c.get-to.ensures.oid
    (λ to. c.in_ok-words.ensures.spelled to (path_tree c.self.inside.range.now.path) c.self.invariant.2))
    c.word-word.ensures)
