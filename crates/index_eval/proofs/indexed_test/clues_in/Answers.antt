use Rattle.std.proofs.Common.{ap, sym, subst, All}
use Rattle.std.specs.Option.{option_copied}
use Rattle.std.proofs.lemmas.List.Elements.{All-nil}
use Rattle.std.proofs.lemmas.Result.{IfOk-weaker}
use Rattle.index_eval.specs.inside.Ends.{IsClueIn}
use Rattle.index_eval.proofs.TestLaws.{all_in}
use Rattle.index_eval.proofs.indexed_test.clues_in.Goals as goal

pub returns-in-Some : goal.returns-in-Some
returns-in-Some c =
    IfOk-weaker c.clues_of.result _ _ (λ clues all. all_in c.args.labels.now (option_copied c.args.cond) c.in-Some.cond.now clues.items
    (ap option_copied c.in-Some.is) all) c.clues_of.ensures

pub returns-in-None : goal.returns-in-None
returns-in-None c =
    subst (All (IsClueIn c.args.labels.now (option_copied c.args.cond))) (sym c.new.ensures.items) (All-nil (IsClueIn c.args.labels.now (option_copied c.args.cond)))
