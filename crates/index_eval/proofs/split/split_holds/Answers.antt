use Rattle.std.proofs.Common.{◌↔◌, List, IsTrue, IfOk, All, sym, subst, ◌∙◌}
use Rattle.std.proofs.lemmas.Bool.{false≢true}
use Rattle.std.proofs.lemmas.Result.{IfOk-weaker}
use Rattle.lorel_eval.specs.Tests.{CondOver}
use Rattle.index_eval.specs.inside.Listing.{PassesOn}
use Rattle.index_eval.proofs.split.split_holds.Goals as goal

pub returns-then-not-has_listed : goal.returns-then-not-has_listed
returns-then-not-has_listed g c = (
  λ no. absurd (false≢true no),
  λ has. absurd (false≢true (sym c.if-not-has_listed.true ∙ c.has_listed.ensures.1 has.0)),
)

pub returns : goal.returns
returns g c =
    IfOk-weaker c.all_hold.result _ _ (λ answer tells. (
      λ yes. (c.has_listed.ensures.0 c.if-not-has_listed.false, tells.0 yes),
      λ has. tells.1 has.1,
    ))
    (subst (λ (l : List CondOver). IfOk c.all_hold.result (λ answer. IsTrue answer ↔ All (PassesOn c.args.row.now) l)) c.as_slice.ensures.value c.all_hold.ensures)
