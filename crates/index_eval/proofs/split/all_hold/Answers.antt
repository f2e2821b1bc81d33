use Rattle.std.proofs.Common.{List, All, refl, sym, subst, ◌∙◌}
use Rattle.std.proofs.lemmas.Bool.{false≢true}
use Rattle.std.proofs.lemmas.List.{take_all}
use Rattle.std.proofs.lemmas.List.Elements.{All-nil, All-more}
use Rattle.lorel_eval.specs.Tests.{CondOver}
use Rattle.index_eval.specs.inside.Listing.{PassesOn}
use Rattle.index_eval.proofs.split.all_hold.Goals as goal

pub tests-init : goal.tests-init
tests-init g c = All-nil (PassesOn c.args.row.now)

pub returns-then-not-branch : goal.returns-then-not-branch
returns-then-not-branch g c = (
  λ no. absurd (false≢true no),
  λ all. absurd (false≢true (sym c.if-not-branch.true ∙ c.in_ok-holds.ensures.1
      (subst (PassesOn c.args.row.now) (sym c.test-item.is) (all c.tests.test-index c.test-item.result c.tests-test.true)))),
)

pub tests-preserved : goal.tests-preserved
tests-preserved g c =
    All-more (PassesOn c.args.row.now) c.args.tests.now c.tests.test-index c.test-item.result c.tests-test.true c.tests.invariant
    (subst (PassesOn c.args.row.now) c.test-item.is (c.in_ok-holds.ensures.0 c.if-not-branch.false))

pub returns : goal.returns
returns g c = (
  λ yes. subst (λ (l : List CondOver). All (PassesOn c.args.row.now) l) (take_all c.tests.test-index c.args.tests.now c.tests-test.false) c.tests.invariant,
  λ all. refl,
)
