use Rattle.std.proofs.Common.{◌∙◌, ◌+◌, sym, subst, take, List}
use Rattle.std.proofs.lemmas.List.{take_all}
use Rattle.lore_base.specs.Deltas.{ListsOnlyIn}
use Rattle.doem_facts.proofs.FactSetLaws.{AreLeft, left_on_at, left_past_at}
use Rattle.doem_facts.proofs.fact_sets.without.Goals as goal
use Rattle.doem_facts.proofs.fact_sets.without.Goals.{then-not-is_among+in_ok-copied+in_ok-push, else-not-is_among}

pub facts-preserved : goal.facts-preserved
facts-preserved g c = elim c.if-not-is_among.branch [
  | then-not-is_among+in_ok-copied+in_ok-push w ↦ left_on_at g.F.Fact.order c.args.facts.now c.args.others.now c.requires.facts c.facts.fact-index c.fact-item.result c.facts-test.true c.fact-item.is
      c.facts.only c.if-not-is_among.only _ c.is_among.result c.facts.invariant c.is_among.ensures w.if-not-is_among.true w.in_ok-copied.ensures (w.only-is ∙ w.in_ok-push.ensures.ok)
  | else-not-is_among w ↦ subst (λ (l : List _). AreLeft g.F.Fact.order (take (c.facts.fact-index + 1) c.args.facts.now) c.args.others.now l) (sym w.only-is)
      (left_past_at g.F.Fact.order c.args.facts.now c.args.others.now c.requires.facts c.facts.fact-index c.fact-item.result c.facts-test.true c.fact-item.is
      c.facts.only c.is_among.result c.facts.invariant c.is_among.ensures w.if-not-is_among.false)
]

pub returns-clause-exact : goal.returns-clause-exact
returns-clause-exact g c =
    subst (λ (l : List _). ListsOnlyIn c.facts.only l c.args.others.now) (take_all c.facts.fact-index c.args.facts.now c.facts-test.false) c.facts.invariant.exact
