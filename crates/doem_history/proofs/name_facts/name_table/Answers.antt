use Rattle.doem_history.proofs.NameFactLaws.{bound_more, bound_all}
use Rattle.doem_history.proofs.name_facts.name_table.Goals as goal

pub facts-preserved : goal.facts-preserved
facts-preserved c =
    bound_more _ _ _ _ c.fact-item.result _ c.facts.invariant c.facts-test.true c.fact-item.is c.in_ok-try_copy.ensures c.in_ok-put.ensures.ok

pub returns : goal.returns
returns c = bound_all _ _ _ c.requires c.facts.invariant c.facts-test.false
