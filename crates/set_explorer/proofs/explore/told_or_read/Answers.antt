use Rattle.std.proofs.Common.{[], inl, inr, refl, sym, add-zero}
use Rattle.list_laws.proofs.MemberLaws.{Contains-map}
use Rattle.set_explorer.specs.Types.{GuideNode}
use Rattle.set_explorer.proofs.explore.told_or_read.Goals as goal

pub returns-in-Some-clause-steps : goal.returns-in-Some-clause-steps
returns-in-Some-clause-steps g c = rw c.in-Some.is at c.in_ok-told.ensures.steps

pub returns-in-Some-clause-there : goal.returns-in-Some-clause-there
returns-in-Some-clause-there g c = rw c.in-Some.is at c.in_ok-told.ensures.there

-- nothing is read of a set whose steps are told
pub returns-in-Some-clause-reads : goal.returns-in-Some-clause-reads
returns-in-Some-clause-reads g c =
    let stood = Contains-map (λ (n : GuideNode). n.set) c.args.change.now.guide.nodes.now c.args.there.now c.requires.there in
    ([], inr (inr (stood, refl)), sym (add-zero c.args.steps.now))

pub returns-clause-steps : goal.returns-clause-steps
returns-clause-steps g c = c.in_ok-targets.ensures.steps c.args.change.now.guide.nodes.now

pub returns-clause-there : goal.returns-clause-there
returns-clause-there g c = c.in_ok-targets.ensures.there c.args.change.now.guide.nodes.now

pub returns-clause-reads : goal.returns-clause-reads
returns-clause-reads g c = (c.args.there.now.set, inl refl, c.in_ok-targets.ensures.reads)
