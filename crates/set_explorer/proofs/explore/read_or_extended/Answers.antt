use Rattle.std.proofs.Common.{List, Option, IfSome, inl, inr, subst}
use Rattle.list_laws.proofs.MemberLaws.{Contains-map}
use Rattle.set_explorer.specs.Types.{Oid, GuideNode}
use Rattle.set_explorer.specs.Touched.{IsExtended}
use Rattle.set_explorer.proofs.explore.read_or_extended.Goals as goal

pub returns-in-Some-2-clause-steps : goal.returns-in-Some-2-clause-steps
returns-in-Some-2-clause-steps g c =
    let change = c.args.change.now in
    let extended = subst (λ (found : Option (List Oid)). IfSome found
    (λ more. IsExtended change.dirty.now change.grown.now c.in-Some.there.now.set more c.args.set.now)) c.in-Some-2.is
    c.in_ok-more.ensures in
    c.in_ok-targets.ensures.steps c.args.set.now extended

pub returns-in-Some-2-clause-reads : goal.returns-in-Some-2-clause-reads
returns-in-Some-2-clause-reads g c =
    let change = c.args.change.now in
    let there = c.in-Some.there.now in
    let extended = subst (λ (found : Option (List Oid)). IfSome found
    (λ more. IsExtended change.dirty.now change.grown.now there.set more c.args.set.now)) c.in-Some-2.is
    c.in_ok-more.ensures in
    let stood = Contains-map (λ (n : GuideNode). n.set) change.guide.nodes.now there c.in-Some.ensures in
    (c.in-Some-2.more, inr (inl (c.requires.new, (there.set, stood, extended))), c.in_ok-targets.ensures.reads)

pub returns-clause-steps : goal.returns-clause-steps
returns-clause-steps g c = c.in_ok-targets-2.ensures.steps c.args.change.now.guide.nodes.now
