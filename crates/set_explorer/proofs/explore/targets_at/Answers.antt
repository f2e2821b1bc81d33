use Rattle.std.proofs.Common.{List, Some, inl, ap, ◌∙◌, subst}
use Rattle.set_explorer.specs.Types.{Oid, Kept, Fresh}
use Rattle.set_explorer.specs.Nodes.{sets_of}
use Rattle.set_steps.specs.SetSteps.{AreSteps}
use Rattle.set_explorer.specs.inside.Founds.{steps_of, Costs}
use Rattle.set_explorer.proofs.ReadLaws.{origin-is, origin-within, fresh-touched}
use Rattle.set_explorer.proofs.LossLaws.{change-of}
use Rattle.set_explorer.proofs.explore.targets_at.Goals as goal

pub returns-in-Fresh-clause-steps : goal.returns-in-Fresh-clause-steps
returns-in-Fresh-clause-steps g c = λ set at.
    let kept = c.args.change.now.guide.nodes.now in
    let own = origin-is kept c.args.found.now c.args.place (Fresh c.in-Fresh.set)
    (c.origin_at.ensures ∙ ap Some c.in-Fresh.is) set at in
    subst (λ (s : List Oid). AreSteps (g.A.Adjacent.edges c.args.change.now.after.now) s
    (steps_of kept c.in_ok-targets-in-Fresh.targets.items)) own
    c.in_ok-targets-in-Fresh.ensures.steps

pub returns-in-Fresh-clause-reads : goal.returns-in-Fresh-clause-reads
returns-in-Fresh-clause-reads g c = λ set at.
    let kept = c.args.change.now.guide.nodes.now in
    let origin = c.origin_at.ensures ∙ ap Some c.in-Fresh.is in
    let own = origin-is kept c.args.found.now c.args.place (Fresh c.in-Fresh.set) origin set at in
    let new = fresh-touched kept c.args.found.now c.requires.found c.args.place c.in-Fresh.set origin in
    subst (λ (s : List Oid). Costs (sets_of kept) c.args.change.now.dirty.now
    c.args.change.now.grown.now (g.A.Adjacent.edges c.args.change.now.after.now) s c.args.steps.now
    c.read_or_extended.new.steps) own (inl (inl new, c.in_ok-targets-in-Fresh.ensures.reads))

pub returns-in-Kept-clause-steps : goal.returns-in-Kept-clause-steps
returns-in-Kept-clause-steps g c = λ set at.
    let kept = c.args.change.now.guide.nodes.now in
    let own = origin-is kept c.args.found.now c.args.place (Kept c.in-Kept.node)
    (c.origin_at.ensures ∙ ap Some c.in-Kept.is) set at in
    subst (λ (s : List Oid). AreSteps (g.A.Adjacent.edges c.args.change.now.after.now) s
    (steps_of kept c.in_ok-targets-in-Kept.targets.items)) own
    c.in_ok-targets-in-Kept.ensures.steps

pub returns-in-Kept-clause-reads : goal.returns-in-Kept-clause-reads
returns-in-Kept-clause-reads g c = λ set at.
    let kept = c.args.change.now.guide.nodes.now in
    let own = origin-is kept c.args.found.now c.args.place (Kept c.in-Kept.node)
    (c.origin_at.ensures ∙ ap Some c.in-Kept.is) set at in
    subst (λ (s : List Oid). Costs (sets_of kept) c.args.change.now.dirty.now
    c.args.change.now.grown.now (g.A.Adjacent.edges c.args.change.now.after.now) s c.args.steps.now
    c.kept_or_read.new.steps) own c.in_ok-targets-in-Kept.ensures.reads

pub kept_or_read-requires-clause-there : goal.kept_or_read-requires-clause-there
kept_or_read-requires-clause-there g c =
    origin-within c.args.change.now.guide.nodes.now c.args.found.now c.requires.found c.args.place (Kept c.in-Kept.node)
    (c.origin_at.ensures ∙ ap Some c.in-Kept.is)

pub read_or_extended-requires-clause-new : goal.read_or_extended-requires-clause-new
read_or_extended-requires-clause-new g c =
    fresh-touched c.args.change.now.guide.nodes.now c.args.found.now c.requires.found c.args.place c.in-Fresh.set
    (c.origin_at.ensures ∙ ap Some c.in-Fresh.is)

pub read_or_extended-requires-clause-stood : goal.read_or_extended-requires-clause-stood
read_or_extended-requires-clause-stood g c =
    let change = c.args.change.now in
    change-of change.guide.nodes.now change.lost.now change.fresh.now (g.A.Adjacent.edges change.after.now) change.told.now
    change.entering.now change.dirty.now change.grown.now change.back.now c.requires.told
