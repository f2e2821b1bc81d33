use Rattle.std.proofs.Common.{List, inl, inr, sym, ◌∙◌, subst, refl}
use Rattle.std.proofs.lemmas.Bool.{false≢true}
use Rattle.list_laws.proofs.PlaceLaws.{Contains-from_place}
use Rattle.set_explorer.specs.Types.{Oid, Kept}
use Rattle.set_explorer.specs.Touched.{Meet}
use Rattle.set_explorer.specs.Nodes.{sets_of}
use Rattle.set_explorer.specs.PlannedNodes.{origin_set}
use Rattle.set_steps.specs.SetSteps.{AreSteps}
use Rattle.set_explorer.specs.inside.Founds.{steps_of, Costs}
use Rattle.set_explorer.proofs.ReadLaws.{kept-is, clean-untouched}
use Rattle.set_explorer.proofs.LossLaws.{change-of}
use Rattle.set_explorer.proofs.explore.kept_or_read.Goals as goal

pub returns-then-meets-clause-steps : goal.returns-then-meets-clause-steps
returns-then-meets-clause-steps g c =
    let kept = c.args.change.now.guide.nodes.now in
    subst (λ (s : List Oid). AreSteps (g.A.Adjacent.edges c.args.change.now.after.now) s
    (steps_of kept c.in_ok-targets.targets.items))
    (sym (kept-is kept c.args.node c.node_of-there.result.now c.requires.there c.node_of-there.ensures))
    c.in_ok-targets.ensures.steps

pub told_or_read-requires-clause-there : goal.told_or_read-requires-clause-there
told_or_read-requires-clause-there g c =
    Contains-from_place c.args.change.now.guide.nodes.now c.args.node.0 c.node_of-there.result.now c.node_of-there.ensures

pub returns-then-meets-clause-reads : goal.returns-then-meets-clause-reads
returns-then-meets-clause-reads g c =
    let kept = c.args.change.now.guide.nodes.now in
    let edges = g.A.Adjacent.edges c.args.change.now.after.now in
    subst (λ (s : List Oid). Costs (sets_of kept) c.args.change.now.dirty.now c.args.change.now.grown.now edges s c.args.steps.now
    c.told_or_read.new.steps)
    (sym (kept-is kept c.args.node c.node_of-there.result.now c.requires.there c.node_of-there.ensures))
    (inl (inr (c.meets.ensures.0 c.if-meets.true), c.in_ok-targets.ensures.reads))

pub kept_or_grown-requires-clause-stood : goal.kept_or_grown-requires-clause-stood
kept_or_grown-requires-clause-stood g c =
    let change = c.args.change.now in
    change-of change.guide.nodes.now change.lost.now change.fresh.now (g.A.Adjacent.edges change.after.now) change.told.now
    change.entering.now change.dirty.now change.grown.now change.back.now c.requires.told

pub kept_or_grown-requires-clause-there : goal.kept_or_grown-requires-clause-there
kept_or_grown-requires-clause-there g c =
    Contains-from_place c.args.change.now.guide.nodes.now c.args.node.0 c.node_of-there.result.now c.node_of-there.ensures

pub kept_or_grown-requires-clause-clean : goal.kept_or_grown-requires-clause-clean
kept_or_grown-requires-clause-clean g c = λ m. false≢true (sym c.if-meets.false ∙ c.meets.ensures.1 m)

pub returns-clause-steps : goal.returns-clause-steps
returns-clause-steps g c =
    let kept = c.args.change.now.guide.nodes.now in
    subst (λ (s : List Oid). AreSteps (g.A.Adjacent.edges c.args.change.now.after.now) s
    (steps_of kept c.in_ok-targets-2.targets.items))
    (sym (kept-is kept c.args.node c.node_of-there.result.now c.requires.there c.node_of-there.ensures))
    c.in_ok-targets-2.ensures.steps

pub returns-clause-reads : goal.returns-clause-reads
returns-clause-reads g c =
    let kept = c.args.change.now.guide.nodes.now in
    let node = c.node_of-there.result.now in
    let same = kept-is kept c.args.node node c.requires.there c.node_of-there.ensures in
    let clean = λ (m : Meet (origin_set kept (Kept c.args.node)) c.args.change.now.dirty.now).
    false≢true (sym c.if-meets.false ∙ c.meets.ensures.1 (subst (λ (s : List Oid). Meet s c.args.change.now.dirty.now)
    same m)) in
    inr (clean-untouched kept c.args.change.now.dirty.now c.args.node c.requires.there clean, refl)
