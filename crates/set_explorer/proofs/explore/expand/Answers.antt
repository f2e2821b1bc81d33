use Rattle.std.proofs.Common.{[], get_or, sym, subst}
use Rattle.std.proofs.lemmas.Result.{err_from_is_err_and}
use Rattle.set_explorer.specs.Types.{GuideFault}
use Rattle.set_explorer.specs.Nodes.{sets_of}
use Rattle.lore_base.specs.GuideLimits.{KeepLimits}
use Rattle.set_explorer.specs.inside.Founds.{found_sets, IsHalted}
use Rattle.set_explorer.proofs.ExpandLaws.{found-at, expanded, halted, place-stays}
use Rattle.set_explorer.proofs.LossLaws.{change-of}
use Rattle.set_explorer.proofs.explore.expand.Goals as goal

pub returns-clause-fit : goal.returns-clause-fit
returns-clause-fit g c = subst (KeepLimits c.args.limit) (sym c.put_edges.ensures.sets) c.in_ok-row.ensures.entered.fit

pub returns-clause-expanded : goal.returns-clause-expanded
returns-clause-expanded g c =
    let kept = c.args.change.now.guide.nodes.now in
    let at = found-at kept c.args.found.now c.args.place c.requires.place in
    let set = get_or (found_sets kept c.args.found.now) c.args.place [] in
    expanded kept (g.A.Adjacent.edges c.args.change.now.after.now) c.args.limit c.args.found.now c.enter_all.new.found
    c.put_edges.new.self
    c.args.place set c.in_ok-targets.targets.items c.in_ok-row.row at (c.in_ok-targets.ensures.steps set at)
    c.in_ok-row.ensures.entered c.put_edges.ensures.sets
    c.put_edges.ensures.edges c.put_edges.ensures.others

pub returns-clause-reads : goal.returns-clause-reads
returns-clause-reads g c = c.in_ok-targets.ensures.reads

pub returns-in_err-row-clause-halted : goal.returns-in_err-row-clause-halted
returns-in_err-row-clause-halted g c =
    let kept = c.args.change.now.guide.nodes.now in
    let edges = g.A.Adjacent.edges c.args.change.now.after.now in
    let sets = found_sets kept c.args.found.now in
    let at = found-at kept c.args.found.now c.args.place c.requires.place in
    let set = get_or sets c.args.place [] in
    let p = err_from_is_err_and c.from_residual-in_err-row.result c.from_residual-in_err-row.ensures.1 in
    rw p.1 (subst (λ (f : GuideFault). IsHalted f c.args.limit edges (sets_of kept) c.args.change.now.dirty.now
    c.args.change.now.grown.now sets c.args.place c.args.steps.now c.targets_at.new.steps) (sym p.2)
    (halted c.in_err-row.field-0.0 c.args.limit edges kept c.args.change.now.dirty.now c.args.change.now.grown.now sets
    c.args.place c.args.steps.now c.targets_at.new.steps set c.in_ok-targets.targets.items at (c.in_ok-targets.ensures.steps set at)
    (c.in_ok-targets.ensures.reads set at) c.in_err-row.ensures.stopped))

pub returns-in_err-targets-clause-halted : goal.returns-in_err-targets-clause-halted
returns-in_err-targets-clause-halted g c =
    let kept = c.args.change.now.guide.nodes.now in
    let p = err_from_is_err_and c.from_residual.result c.from_residual.ensures.1 in
    rw p.1 (subst (λ (f : GuideFault). IsHalted f c.args.limit (g.A.Adjacent.edges c.args.change.now.after.now)
    (sets_of kept) c.args.change.now.dirty.now c.args.change.now.grown.now
    (found_sets kept c.args.found.now) c.args.place c.args.steps.now c.targets_at.new.steps) (sym p.2) tt)

pub put_edges-requires-clause-place : goal.put_edges-requires-clause-place
put_edges-requires-clause-place g c =
    place-stays c.args.change.now.guide.nodes.now c.args.limit c.args.found.now c.enter_all.new.found
    c.in_ok-targets.targets.items
    c.in_ok-row.row c.args.place c.in_ok-row.ensures.entered c.requires.place

pub note_bases-requires : goal.note_bases-requires
note_bases-requires g c =
    let change = c.args.change.now in
    change-of change.guide.nodes.now change.lost.now change.fresh.now (g.A.Adjacent.edges change.after.now) change.told.now
    change.entering.now change.dirty.now change.grown.now change.back.now c.requires.told
