use Rattle.std.proofs.Common.{◌+◌}
use Rattle.doem_history.specs.Histories.{KeptHistory}
use Rattle.doem_history.specs.Plans.{PlannedMoment}
use Rattle.doem_history.proofs.PlanLaws.{names_can, objects_can, edges_can, moments_then, history_then, appends_as, commits_as}
use Rattle.doem_history.proofs.history.History.commit.Goals as goal

pub append-requires-clause-kept : goal.append-requires-clause-kept
append-requires-clause-kept c =
    let h : KeptHistory = record { names = c.self.inside.names; objects = c.self.inside.objects; edges = c.self.inside.edges; last = c.self.inside.last; weight = c.self.inside.weight } in
    let p : PlannedMoment = record { names = c.plan.inside.names; objects = c.plan.inside.objects; edges = c.plan.inside.edges; weight = c.plan.inside.weight } in
    (names_can h c.self.invariant p _ (appends_as h _ p _ c.self.view_is c.plan.view_is _ c.requires.appends.1)).are_kept

pub append-requires-clause-ending : goal.append-requires-clause-ending
append-requires-clause-ending c =
    let h : KeptHistory = record { names = c.self.inside.names; objects = c.self.inside.objects; edges = c.self.inside.edges; last = c.self.inside.last; weight = c.self.inside.weight } in
    let p : PlannedMoment = record { names = c.plan.inside.names; objects = c.plan.inside.objects; edges = c.plan.inside.edges; weight = c.plan.inside.weight } in
    (names_can h c.self.invariant p _ (appends_as h _ p _ c.self.view_is c.plan.view_is _ c.requires.appends.1)).ending

pub append-requires-clause-few : goal.append-requires-clause-few
append-requires-clause-few c =
    let h : KeptHistory = record { names = c.self.inside.names; objects = c.self.inside.objects; edges = c.self.inside.edges; last = c.self.inside.last; weight = c.self.inside.weight } in
    let p : PlannedMoment = record { names = c.plan.inside.names; objects = c.plan.inside.objects; edges = c.plan.inside.edges; weight = c.plan.inside.weight } in
    (names_can h c.self.invariant p _ (appends_as h _ p _ c.self.view_is c.plan.view_is _ c.requires.appends.1)).few

pub append-requires-2-clause-kept : goal.append-requires-2-clause-kept
append-requires-2-clause-kept c =
    let h : KeptHistory = record { names = c.self.inside.names; objects = c.self.inside.objects; edges = c.self.inside.edges; last = c.self.inside.last; weight = c.self.inside.weight } in
    let p : PlannedMoment = record { names = c.plan.inside.names; objects = c.plan.inside.objects; edges = c.plan.inside.edges; weight = c.plan.inside.weight } in
    (objects_can h c.self.invariant p _ (appends_as h _ p _ c.self.view_is c.plan.view_is _ c.requires.appends.1)).are_kept

pub append-requires-2-clause-ending : goal.append-requires-2-clause-ending
append-requires-2-clause-ending c =
    let h : KeptHistory = record { names = c.self.inside.names; objects = c.self.inside.objects; edges = c.self.inside.edges; last = c.self.inside.last; weight = c.self.inside.weight } in
    let p : PlannedMoment = record { names = c.plan.inside.names; objects = c.plan.inside.objects; edges = c.plan.inside.edges; weight = c.plan.inside.weight } in
    (objects_can h c.self.invariant p _ (appends_as h _ p _ c.self.view_is c.plan.view_is _ c.requires.appends.1)).ending

pub append-requires-2-clause-few : goal.append-requires-2-clause-few
append-requires-2-clause-few c =
    let h : KeptHistory = record { names = c.self.inside.names; objects = c.self.inside.objects; edges = c.self.inside.edges; last = c.self.inside.last; weight = c.self.inside.weight } in
    let p : PlannedMoment = record { names = c.plan.inside.names; objects = c.plan.inside.objects; edges = c.plan.inside.edges; weight = c.plan.inside.weight } in
    (objects_can h c.self.invariant p _ (appends_as h _ p _ c.self.view_is c.plan.view_is _ c.requires.appends.1)).few

pub append-requires-3-clause-kept : goal.append-requires-3-clause-kept
append-requires-3-clause-kept c =
    let h : KeptHistory = record { names = c.self.inside.names; objects = c.self.inside.objects; edges = c.self.inside.edges; last = c.self.inside.last; weight = c.self.inside.weight } in
    let p : PlannedMoment = record { names = c.plan.inside.names; objects = c.plan.inside.objects; edges = c.plan.inside.edges; weight = c.plan.inside.weight } in
    (edges_can h c.self.invariant p _ (appends_as h _ p _ c.self.view_is c.plan.view_is _ c.requires.appends.1)).are_kept

pub append-requires-3-clause-ending : goal.append-requires-3-clause-ending
append-requires-3-clause-ending c =
    let h : KeptHistory = record { names = c.self.inside.names; objects = c.self.inside.objects; edges = c.self.inside.edges; last = c.self.inside.last; weight = c.self.inside.weight } in
    let p : PlannedMoment = record { names = c.plan.inside.names; objects = c.plan.inside.objects; edges = c.plan.inside.edges; weight = c.plan.inside.weight } in
    (edges_can h c.self.invariant p _ (appends_as h _ p _ c.self.view_is c.plan.view_is _ c.requires.appends.1)).ending

pub append-requires-3-clause-few : goal.append-requires-3-clause-few
append-requires-3-clause-few c =
    let h : KeptHistory = record { names = c.self.inside.names; objects = c.self.inside.objects; edges = c.self.inside.edges; last = c.self.inside.last; weight = c.self.inside.weight } in
    let p : PlannedMoment = record { names = c.plan.inside.names; objects = c.plan.inside.objects; edges = c.plan.inside.edges; weight = c.plan.inside.weight } in
    (edges_can h c.self.invariant p _ (appends_as h _ p _ c.self.view_is c.plan.view_is _ c.requires.appends.1)).few

pub invariant_of-self : goal.invariant_of-self
invariant_of-self c =
    let h : KeptHistory = record { names = c.self.inside.names; objects = c.self.inside.objects; edges = c.self.inside.edges; last = c.self.inside.last; weight = c.self.inside.weight } in
    let p : PlannedMoment = record { names = c.plan.inside.names; objects = c.plan.inside.objects; edges = c.plan.inside.edges; weight = c.plan.inside.weight } in
    let appends = appends_as h _ p _ c.self.view_is c.plan.view_is _ c.requires.appends.1 in
    history_then h c.self.invariant p _ appends c.append.new.self c.append-2.new.self c.append-3.new.self
    (record { runs = c.append.ensures.runs; moments = c.append.ensures.moments })
    (record { runs = c.append-2.ensures.runs; moments = c.append-2.ensures.moments })
    (record { runs = c.append-3.ensures.runs; moments = c.append-3.ensures.moments })

pub returns : goal.returns
returns c =
    let h : KeptHistory = record { names = c.self.inside.names; objects = c.self.inside.objects; edges = c.self.inside.edges; last = c.self.inside.last; weight = c.self.inside.weight } in
    let p : PlannedMoment = record { names = c.plan.inside.names; objects = c.plan.inside.objects; edges = c.plan.inside.edges; weight = c.plan.inside.weight } in
    let new : KeptHistory = record { names = c.append.new.self; objects = c.append-2.new.self; edges = c.append-3.new.self; last = c.self.inside.last + 1; weight = c.plan.inside.weight } in
    commits_as h _ p _ new c.self.view_is c.plan.view_is (λ after appends.
    moments_then h c.self.invariant p after appends c.append.new.self c.append-2.new.self c.append-3.new.self
    (record { runs = c.append.ensures.runs; moments = c.append.ensures.moments })
    (record { runs = c.append-2.ensures.runs; moments = c.append-2.ensures.moments })
    (record { runs = c.append-3.ensures.runs; moments = c.append-3.ensures.moments }))
