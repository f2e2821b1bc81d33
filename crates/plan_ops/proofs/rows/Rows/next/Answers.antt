use Rattle.std.proofs.Common.{◌≡◌, List, map, All, IfOk, OnOk, OnErr, sym, ap, ◌∙◌, subst}
use Rattle.lorel_bound.specs.Plans.{StepTree, steps_of}
use Rattle.plan_ops.specs.Types.{Oid}
use Rattle.plan_laws.specs.Steps.{steps_over}
use Rattle.plan_ops.specs.Rows.{IsToCome, AreSame, AnswersNext, ReadNothing}
use Rattle.plan_ops.specs.inside.Ready.{ReadyStep, ready_tree, HasFound}
use Rattle.plan_ops.specs.inside.Keeping.{AreKeptBy}
use Rattle.plan_ops.specs.inside.Machines.{AreHinted, IsMachine}
use Rattle.plan_ops.proofs.rows.Rows.next.Goals as goal

pub next_row-requires-clause-machine : goal.next_row-requires-clause-machine
next_row-requires-clause-machine g c =
    let inside = c.self.inside in
    let over = steps_over inside.sources.labels.now (g.A.Adjacent.edges inside.sources.graph.now) (g.K.Links.edges inside.sources.links.now)
    (g.V.Values.entries inside.sources.values.now) (g.P.Paths.reaches inside.sources.paths.now) (g.T.RowTest.passes inside.sources.test.now) in
    let same : map ready_tree c.as_slice.result.now ≡ steps_of inside.plan.now = ap (map ready_tree) c.as_slice.ensures.value ∙ c.self.invariant.ready_are in
    let old = inside.partials.items in
    subst (λ (s : List StepTree). IsMachine over s old) (sym same) c.self.invariant.machine

pub next_row-requires-clause-found : goal.next_row-requires-clause-found
next_row-requires-clause-found g c =
    subst (λ (r : List ReadyStep). All (HasFound c.self.inside.sources.labels.now (g.P.Paths.reaches c.self.inside.sources.paths.now)) r) (sym c.as_slice.ensures.value) c.self.invariant.found

pub next_row-requires-clause-kept : goal.next_row-requires-clause-kept
next_row-requires-clause-kept g c =
    let inside = c.self.inside in
    let over = steps_over inside.sources.labels.now (g.A.Adjacent.edges inside.sources.graph.now) (g.K.Links.edges inside.sources.links.now)
    (g.V.Values.entries inside.sources.values.now) (g.P.Paths.reaches inside.sources.paths.now) (g.T.RowTest.passes inside.sources.test.now) in
    let old = inside.kept.items in
    subst (λ (r : List ReadyStep). AreKeptBy over r old) (sym c.as_slice.ensures.value) c.self.invariant.kept_are

pub next_row-requires-clause-told : goal.next_row-requires-clause-told
next_row-requires-clause-told g c = c.self.invariant.told_are

pub next_row-requires-clause-hinted : goal.next_row-requires-clause-hinted
next_row-requires-clause-hinted g c =
    let inside = c.self.inside in
    let over = steps_over inside.sources.labels.now (g.A.Adjacent.edges inside.sources.graph.now) (g.K.Links.edges inside.sources.links.now)
    (g.V.Values.entries inside.sources.values.now) (g.P.Paths.reaches inside.sources.paths.now) (g.T.RowTest.passes inside.sources.test.now) in
    let hints = λ (row : List Oid). g.T.RowTest.passes inside.sources.test.now row × g.T.RowTest.passes inside.sources.hints.now row in
    let same : map ready_tree c.as_slice.result.now ≡ steps_of inside.plan.now = ap (map ready_tree) c.as_slice.ensures.value ∙ c.self.invariant.ready_are in
    let old = inside.partials.items in
    subst (λ (s : List StepTree). AreHinted over hints s old) (sym same) c.self.invariant.hinted

pub returns-clause-row : goal.returns-clause-row
returns-clause-row g c =
    let inside = c.self.inside in
    let over = steps_over inside.sources.labels.now (g.A.Adjacent.edges inside.sources.graph.now) (g.K.Links.edges inside.sources.links.now)
    (g.V.Values.entries inside.sources.values.now) (g.P.Paths.reaches inside.sources.paths.now) (g.T.RowTest.passes inside.sources.test.now) in
    let same : map ready_tree c.as_slice.result.now ≡ steps_of inside.plan.now = ap (map ready_tree) c.as_slice.ensures.value ∙ c.self.invariant.ready_are in
    let old = inside.partials.items in
    let new = c.next_row.new.partials.items in
    rw (← c.self.view_is)
    (subst (λ (s : List StepTree). IfOk c.next_row.result (AnswersNext (IsToCome over s old) (IsToCome over s new))) same c.next_row.ensures.row)

pub returns-clause-err : goal.returns-clause-err
returns-clause-err g c =
    let inside = c.self.inside in
    let over = steps_over inside.sources.labels.now (g.A.Adjacent.edges inside.sources.graph.now) (g.K.Links.edges inside.sources.links.now)
    (g.V.Values.entries inside.sources.values.now) (g.P.Paths.reaches inside.sources.paths.now) (g.T.RowTest.passes inside.sources.test.now) in
    let same : map ready_tree c.as_slice.result.now ≡ steps_of inside.plan.now = ap (map ready_tree) c.as_slice.ensures.value ∙ c.self.invariant.ready_are in
    let old = inside.partials.items in
    let new = c.next_row.new.partials.items in
    rw (← c.self.view_is)
    (subst (λ (s : List StepTree). OnErr c.next_row.result (AreSame (IsToCome over s old) (IsToCome over s new))) same c.next_row.ensures.err)

pub returns-clause-quiet : goal.returns-clause-quiet
returns-clause-quiet g c =
    let inside = c.self.inside in
    let over = steps_over inside.sources.labels.now (g.A.Adjacent.edges inside.sources.graph.now) (g.K.Links.edges inside.sources.links.now)
    (g.V.Values.entries inside.sources.values.now) (g.P.Paths.reaches inside.sources.paths.now) (g.T.RowTest.passes inside.sources.test.now) in
    let same : map ready_tree c.as_slice.result.now ≡ steps_of inside.plan.now = ap (map ready_tree) c.as_slice.ensures.value ∙ c.self.invariant.ready_are in
    let old = inside.partials.items in
    let new = c.next_row.new.partials.items in
    rw (← c.self.view_is)
    (subst (λ (s : List StepTree). ReadNothing over s old → OnOk c.next_row.result (c.next_row.new.steps ≡ c.args.steps.now) × ReadNothing over s new) same c.next_row.ensures.quiet)

pub invariant_of-self : goal.invariant_of-self
invariant_of-self g c =
    let inside = c.self.inside in
    let over = steps_over inside.sources.labels.now (g.A.Adjacent.edges inside.sources.graph.now) (g.K.Links.edges inside.sources.links.now)
    (g.V.Values.entries inside.sources.values.now) (g.P.Paths.reaches inside.sources.paths.now) (g.T.RowTest.passes inside.sources.test.now) in
    let hints = λ (row : List Oid). g.T.RowTest.passes inside.sources.test.now row × g.T.RowTest.passes inside.sources.hints.now row in
    let same : map ready_tree c.as_slice.result.now ≡ steps_of inside.plan.now = ap (map ready_tree) c.as_slice.ensures.value ∙ c.self.invariant.ready_are in
    let new = c.next_row.new.partials.items in
    let kept = c.next_row.new.kept.items in
    record {
      ready_are = c.self.invariant.ready_are;
      found = c.self.invariant.found;
      kept_are = subst (λ (r : List ReadyStep). AreKeptBy over r kept) c.as_slice.ensures.value c.next_row.ensures.kept;
      told_are = c.next_row.ensures.told;
      hinted = subst (λ (s : List StepTree). AreHinted over hints s new) same c.next_row.ensures.hinted;
      machine = subst (λ (s : List StepTree). IsMachine over s new) same c.next_row.ensures.machine;
    }
