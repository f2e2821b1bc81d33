use Rattle.std.proofs.Common.{◌≢◌, ◌∙◌, ◌+◌, ◌<◌, ℕ, ap, sym, subst, List, All, AllPairs}
use Rattle.doem_history.specs.Types.{MOMENTS}
use Rattle.doem_history.specs.Histories.{KeptHistory}
use Rattle.doem_history.specs.Plans.{IsOpen, PlannedMoment, weight_of_come, CarriesOut}
use Rattle.doem_history.specs.inside.Kept.{AreKept}
use Rattle.doem_history.proofs.PlanLaws.{LeadsSome, names_going, objects_going, edges_going, ends_as}
use Rattle.doem_history.proofs.history.History.plan.Goals as goal

pub plan-requires-clause-apart : goal.plan-requires-clause-apart
plan-requires-clause-apart c =
    let h : KeptHistory = record { names = c.self.inside.names; objects = c.self.inside.objects; edges = c.self.inside.edges; last = c.self.inside.last; weight = c.self.inside.weight } in
    let leads = subst (λ (x : KeptHistory). LeadsSome x c.args.delta.now) (sym c.self.view_is) c.requires.leads in
    subst (λ (l : List _). AllPairs (λ a b. a ≢ b) l) (sym (c.as_slice.ensures.value ∙ c.in_ok-gone.ensures.facts)) (names_going h c.self.invariant c.args.delta.now leads).apart

pub plan-requires-clause-going : goal.plan-requires-clause-going
plan-requires-clause-going c =
    let h : KeptHistory = record { names = c.self.inside.names; objects = c.self.inside.objects; edges = c.self.inside.edges; last = c.self.inside.last; weight = c.self.inside.weight } in
    let leads = subst (λ (x : KeptHistory). LeadsSome x c.args.delta.now) (sym c.self.view_is) c.requires.leads in
    subst (λ (l : List _). All (λ fact. (place : ℕ) × IsOpen c.self.inside.names.runs place fact) l) (sym (c.as_slice.ensures.value ∙ c.in_ok-gone.ensures.facts))
    (names_going h c.self.invariant c.args.delta.now leads).open_all

pub plan-requires-2-clause-going : goal.plan-requires-2-clause-going
plan-requires-2-clause-going c =
    let h : KeptHistory = record { names = c.self.inside.names; objects = c.self.inside.objects; edges = c.self.inside.edges; last = c.self.inside.last; weight = c.self.inside.weight } in
    let leads = subst (λ (x : KeptHistory). LeadsSome x c.args.delta.now) (sym c.self.view_is) c.requires.leads in
    subst (λ (l : List _). All (λ fact. (place : ℕ) × IsOpen c.self.inside.objects.runs place fact) l) (sym c.as_slice-3.ensures)
    (objects_going h c.self.invariant c.args.delta.now leads).open_all

pub plan-requires-3-clause-apart : goal.plan-requires-3-clause-apart
plan-requires-3-clause-apart c =
    let h : KeptHistory = record { names = c.self.inside.names; objects = c.self.inside.objects; edges = c.self.inside.edges; last = c.self.inside.last; weight = c.self.inside.weight } in
    let leads = subst (λ (x : KeptHistory). LeadsSome x c.args.delta.now) (sym c.self.view_is) c.requires.leads in
    subst (λ (l : List _). AllPairs (λ a b. a ≢ b) l) (sym c.as_slice-5.ensures) (edges_going h c.self.invariant c.args.delta.now leads).apart

pub plan-requires-3-clause-going : goal.plan-requires-3-clause-going
plan-requires-3-clause-going c =
    let h : KeptHistory = record { names = c.self.inside.names; objects = c.self.inside.objects; edges = c.self.inside.edges; last = c.self.inside.last; weight = c.self.inside.weight } in
    let leads = subst (λ (x : KeptHistory). LeadsSome x c.args.delta.now) (sym c.self.view_is) c.requires.leads in
    subst (λ (l : List _). All (λ fact. (place : ℕ) × IsOpen c.self.inside.edges.runs place fact) l) (sym c.as_slice-5.ensures)
    (edges_going h c.self.invariant c.args.delta.now leads).open_all

pub plan-requires-3-clause-kept : goal.plan-requires-3-clause-kept
plan-requires-3-clause-kept c = subst (λ k. AreKept k c.self.inside.edges.runs) (sym c.self.invariant.edges.count) c.self.invariant.edges.facts.kept

pub returns : goal.returns
returns c =
    let h : KeptHistory = record { names = c.self.inside.names; objects = c.self.inside.objects; edges = c.self.inside.edges; last = c.self.inside.last; weight = c.self.inside.weight } in
    let plan : PlannedMoment = record { names = c.in_ok-names.names; objects = c.in_ok-objects.objects; edges = c.in_ok-edges.edges; weight = c.args.weight } in
    subst (λ (x : KeptHistory). CarriesOut x c.args.delta.now plan) c.self.view_is (record {
      names = ends_as _ _ _ _ _ _ (c.as_slice.ensures.value ∙ c.in_ok-gone.ensures.facts) c.requires.named c.in_ok-names.ensures;
      objects = ends_as _ _ _ _ _ _ c.as_slice-3.ensures (c.in_ok-come.ensures ∙ c.as_slice-2.ensures) c.in_ok-objects.ensures;
      edges = ends_as _ _ _ _ _ _ c.as_slice-5.ensures (c.in_ok-come-2.ensures ∙ c.as_slice-4.ensures) c.in_ok-edges.ensures;
      weight = c.requires.weight ∙ ap (λ (x : KeptHistory). x.weight + weight_of_come c.args.delta.now) (sym c.self.view_is);
      light = c.requires.light;
      early = subst (λ (x : KeptHistory). x.last < MOMENTS) (sym c.self.view_is) c.requires.early;
    })
