-- What a plan is made of, and what a history tells once it is put in place.
use Rattle.std.proofs.Common.{◌≡◌, ◌≢◌, ℕ, ◌+◌, ◌*◌, ◌^◌, ◌<◌, ◌≤◌, inl, List, [], ◌∷◌, ◌++◌, length, map, All, AllPairs, sym, ap, ◌∙◌, subst, arith}
use Rattle.std.specs.List.{range_with_len}
use Rattle.std.specs.Cmp.{IsTotalOrder}
use Rattle.std.specs.declared.cmp.Ordering.{Ordering}
use Rattle.std.proofs.lemmas.List.{same_lists, length_push}
use Rattle.std.proofs.lemmas.List.FromFn.{map-range_with_len_more, get_or-map-range_with_len, length-map-range_with_len}
use Rattle.lore_base.specs.Walks.{edge_cmp}
use Rattle.doem_history.specs.Types.{Oid, Edge, Value, Delta, Run, STANDING, HISTORY_WEIGHT, MOMENTS}
use Rattle.doem_history.specs.Facts.{name_order, object_order, object_weight}
use Rattle.doem_history.specs.inside.FactLaws.{name_total, object_total, edge_total, name_heavy, object_heavy, edge_heavy}
use Rattle.doem_history.specs.Moments.{Moment, LeadsTo, IsFull}
use Rattle.doem_history.specs.Histories.{facts_at, ordered, KeptRuns, KeptHistory, moment_at, last_moment, moments_of, AreSame, IsSame}
use Rattle.doem_history.specs.Plans.{IsOpen, AreEnding, PlannedRuns, PlannedMoment, Ends, weight_of_come, CarriesOut, Appends}
use Rattle.doem_history.specs.inside.Kept.{AreFacts, AreKept, moved_on, IsKept, IsHistory, weight_of_runs}
use Rattle.doem_history.specs.inside.Leads.{Leads, LeadsOn}
use Rattle.doem_history.proofs.DeltaLaws.{leads_on}
use Rattle.doem_history.proofs.HistoryLaws.{IsStep, heavy_facts, step_told, all_opened, gone_apart, count_moments, full_heavy, not_full}

-- ---- preparing
-- some moment is led to
abbrev pub LeadsSome : KeptHistory → Delta → Type 0
LeadsSome h delta = (after : Moment) × LeadsTo (last_moment h) after delta

-- runs of facts that are distinct and all go on
pub record AreGoing {F : Type 0} (runs : List (Run F)) (gone : List F) : Type 0 where
  pub apart : AllPairs (λ a b. a ≢ b) gone
  pub open_all : All (λ fact. (place : ℕ) × IsOpen runs place fact) gone

module _ (h : KeptHistory) (is : IsHistory h) (delta : Delta) (some : LeadsSome h delta) where
  leads : LeadsOn (last_moment h) some.0 delta
  leads = leads_on (last_moment h) some.0 delta some.1

  pub names_going : AreGoing h.names.runs delta.names_gone
  names_going = record {
    apart = gone_apart name_order name_total (λ _. 64) h.names.runs h.last is.names.facts delta.names_gone delta.names_come some.0.names leads.names;
    open_all = all_opened name_order name_total (λ _. 64) h.names.runs h.last is.names.facts delta.names_gone delta.names_come some.0.names leads.names;
  }

  pub objects_going : AreGoing h.objects.runs delta.objects_gone
  objects_going = record {
    apart = gone_apart object_order object_total object_weight h.objects.runs h.last is.objects.facts delta.objects_gone delta.objects_come some.0.objects leads.objects;
    open_all = all_opened object_order object_total object_weight h.objects.runs h.last is.objects.facts delta.objects_gone delta.objects_come some.0.objects leads.objects;
  }

  pub edges_going : AreGoing h.edges.runs delta.edges_gone
  edges_going = record {
    apart = gone_apart edge_cmp edge_total (λ _. 64) h.edges.runs h.last is.edges.facts delta.edges_gone delta.edges_come some.0.edges leads.edges;
    open_all = all_opened edge_cmp edge_total (λ _. 64) h.edges.runs h.last is.edges.facts delta.edges_gone delta.edges_come some.0.edges leads.edges;
  }

-- the history is full then, or it isn't, whatever moment is led to
abbrev pub FullThen : KeptHistory → Delta → Type 0
FullThen h delta = (after : Moment) → LeadsTo (last_moment h) after delta → IsFull (moments_of h ++ after ∷ [])

abbrev pub NotFullThen : KeptHistory → Delta → Type 0
NotFullThen h delta = (after : Moment) → LeadsTo (last_moment h) after delta → IsFull (moments_of h ++ after ∷ []) → ⊥

pub full_by_number : (h : KeptHistory) (after : Moment) → MOMENTS ≤ h.last → IsFull (moments_of h ++ after ∷ [])
full_by_number h after late = let long = count_moments h in let more = length_push (moments_of h) after in inl (omega arith)

module _ (h : KeptHistory) (is : IsHistory h) (delta : Delta) where
  pub full_by_weight : HISTORY_WEIGHT < h.weight + weight_of_come delta → FullThen h delta
  full_by_weight heavy after leads = full_heavy h is delta after (leads_on (last_moment h) after delta leads) heavy

  pub not_full_then : (weight : ℕ) → h.last < MOMENTS → weight ≡ h.weight + weight_of_come delta → weight ≤ HISTORY_WEIGHT → NotFullThen h delta
  not_full_then weight early weight_is light after leads = not_full h is delta after (leads_on (last_moment h) after delta leads) early (omega (arith, weight_is, light))

-- ---- room
module _ (old new : KeptHistory) (same : IsSame old new) where
  same_moment : (moment : ℕ) → moment_at new moment ≡ moment_at old moment
  same_moment moment = λ i. record {
    names = ordered name_order (facts_at moment (same.names.runs i));
    objects = ordered object_order (facts_at moment (same.objects.runs i));
    edges = ordered edge_cmp (facts_at moment (same.edges.runs i));
  }

  same_last : last_moment new ≡ last_moment old
  same_last = ap (moment_at new) same.last ∙ same_moment old.last

  pub same_moments : moments_of new ≡ moments_of old
  same_moments = λ i. map (λ (moment : ℕ). same_moment moment i) (range_with_len 0 (same.last i + 1))

  same_ends : {F : Type 0} (kept then : KeptRuns F) (gone come : List F) (plan : PlannedRuns F) → AreSame kept then → Ends kept.runs gone come plan → Ends then.runs gone come plan
  same_ends {F} kept then gone come plan is ends = record {
    ending = subst (λ (l : List (Run F)). AreEnding l gone plan.places) (sym is.runs) ends.ending;
    coming = ends.coming;
  }

  pub same_appends : (plan : PlannedMoment) (after : Moment) → Appends old plan after → Appends new plan after
  same_appends plan after appends = let c = appends.carries in record {
    delta = appends.delta;
    leads = subst (λ (m : Moment). LeadsTo m after appends.delta) (sym same_last) appends.leads;
    carries = record {
      names = same_ends old.names new.names appends.delta.names_gone appends.delta.names_come plan.names same.names c.names;
      objects = same_ends old.objects new.objects appends.delta.objects_gone appends.delta.objects_come plan.objects same.objects c.objects;
      edges = same_ends old.edges new.edges appends.delta.edges_gone appends.delta.edges_come plan.edges same.edges c.edges;
      weight = c.weight ∙ ap (λ n. n + weight_of_come appends.delta) (sym same.weight);
      light = c.light;
      early = (let early = c.early in omega (arith, early, same.last));
    };
  }

  same_kept : {F : Type 0} (cmp : F → F → Ordering) (kept then : KeptRuns F) (moments now : ℕ) → now ≡ moments → AreSame kept then → IsKept cmp moments kept → IsKept cmp now then
  same_kept {F} cmp kept then moments now are same_runs is = subst (λ k. IsKept cmp k then) (sym are) (record {
    facts = subst (λ (l : List (Run F)). AreFacts cmp moments l) (sym same_runs.runs) is.facts;
    count = same_runs.moments ∙ is.count;
  })

  pub same_history : IsHistory old → IsHistory new
  same_history is = record {
    names = same_kept name_order old.names new.names (old.last + 1) (new.last + 1) (ap (λ n. n + 1) same.last) same.names is.names;
    objects = same_kept object_order old.objects new.objects (old.last + 1) (new.last + 1) (ap (λ n. n + 1) same.last) same.objects is.objects;
    edges = same_kept edge_cmp old.edges new.edges (old.last + 1) (new.last + 1) (ap (λ n. n + 1) same.last) same.edges is.edges;
    weight =
        let n = ap (λ l. weight_of_runs (λ _. 64) l) same.names.runs in
        let o = ap (λ l. weight_of_runs object_weight l) same.objects.runs in
        let e = ap (λ l. weight_of_runs (λ _. 64) l) same.edges.runs in
        let weight = is.weight in
        omega (arith, n, o, e, weight, same.weight);
    light = (let light = is.light in omega (arith, light, same.weight));
    early = (let early = is.early in omega (arith, early, same.last));
  }

-- ---- putting a plan in place
heavy_runs : {F : Type 0} (cost : F → ℕ) → ((fact : F) → 64 ≤ cost fact) → (runs : List (Run F)) → 64 * length runs ≤ weight_of_runs cost runs
heavy_runs cost heavy runs = heavy_facts (λ (run : Run _). cost run.fact) (λ run. heavy run.fact) runs

module _ (h : KeptHistory) (is : IsHistory h) (delta : Delta) (plan : PlannedMoment) (carries : CarriesOut h delta plan) where
  pub few_names : length h.names.runs + length plan.names.come < 2 ^ 31
  few_names =
      let runs = heavy_runs (λ _. 64) name_heavy h.names.runs in
      let come = heavy_facts (λ _. 64) name_heavy delta.names_come in
      let same = ap (λ (l : List _). length l) carries.names.coming in
      let before = is.weight in let then = carries.weight in let light = carries.light in
      omega arith

  pub few_objects : length h.objects.runs + length plan.objects.come < 2 ^ 31
  few_objects =
      let runs = heavy_runs object_weight object_heavy h.objects.runs in
      let come = heavy_facts object_weight object_heavy delta.objects_come in
      let same = ap (λ (l : List _). length l) carries.objects.coming in
      let before = is.weight in let then = carries.weight in let light = carries.light in
      omega arith

  pub few_edges : length h.edges.runs + length plan.edges.come < 2 ^ 31
  few_edges =
      let runs = heavy_runs (λ _. 64) edge_heavy h.edges.runs in
      let come = heavy_facts (λ _. 64) edge_heavy delta.edges_come in
      let same = ap (λ (l : List _). length l) carries.edges.coming in
      let before = is.weight in let then = carries.weight in let light = carries.light in
      omega arith

-- what appending a moment makes of the runs of one kind of fact
pub record IsMovedOn {F : Type 0} (kept new : KeptRuns F) (plan : PlannedRuns F) : Type 0 where
  pub runs : new.runs ≡ moved_on kept.moments plan.places plan.come kept.runs
  pub moments : new.moments ≡ kept.moments + 1

kind_step : {F : Type 0} (cmp : F → F → Ordering) (total : IsTotalOrder cmp) (cost : F → ℕ) (kept new : KeptRuns F) (last : ℕ) (gone come after : List F) (plan : PlannedRuns F)
    → IsKept cmp (last + 1) kept → Leads cmp (ordered cmp (facts_at last kept.runs)) gone come after → Ends kept.runs gone come plan → last + 1 + 1 < STANDING
    → IsMovedOn kept new plan → IsStep cmp cost last kept.runs new.runs come after
kind_step {F} cmp total cost kept new last gone come after plan is leads ends few moved =
    let told : new.runs ≡ moved_on (last + 1) plan.places come kept.runs = moved.runs ∙ ap (λ k. moved_on k plan.places plan.come kept.runs) is.count
    ∙ ap (λ (c : List F). moved_on (last + 1) plan.places c kept.runs) ends.coming in
    subst (λ (l : List (Run F)). IsStep cmp cost last kept.runs l come after) (sym told) (step_told cmp total cost kept.runs last is.facts gone come after leads plan.places ends.ending few)

module _ (h : KeptHistory) (is : IsHistory h) (plan : PlannedMoment) (after : Moment) (appends : Appends h plan after)
    (names : KeptRuns (List ℕ × Oid)) (objects : KeptRuns (Oid × Value)) (edges : KeptRuns Edge)
    (names_move : IsMovedOn h.names names plan.names) (objects_move : IsMovedOn h.objects objects plan.objects) (edges_move : IsMovedOn h.edges edges plan.edges) where
  abbrev then_history : KeptHistory
  then_history = record { names = names; objects = objects; edges = edges; last = h.last + 1; weight = plan.weight }

  few : h.last + 1 + 1 < STANDING
  few = let early = appends.carries.early in omega arith

  leads_so : LeadsOn (last_moment h) after appends.delta
  leads_so = leads_on (last_moment h) after appends.delta appends.leads

  names_step : IsStep name_order (λ _. 64) h.last h.names.runs names.runs appends.delta.names_come after.names
  names_step = kind_step name_order name_total (λ _. 64) h.names names h.last appends.delta.names_gone appends.delta.names_come after.names plan.names is.names leads_so.names appends.carries.names few names_move

  objects_step : IsStep object_order object_weight h.last h.objects.runs objects.runs appends.delta.objects_come after.objects
  objects_step = kind_step object_order object_total object_weight h.objects objects h.last appends.delta.objects_gone appends.delta.objects_come after.objects plan.objects is.objects leads_so.objects appends.carries.objects few objects_move

  edges_step : IsStep edge_cmp (λ _. 64) h.last h.edges.runs edges.runs appends.delta.edges_come after.edges
  edges_step = kind_step edge_cmp edge_total (λ _. 64) h.edges edges h.last appends.delta.edges_gone appends.delta.edges_come after.edges plan.edges is.edges leads_so.edges appends.carries.edges few edges_move

  before_same : (moment : ℕ) → moment < h.last + 1 → moment_at then_history moment ≡ moment_at h moment
  before_same moment early =
      let n = names_step.before moment early in let o = objects_step.before moment early in let e = edges_step.before moment early in
      λ i. record { names = n i; objects = o i; edges = e i }

  after_told : moment_at then_history (h.last + 1) ≡ after
  after_told = let n = names_step.then in let o = objects_step.then in let e = edges_step.then in λ i. record { names = n i; objects = o i; edges = e i }

  -- exactly one moment more
  pub moments_then : moments_of then_history ≡ moments_of h ++ after ∷ []
  moments_then =
      let more = map-range_with_len_more (moment_at then_history) 0 (h.last + 1) (h.last + 1) (omega arith) in
      let long = length-map-range_with_len (moment_at then_history) 0 (h.last + 1) in
      let long_too = length-map-range_with_len (moment_at h) 0 (h.last + 1) in
      let earlier : map (moment_at then_history) (range_with_len 0 (h.last + 1)) ≡ moments_of h =
      same_lists (map (moment_at then_history) (range_with_len 0 (h.last + 1))) (moments_of h) (long ∙ sym long_too) (λ k d lt.
      get_or-map-range_with_len (moment_at then_history) 0 (h.last + 1) k k d (omega arith) (omega arith)
      ∙ before_same k (omega arith) ∙ sym (get_or-map-range_with_len (moment_at h) 0 (h.last + 1) k k d (omega arith) (omega arith))) in
      more ∙ ap (λ l. l ++ moment_at then_history (h.last + 1) ∷ []) earlier ∙ ap (λ m. moments_of h ++ m ∷ []) after_told

  -- the history stays as it must be
  pub history_then : IsHistory then_history
  history_then = record {
    names = record { facts = names_step.stay; count = names_move.moments ∙ ap (λ n. n + 1) is.names.count };
    objects = record { facts = objects_step.stay; count = objects_move.moments ∙ ap (λ n. n + 1) is.objects.count };
    edges = record { facts = edges_step.stay; count = edges_move.moments ∙ ap (λ n. n + 1) is.edges.count };
    weight =
        let n = names_step.weight in let o = objects_step.weight in let e = edges_step.weight in
        let before = is.weight in let then = appends.carries.weight in
        omega arith;
    light = appends.carries.light;
    early = (let early = appends.carries.early in omega arith);
  }

-- ---- what appending asks for
pub record CanMoveOn {F : Type 0} (kept : KeptRuns F) (plan : PlannedRuns F) : Type 0 where
  pub are_kept : AreKept kept.moments kept.runs
  pub ending : (gone : List F) × AreEnding kept.runs gone plan.places
  pub few : length kept.runs + length plan.come < 2 ^ 31

module _ (h : KeptHistory) (is : IsHistory h) (plan : PlannedMoment) (after : Moment) (appends : Appends h plan after) where
  pub names_can : CanMoveOn h.names plan.names
  names_can = record {
    are_kept = subst (λ k. AreKept k h.names.runs) (sym is.names.count) is.names.facts.kept;
    ending = (appends.delta.names_gone, appends.carries.names.ending);
    few = few_names h is appends.delta plan appends.carries;
  }

  pub objects_can : CanMoveOn h.objects plan.objects
  objects_can = record {
    are_kept = subst (λ k. AreKept k h.objects.runs) (sym is.objects.count) is.objects.facts.kept;
    ending = (appends.delta.objects_gone, appends.carries.objects.ending);
    few = few_objects h is appends.delta plan appends.carries;
  }

  pub edges_can : CanMoveOn h.edges plan.edges
  edges_can = record {
    are_kept = subst (λ k. AreKept k h.edges.runs) (sym is.edges.count) is.edges.facts.kept;
    ending = (appends.delta.edges_gone, appends.carries.edges.ending);
    few = few_edges h is appends.delta plan appends.carries;
  }

-- what is said of a history and a plan is said of their fields
pub appends_as : (h told : KeptHistory) (plan planned : PlannedMoment) → h ≡ told → plan ≡ planned → (after : Moment) → Appends told planned after → Appends h plan after
appends_as h told plan planned same same_plan after appends =
    subst (λ (x : KeptHistory). Appends x plan after) (sym same) (subst (λ (p : PlannedMoment). Appends told p after) (sym same_plan) appends)

abbrev pub Commits : KeptHistory → PlannedMoment → KeptHistory → Type 0
Commits old plan new = (after : Moment) → Appends old plan after → moments_of new ≡ moments_of old ++ after ∷ []

pub commits_as : (h told : KeptHistory) (plan planned : PlannedMoment) (new : KeptHistory) → h ≡ told → plan ≡ planned → Commits h plan new → Commits told planned new
commits_as h told plan planned new same same_plan commits =
    subst (λ (x : KeptHistory). Commits x planned new) same (subst (λ (p : PlannedMoment). Commits h p new) same_plan commits)

-- a plan ends runs and begins others by lists that are the same
pub ends_as : {F : Type 0} (runs : List (Run F)) (gone told come coming : List F) (plan : PlannedRuns F) → gone ≡ told → come ≡ coming → Ends runs gone come plan → Ends runs told coming plan
ends_as {F} runs gone told come coming plan same same_come ends =
    subst (λ (l : List F). Ends runs l coming plan) same (subst (λ (l : List F). Ends runs gone l plan) same_come ends)
