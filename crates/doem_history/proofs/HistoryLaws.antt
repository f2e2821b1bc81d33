-- Histories of names, objects and edges: what a moment more makes of the runs, what the history weighs then, and when it is full.
use Rattle.std.proofs.Common.{◌≡◌, ◌≢◌, ℕ, ◌+◌, ◌*◌, ◌<◌, ◌≤◌, inl, inr, List, [], ◌∷◌, ◌++◌, length, map, get_or}
use Rattle.std.proofs.Common.{All, AllPairs, Contains, refl, sym, ap, ◌∙◌, subst, arith}
use Rattle.std.specs.List.{sum_by, range_with_len}
use Rattle.std.specs.declared.cmp.Ordering.{Ordering}
use Rattle.std.specs.Cmp.{IsTotalOrder}
use Rattle.std.proofs.lemmas.List.{map-append, length_push}
use Rattle.std.proofs.lemmas.List.Elements.{Contains-get_or}
use Rattle.std.proofs.lemmas.List.Sums.{sum_by-cons}
use Rattle.std.proofs.lemmas.List.FromFn.{length-map-range_with_len}
use Rattle.lore_base.specs.Walks.{edge_cmp}
use Rattle.list_laws.proofs.PartLaws.{map-map}
use Rattle.list_laws.proofs.PlaceLaws.{place_of_member}
use Rattle.doem_history.specs.Types.{Delta, Run, STANDING, HISTORY_WEIGHT, MOMENTS}
use Rattle.doem_history.specs.Facts.{name_order, object_order, object_weight}
use Rattle.doem_history.specs.inside.FactLaws.{name_total, object_total, edge_total}
use Rattle.doem_history.specs.Runs.{IsWeight}
use Rattle.doem_history.specs.Moments.{Moment, IsHistoryWeight, IsFull}
use Rattle.doem_history.specs.Histories.{facts_at, ordered, KeptHistory, moment_at, moments_of}
use Rattle.doem_history.specs.Plans.{IsOpen, AreEnding, weight_of_come}
use Rattle.doem_history.specs.inside.Kept.{AreFacts, AreKept, moved_on, within, times_of, IsHistory, weight_of_runs}
use Rattle.doem_history.specs.inside.Leads.{Leads, LeadsOn}
use Rattle.doem_history.proofs.KeptLaws.{held, kept_are_runs}
use Rattle.doem_history.proofs.MovedLaws.{facts_before, endings}
use Rattle.doem_history.proofs.StepLaws.{goes_on, weight-within, weight-moved_on, one_weight}
use Rattle.doem_history.proofs.OrderLaws.{distinct_of, from-ordered, ordered_is, count_of, tell_times, times_then, facts_stay, tells_after}

-- each fact weighs 64 at least
pub heavy_facts : {F : Type 0} (cost : F → ℕ) → ((fact : F) → 64 ≤ cost fact) → (facts : List F) → 64 * length facts ≤ sum_by cost facts
heavy_facts cost heavy [] = omega arith
heavy_facts cost heavy (fact ∷ facts) = let one = heavy fact in let others = heavy_facts cost heavy facts in let whole = sum_by-cons cost fact facts in omega arith

-- what a moment more makes of the runs of one kind of fact: earlier moments tell the same, the new one what stands after
pub record IsStep {F : Type 0} (cmp : F → F → Ordering) (cost : F → ℕ) (last : ℕ) (runs new : List (Run F)) (come after : List F) : Type 0 where
  pub before : (moment : ℕ) → moment < last + 1 → ordered cmp (facts_at moment new) ≡ ordered cmp (facts_at moment runs)
  pub then : ordered cmp (facts_at (last + 1) new) ≡ after
  pub stay : AreFacts cmp (last + 1 + 1) new
  pub weight : weight_of_runs cost new ≡ weight_of_runs cost runs + sum_by cost come

module _ {F : Type 0} (cmp : F → F → Ordering) (total : IsTotalOrder cmp) (cost : F → ℕ) where
  pub weighs : (moments : ℕ) (runs : List (Run F)) → AreFacts cmp moments runs → IsWeight cost (times_of cmp moments runs) (weight_of_runs cost runs)
  weighs moments runs facts =
      let times = times_of cmp moments runs in
      let long = count_of cmp total moments runs in
      let are = kept_are_runs times runs (subst (λ k. AreKept k runs) (sym long) facts.kept) (tell_times cmp total moments runs facts) in
      (map (within (length times)) runs, are, sym (weight-within cost (length times) runs))

  module _ (runs : List (Run F)) (last : ℕ) (facts : AreFacts cmp (last + 1) runs) (gone come after : List F)
      (leads : Leads cmp (ordered cmp (facts_at last runs)) gone come after) where
    -- the run of each fact that goes, goes on
    pub opened : (fact : F) → Contains gone fact → (place : ℕ) × IsOpen runs place fact
    opened fact at =
        let this = held last runs fact (from-ordered cmp total (facts_at last runs) fact (leads.gone_stood fact at)) in
        let place = place_of_member runs this.run this.among in
        (place.0, record { run = this.run; at = place.1; goes_on = goes_on runs last (last + 1) refl facts.kept this.run this.among this.until; of = this.of })

    pub all_opened : All (λ fact. (place : ℕ) × IsOpen runs place fact) gone
    all_opened k d lt = opened (get_or gone k d) (Contains-get_or gone k d lt)

    pub gone_apart : AllPairs (λ a b. a ≢ b) gone
    gone_apart = distinct_of cmp total gone leads.gone_ascends

    pub step_told : (places : List ℕ) → AreEnding runs gone places → last + 1 + 1 < STANDING → IsStep cmp cost last runs (moved_on (last + 1) places come runs) come after
    step_told places ending few = record {
      before = λ moment early. ap (ordered cmp) (facts_before moment (last + 1) runs gone come places ending early (omega arith));
      then = ordered_is cmp total (facts_at (last + 1) (moved_on (last + 1) places come runs)) after leads.after_ascends
          (tells_after cmp total runs last (last + 1) refl facts gone come after places ending leads);
      stay = facts_stay cmp total runs last (last + 1) refl facts gone come after places ending leads few;
      weight = weight-moved_on cost (last + 1) places come runs;
    }

    pub weighs_then : last + 1 + 1 < STANDING → IsWeight cost (times_of cmp (last + 1) runs ++ after ∷ []) (weight_of_runs cost runs + sum_by cost come)
    weighs_then few =
        let found = endings runs gone gone_apart opened in
        let new = moved_on (last + 1) found.0 come runs in
        let step = step_told found.0 found.1 few in
        let told = times_then cmp total runs last (last + 1) refl facts gone come after found.0 found.1 leads few in
        subst (λ (l : List (List F)). IsWeight cost l (weight_of_runs cost runs + sum_by cost come)) told
        (subst (λ w. IsWeight cost (times_of cmp (last + 1 + 1) new) w) step.weight (weighs (last + 1 + 1) new step.stay))

module _ (h : KeptHistory) where
  names_told : map (λ (m : Moment). m.names) (moments_of h) ≡ times_of name_order (h.last + 1) h.names.runs
  names_told = map-map (moment_at h) (λ (m : Moment). m.names) (range_with_len 0 (h.last + 1))

  objects_told : map (λ (m : Moment). m.objects) (moments_of h) ≡ times_of object_order (h.last + 1) h.objects.runs
  objects_told = map-map (moment_at h) (λ (m : Moment). m.objects) (range_with_len 0 (h.last + 1))

  edges_told : map (λ (m : Moment). m.edges) (moments_of h) ≡ times_of edge_cmp (h.last + 1) h.edges.runs
  edges_told = map-map (moment_at h) (λ (m : Moment). m.edges) (range_with_len 0 (h.last + 1))

  pub count_moments : length (moments_of h) ≡ h.last + 1
  count_moments = length-map-range_with_len (moment_at h) 0 (h.last + 1)

pub one_history_weight : (moments : List Moment) (w v : ℕ) → IsHistoryWeight moments w → IsHistoryWeight moments v → w ≡ v
one_history_weight moments w v one two =
    let n = one_weight (λ _. 64) (map (λ (m : Moment). m.names) moments) one.names two.names one.of_names two.of_names in
    let o = one_weight object_weight (map (λ (m : Moment). m.objects) moments) one.objects two.objects one.of_objects two.of_objects in
    let e = one_weight (λ _. 64) (map (λ (m : Moment). m.edges) moments) one.edges two.edges one.of_edges two.of_edges in
    let w_is = one.whole in let v_is = two.whole in
    omega arith

module _ (h : KeptHistory) (is : IsHistory h) where
  -- a history weighs what it says
  pub history_weighs : IsHistoryWeight (moments_of h) h.weight
  history_weighs = record {
    names = weight_of_runs (λ _. 64) h.names.runs;
    objects = weight_of_runs object_weight h.objects.runs;
    edges = weight_of_runs (λ _. 64) h.edges.runs;
    of_names = subst (λ l. IsWeight (λ _. 64) l (weight_of_runs (λ _. 64) h.names.runs)) (sym (names_told h)) (weighs name_order name_total (λ _. 64) (h.last + 1) h.names.runs is.names.facts);
    of_objects = subst (λ l. IsWeight object_weight l (weight_of_runs object_weight h.objects.runs)) (sym (objects_told h)) (weighs object_order object_total object_weight (h.last + 1) h.objects.runs is.objects.facts);
    of_edges = subst (λ l. IsWeight (λ _. 64) l (weight_of_runs (λ _. 64) h.edges.runs)) (sym (edges_told h)) (weighs edge_cmp edge_total (λ _. 64) (h.last + 1) h.edges.runs is.edges.facts);
    whole = is.weight;
  }

  module _ (delta : Delta) (after : Moment) (leads : LeadsOn (moment_at h h.last) after delta) where
    few : h.last + 1 + 1 < STANDING
    few = let early = is.early in omega arith

    -- the moment more adds what comes
    pub history_weighs_then : IsHistoryWeight (moments_of h ++ after ∷ []) (h.weight + weight_of_come delta)
    history_weighs_then =
        let n = weighs_then name_order name_total (λ _. 64) h.names.runs h.last is.names.facts delta.names_gone delta.names_come after.names leads.names few in
        let o = weighs_then object_order object_total object_weight h.objects.runs h.last is.objects.facts delta.objects_gone delta.objects_come after.objects leads.objects few in
        let e = weighs_then edge_cmp edge_total (λ _. 64) h.edges.runs h.last is.edges.facts delta.edges_gone delta.edges_come after.edges leads.edges few in
        let w = is.weight in record {
          names = weight_of_runs (λ _. 64) h.names.runs + sum_by (λ _. 64) delta.names_come;
          objects = weight_of_runs object_weight h.objects.runs + sum_by object_weight delta.objects_come;
          edges = weight_of_runs (λ _. 64) h.edges.runs + sum_by (λ _. 64) delta.edges_come;
          of_names = subst (λ l. IsWeight (λ _. 64) l (weight_of_runs (λ _. 64) h.names.runs + sum_by (λ _. 64) delta.names_come))
              (sym (map-append (λ (m : Moment). m.names) (moments_of h) (after ∷ []) ∙ ap (λ l. l ++ after.names ∷ []) (names_told h))) n;
          of_objects = subst (λ l. IsWeight object_weight l (weight_of_runs object_weight h.objects.runs + sum_by object_weight delta.objects_come))
              (sym (map-append (λ (m : Moment). m.objects) (moments_of h) (after ∷ []) ∙ ap (λ l. l ++ after.objects ∷ []) (objects_told h))) o;
          of_edges = subst (λ l. IsWeight (λ _. 64) l (weight_of_runs (λ _. 64) h.edges.runs + sum_by (λ _. 64) delta.edges_come))
              (sym (map-append (λ (m : Moment). m.edges) (moments_of h) (after ∷ []) ∙ ap (λ l. l ++ after.edges ∷ []) (edges_told h))) e;
          whole = omega arith;
        }

    -- when one moment more is too much
    pub full_late : MOMENTS ≤ h.last → IsFull (moments_of h ++ after ∷ [])
    full_late late = let long = count_moments h in let more = length_push (moments_of h) after in inl (omega arith)

    pub full_heavy : HISTORY_WEIGHT < h.weight + weight_of_come delta → IsFull (moments_of h ++ after ∷ [])
    full_heavy heavy = inr (h.weight + weight_of_come delta, history_weighs_then, heavy)

    pub not_full : h.last < MOMENTS → h.weight + weight_of_come delta ≤ HISTORY_WEIGHT → IsFull (moments_of h ++ after ∷ []) → ⊥
    not_full early light full = elim full [
      | inl late ↦ (let long = count_moments h in let more = length_push (moments_of h) after in absurd (omega arith))
      | inr heavy ↦ (let same = one_history_weight (moments_of h ++ after ∷ []) heavy.0 (h.weight + weight_of_come delta) heavy.1 history_weighs_then in
          let too = heavy.2 in absurd (omega arith))
    ]
