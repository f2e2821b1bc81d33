-- The history of one moment.
use Rattle.std.proofs.Common.{◌≡◌, ◌≢◌, ℕ, ◌+◌, ◌^◌, ◌<◌, ◌≤◌, inl, inr, List, [], ◌∷◌, length, AllPairs, Contains, refl, sym, ap, ◌∙◌, subst, arith}
use Rattle.std.specs.List.{sum_by}
use Rattle.std.specs.Cmp.{IsTotalOrder}
use Rattle.std.specs.declared.cmp.Ordering.{Ordering}
use Rattle.lore_base.specs.Walks.{edge_cmp}
use Rattle.list_laws.proofs.MemberLaws.{Contains-from_map}
use Rattle.list_laws.proofs.PlaceLaws.{pair_at}
use Rattle.doem_facts.proofs.FactSetLaws.{alone}
use Rattle.doem_history.specs.Types.{Oid, Edge, Value, Run, STANDING, HISTORY_WEIGHT}
use Rattle.doem_history.specs.Facts.{name_order, object_order, object_weight}
use Rattle.doem_history.specs.inside.FactLaws.{name_total, object_total, edge_total, name_heavy, object_heavy, edge_heavy}
use Rattle.doem_history.specs.Runs.{IsWeight}
use Rattle.doem_history.specs.Moments.{moment_of, IsInOrder, IsHistoryWeight, IsFull}
use Rattle.doem_history.specs.Histories.{facts_at, ordered, KeptRuns, KeptHistory, moments_of}
use Rattle.doem_history.specs.Plans.{weight_of}
use Rattle.doem_history.specs.inside.Kept.{Ascends, AreFacts, IsWithin, Apart, begun, IsKept, IsHistory, weight_of_runs}
use Rattle.doem_history.proofs.MovedLaws.{pairs_from, facts_at-begun}
use Rattle.doem_history.proofs.StepLaws.{mapped_place, weight-begun}
use Rattle.doem_history.proofs.OrderLaws.{ordered_is, distinct_of}
use Rattle.doem_history.proofs.DeltaLaws.{names_ascend, objects_ascend}
use Rattle.doem_history.proofs.HistoryLaws.{heavy_facts, weighs, one_history_weight}

-- no more than 2^24 facts, where they weigh no more than a history may
few_first : {F : Type 0} (cost : F → ℕ) → ((fact : F) → 64 ≤ cost fact) → (facts : List F) (whole : ℕ) → sum_by cost facts ≤ whole → whole ≤ HISTORY_WEIGHT → length facts < 2 ^ 31
few_first cost heavy facts whole within light = let some = heavy_facts cost heavy facts in omega arith

module _ {F : Type 0} (cmp : F → F → Ordering) (total : IsTotalOrder cmp) (facts : List F) (ascend : Ascends cmp facts) where
  pub told_first : ordered cmp (facts_at 0 (begun 0 facts)) ≡ facts
  told_first = ap (ordered cmp) (facts_at-begun 0 facts (omega arith)) ∙ ordered_is cmp total facts facts ascend (λ y. ((λ at. at), (λ at. at)))

  first_apart : AllPairs Apart (begun 0 facts)
  first_apart = pairs_from Apart (begun 0 facts) (λ i j x y lt is_x is_y same.
      let from_x = mapped_place (λ (fact : F). let r : Run F = record { fact = fact; begin = 0; end = STANDING } in r) facts i x is_x in
      let from_y = mapped_place (λ (fact : F). let r : Run F = record { fact = fact; begin = 0; end = STANDING } in r) facts j y is_y in
      absurd (pair_at (λ a b. a ≢ b) facts i j from_x.0 from_y.0 (distinct_of cmp total facts ascend) lt from_x.1 from_y.1
      (ap (λ (r : Run F). r.fact) from_x.2 ∙ same ∙ sym (ap (λ (r : Run F). r.fact) from_y.2))))

  first_within : (run : Run F) → Contains (begun 0 facts) run → IsWithin 1 run
  first_within run at =
      let from = Contains-from_map (λ (fact : F). let r : Run F = record { fact = fact; begin = 0; end = STANDING } in r) facts run at in
      subst (λ (r : Run F). IsWithin 1 r) from.2 (record { some = omega arith; begun = omega arith; over = inr refl })

  pub facts_first : AreFacts cmp 1 (begun 0 facts)
  facts_first = record {
    kept = record { few = omega arith; each = first_within; apart = first_apart };
    once = λ moment there a b at_a at_b same.
        let here : moment ≡ 0 = omega arith in
        let is : facts_at moment (begun 0 facts) ≡ facts = ap (λ k. facts_at k (begun 0 facts)) here ∙ facts_at-begun 0 facts (omega arith) in
        alone cmp total facts ascend a b (subst (λ (l : List F). Contains l a) is at_a) (subst (λ (l : List F). Contains l b) is at_b) same;
  }

  weighs_first : (cost : F → ℕ) → IsWeight cost (facts ∷ []) (sum_by cost facts)
  weighs_first cost = subst (λ l. IsWeight cost l (sum_by cost facts)) (ap (λ l. l ∷ []) told_first)
      (subst (λ w. IsWeight cost (ordered cmp (facts_at 0 (begun 0 facts)) ∷ []) w) (weight-begun cost 0 facts) (weighs cmp total cost 1 (begun 0 facts) facts_first))

  -- the runs of one moment
  first_kept : (kept : KeptRuns F) → kept.runs ≡ begun 0 facts → kept.moments ≡ 1 → IsKept cmp 1 kept
  first_kept kept runs moments = record { facts = subst (λ (l : List (Run F)). AreFacts cmp 1 l) (sym runs) facts_first; count = moments }

-- the runs are those of one moment at which the facts stand
pub record IsFirst {F : Type 0} (kept : KeptRuns F) (facts : List F) : Type 0 where
  pub runs : kept.runs ≡ begun 0 facts
  pub moments : kept.moments ≡ 1

module _ (names : List (List ℕ × Oid)) (objects : List (Oid × Value)) (edges : List Edge) where
  module _ (weight : ℕ) (weight_is : weight ≡ weight_of names objects edges) (light : weight ≤ HISTORY_WEIGHT) where
    pub few_names_first : length names < 2 ^ 31
    few_names_first = few_first (λ _. 64) name_heavy names weight (omega (arith, weight_is)) light

    pub few_objects_first : length objects < 2 ^ 31
    few_objects_first = few_first object_weight object_heavy objects weight (omega (arith, weight_is)) light

    pub few_edges_first : length edges < 2 ^ 31
    few_edges_first = few_first (λ _. 64) edge_heavy edges weight (omega (arith, weight_is)) light

  module _ (in_order : IsInOrder (moment_of names objects edges)) where
    name_facts_ascend : Ascends name_order names
    name_facts_ascend = names_ascend names in_order.names

    object_facts_ascend : Ascends object_order objects
    object_facts_ascend = objects_ascend objects in_order.objects

    module _ (n : KeptRuns (List ℕ × Oid)) (o : KeptRuns (Oid × Value)) (e : KeptRuns Edge) (n_is : IsFirst n names) (o_is : IsFirst o objects) (e_is : IsFirst e edges)
        (weight : ℕ) (weight_is : weight ≡ weight_of names objects edges) where
      abbrev first_history : KeptHistory
      first_history = record { names = n; objects = o; edges = e; last = 0; weight = weight }

      pub moments_first : moments_of first_history ≡ moment_of names objects edges ∷ []
      moments_first =
          let n_told = ap (λ l. ordered name_order (facts_at 0 l)) n_is.runs ∙ told_first name_order name_total names name_facts_ascend in
          let o_told = ap (λ l. ordered object_order (facts_at 0 l)) o_is.runs ∙ told_first object_order object_total objects object_facts_ascend in
          let e_told = ap (λ l. ordered edge_cmp (facts_at 0 l)) e_is.runs ∙ told_first edge_cmp edge_total edges in_order.edges in
          λ i. record { names = n_told i; objects = o_told i; edges = e_told i } ∷ []

      history_weight_first : weight ≡ weight_of_runs (λ _. 64) n.runs + weight_of_runs object_weight o.runs + weight_of_runs (λ _. 64) e.runs
      history_weight_first =
          let nw = ap (λ l. weight_of_runs (λ _. 64) l) n_is.runs ∙ weight-begun (λ _. 64) 0 names in
          let ow = ap (λ l. weight_of_runs object_weight l) o_is.runs ∙ weight-begun object_weight 0 objects in
          let ew = ap (λ l. weight_of_runs (λ _. 64) l) e_is.runs ∙ weight-begun (λ _. 64) 0 edges in
          omega arith

      pub history_first : weight ≤ HISTORY_WEIGHT → IsHistory first_history
      history_first light = record {
        names = first_kept name_order name_total names name_facts_ascend n n_is.runs n_is.moments;
        objects = first_kept object_order object_total objects object_facts_ascend o o_is.runs o_is.moments;
        edges = first_kept edge_cmp edge_total edges in_order.edges e e_is.runs e_is.moments;
        weight = history_weight_first;
        light = light;
        early = omega arith;
      }

    weighs_one : IsHistoryWeight (moment_of names objects edges ∷ []) (weight_of names objects edges)
    weighs_one = record {
      names = sum_by (λ _. 64) names;
      objects = sum_by object_weight objects;
      edges = sum_by (λ _. 64) edges;
      of_names = weighs_first name_order name_total names name_facts_ascend (λ _. 64);
      of_objects = weighs_first object_order object_total objects object_facts_ascend object_weight;
      of_edges = weighs_first edge_cmp edge_total edges in_order.edges (λ _. 64);
      whole = refl;
    }

    pub full_first : HISTORY_WEIGHT < weight_of names objects edges → IsFull (moment_of names objects edges ∷ [])
    full_first heavy = inr (weight_of names objects edges, weighs_one, heavy)

    pub not_full_first : (weight : ℕ) → weight ≡ weight_of names objects edges → weight ≤ HISTORY_WEIGHT → IsFull (moment_of names objects edges ∷ []) → ⊥
    not_full_first weight weight_is light full = elim full [
      | inl late ↦ absurd (omega arith)
      | inr heavy ↦ (let same = one_history_weight (moment_of names objects edges ∷ []) heavy.0 (weight_of names objects edges) heavy.1 weighs_one in
          let too = heavy.2 in absurd (omega arith))
    ]
