-- Moments in order have runs, so they have a weight, and a moment more adds what the facts weigh that come with it.
use Rattle.std.proofs.Common.{◌≡◌, ℕ, ◌+◌, ◌<◌, List, [], ◌∷◌, ◌++◌, length, map, get_or, Less, All, Contains, refl, sym, ap, ◌∙◌, subst, arith, append_assoc, append-nil}
use Rattle.std.specs.List.{sum_by}
use Rattle.std.specs.Cmp.{IsTotalOrder}
use Rattle.std.specs.declared.cmp.Ordering.{Ordering}
use Rattle.std.proofs.lemmas.List.{map-append, get_or_push, length-map, length_push}
use Rattle.std.proofs.lemmas.List.Elements.{All-head, All-tail}
use Rattle.lore_base.specs.Walks.{edge_cmp}
use Rattle.lore_base.proofs.ToldLaws.{IsTold, told_not, told_member, told_edge, passing, members_passing, AllPairs-passing}
use Rattle.list_laws.proofs.MemberLaws.{All-from_members, Contains-from_map}
use Rattle.doem_history.specs.Types.{Delta, Run, STANDING}
use Rattle.doem_history.specs.Facts.{name_order, object_order, object_weight}
use Rattle.doem_history.specs.inside.FactLaws.{name_total, object_total, edge_total}
use Rattle.doem_history.specs.Runs.{IsWeight}
use Rattle.doem_history.specs.Moments.{Moment, IsInOrder, LeadsTo, IsHistoryWeight}
use Rattle.doem_history.specs.Histories.{facts_at, ordered}
use Rattle.doem_history.specs.Plans.{weight_of_come}
use Rattle.doem_history.specs.Laws.{AreMoments}
use Rattle.doem_history.specs.inside.Kept.{Ascends, AreFacts, times_of, begun, moved_on, weight_of_runs}
use Rattle.doem_history.specs.inside.Leads.{Leads}
use Rattle.doem_history.proofs.MovedLaws.{endings}
use Rattle.doem_history.proofs.StepLaws.{one_weight}
use Rattle.doem_history.proofs.OrderLaws.{ascend-ordered, facts_of, count_of, times_then, facts_stay}
use Rattle.doem_history.proofs.DeltaLaws.{leads_of, leads_on, told_name, told_object, names_ascend, objects_ascend}
use Rattle.doem_history.proofs.HistoryLaws.{weighs, weighs_then, opened, gone_apart}
use Rattle.doem_history.proofs.StartLaws.{facts_first, told_first}

module _ {F : Type 0} (cmp : F → F → Ordering) (total : IsTotalOrder cmp) (tell : (a b : F) → IsTold (a ≡ b)) where
  -- the runs tell these facts of successive moments
  record AreTold (times : List (List F)) (last : ℕ) (runs : List (Run F)) : Type 0 where
    pub are : AreFacts cmp (last + 1) runs
    pub told : times_of cmp (last + 1) runs ≡ times

  abbrev gone_from : List F → List F → List F
  gone_from before after = passing (λ fact. Contains after fact → ⊥) (λ fact. told_not (told_member tell after fact)) before

  -- something leads from facts in order to others in order
  leads_between : (before after : List F) → Ascends cmp before → Ascends cmp after → Leads cmp before (gone_from before after) (gone_from after before) after
  leads_between before after in_before in_after =
      leads_of cmp tell before (gone_from before after) (gone_from after before) after
      (members_passing (λ fact. Contains after fact → ⊥) (λ fact. told_not (told_member tell after fact)) before)
      (members_passing (λ fact. Contains before fact → ⊥) (λ fact. told_not (told_member tell before fact)) after)
      in_after
      (AllPairs-passing (λ fact. Contains after fact → ⊥) (λ fact. told_not (told_member tell after fact)) (λ a b. cmp a b ≡ Less) before in_before)
      (AllPairs-passing (λ fact. Contains before fact → ⊥) (λ fact. told_not (told_member tell before fact)) (λ a b. cmp a b ≡ Less) after in_after)

  -- a moment more is told by some runs
  next_told : (times : List (List F)) (last : ℕ) (runs : List (Run F)) (after : List F) → AreTold times last runs → Ascends cmp after → last + 1 + 1 < STANDING
      → (new : List (Run F)) × AreTold (times ++ after ∷ []) (last + 1) new
  next_told times last runs after are ascend few =
      let before = ordered cmp (facts_at last runs) in
      let gone = gone_from before after in
      let come = gone_from after before in
      let leads = leads_between before after (ascend-ordered cmp total (facts_at last runs)) ascend in
      let found = endings runs gone (gone_apart cmp total (λ _. 64) runs last are.are gone come after leads) (opened cmp total (λ _. 64) runs last are.are gone come after leads) in (
        moved_on (last + 1) found.0 come runs,
        record {
          are = facts_stay cmp total runs last (last + 1) refl are.are gone come after found.0 found.1 leads few;
          told = times_then cmp total runs last (last + 1) refl are.are gone come after found.0 found.1 leads few ∙ ap (λ (l : List (List F)). l ++ after ∷ []) are.told;
        },
      )

  rest_told : (rest times : List (List F)) (last : ℕ) (runs : List (Run F)) → AreTold times last runs → All (Ascends cmp) rest → last + 1 + length rest < STANDING
      → (end : ℕ) × (new : List (Run F)) × AreTold (times ++ rest) end new
  rest_told [] times last runs are ascend few = (last, runs, subst (λ (l : List (List F)). AreTold l last runs) (sym (append-nil times)) are)
  rest_told (after ∷ rest) times last runs are ascend few =
      let one = next_told times last runs after are (All-head (Ascends cmp) after rest ascend) (omega (arith, few)) in
      let others = rest_told rest (times ++ after ∷ []) (last + 1) one.0 one.1 (All-tail (Ascends cmp) after rest ascend) (omega (arith, few)) in
      (others.0, others.1, subst (λ (l : List (List F)). AreTold l others.0 others.1) (append_assoc times (after ∷ []) rest) others.2)

  some_told : (times : List (List F)) → All (Ascends cmp) times → 0 < length times → length times < STANDING
      → (last : ℕ) × (runs : List (Run F)) × AreTold times last runs
  some_told [] ascend some few = absurd (omega (arith, some))
  some_told (facts ∷ rest) ascend some few =
      let in_first = All-head (Ascends cmp) facts rest ascend in
      rest_told rest (facts ∷ []) 0 (begun 0 facts) (record {
        are = facts_first cmp total facts in_first;
        told = ap (λ (l : List F). l ∷ []) (told_first cmp total facts in_first);
      }) (All-tail (Ascends cmp) facts rest ascend) (omega (arith, few))

  pub some_weight_of : (cost : F → ℕ) (times : List (List F)) → All (Ascends cmp) times → 0 < length times → length times < STANDING → (weight : ℕ) × IsWeight cost times weight
  some_weight_of cost times ascend some few =
      let found = some_told times ascend some few in
      (weight_of_runs cost found.1, subst (λ (l : List (List F)). IsWeight cost l (weight_of_runs cost found.1)) found.2.told (weighs cmp total cost (found.0 + 1) found.1 found.2.are))

  pub adds_what_comes : (cost : F → ℕ) (earlier : List (List F)) (before after gone come : List F) (weight : ℕ) → All (Ascends cmp) (earlier ++ before ∷ [])
      → length (earlier ++ before ∷ []) + 1 < STANDING → Leads cmp before gone come after → IsWeight cost (earlier ++ before ∷ []) weight
      → IsWeight cost (earlier ++ before ∷ after ∷ []) (weight + sum_by cost come)
  adds_what_comes cost earlier before after gone come weight ascend few leads is =
      let times = earlier ++ before ∷ [] in
      let pushed = length_push earlier before in
      let found = some_told times ascend (omega (arith, pushed)) (omega (arith, few)) in
      let last = found.0 in let runs = found.1 in let are = found.2 in
      let long : last ≡ length earlier = omega (arith, count_of cmp total (last + 1) runs, ap (λ (l : List (List F)). length l) are.told, pushed) in
      let here : ordered cmp (facts_at last runs) ≡ before = sym (facts_of cmp total (last + 1) runs last (omega arith))
      ∙ ap (λ (l : List (List F)). get_or l last []) are.told ∙ get_or_push earlier before [] last (sym long) in
      let leads_here = subst (λ (l : List F). Leads cmp l gone come after) (sym here) leads in
      let few_moments : last + 1 + 1 < STANDING = omega (arith, few, pushed, long) in
      let then = weighs_then cmp total cost runs last are.are gone come after leads_here few_moments in
      let same = one_weight cost times weight (weight_of_runs cost runs) is
      (subst (λ (l : List (List F)). IsWeight cost l (weight_of_runs cost runs)) are.told (weighs cmp total cost (last + 1) runs are.are)) in
      let told_then : times_of cmp (last + 1) runs ++ after ∷ [] ≡ earlier ++ before ∷ after ∷ [] = ap (λ (l : List (List F)). l ++ after ∷ []) are.told ∙ append_assoc earlier (before ∷ []) (after ∷ []) in
      subst (λ (l : List (List F)). IsWeight cost l (weight + sum_by cost come)) told_then
      (subst (λ w. IsWeight cost (times_of cmp (last + 1) runs ++ after ∷ []) (w + sum_by cost come)) (sym same) then)

-- each kind of fact of moments in order ascends
kinds_ascend : {F : Type 0} (cmp : F → F → Ordering) (kind : Moment → List F) → ((moment : Moment) → IsInOrder moment → Ascends cmp (kind moment)) → (moments : List Moment)
    → All IsInOrder moments → All (Ascends cmp) (map kind moments)
kinds_ascend {F} cmp kind ascends moments ordered = All-from_members (Ascends cmp) (map kind moments) (λ facts at.
    let from = Contains-from_map kind moments facts at in
    let place = from.1 in
    subst (λ (l : List F). Ascends cmp l) from.2 (ascends from.0 (subst (λ (m : Moment). IsInOrder m) place.2 (ordered place.0 from.0 place.1))))

names_in : (moments : List Moment) → AreMoments moments → All (Ascends name_order) (map (λ m. m.names) moments)
names_in moments are = kinds_ascend name_order (λ m. m.names) (λ m is. names_ascend m.names is.names) moments are.ordered

objects_in : (moments : List Moment) → AreMoments moments → All (Ascends object_order) (map (λ m. m.objects) moments)
objects_in moments are = kinds_ascend object_order (λ m. m.objects) (λ m is. objects_ascend m.objects is.objects) moments are.ordered

edges_in : (moments : List Moment) → AreMoments moments → All (Ascends edge_cmp) (map (λ m. m.edges) moments)
edges_in moments are = kinds_ascend edge_cmp (λ m. m.edges) (λ m is. is.edges) moments are.ordered

pub some_history_weight : (moments : List Moment) → AreMoments moments → (weight : ℕ) × IsHistoryWeight moments weight
some_history_weight moments are =
    let some = are.some in let few = are.few in
    let ln = length-map moments (λ (m : Moment). m.names) in let lo = length-map moments (λ (m : Moment). m.objects) in let le = length-map moments (λ (m : Moment). m.edges) in
    let n = some_weight_of name_order name_total told_name (λ _. 64) (map (λ (m : Moment). m.names) moments) (names_in moments are) (omega arith) (omega arith) in
    let o = some_weight_of object_order object_total told_object object_weight (map (λ (m : Moment). m.objects) moments) (objects_in moments are) (omega arith) (omega arith) in
    let e = some_weight_of edge_cmp edge_total told_edge (λ _. 64) (map (λ (m : Moment). m.edges) moments) (edges_in moments are) (omega arith) (omega arith) in
    (n.0 + o.0 + e.0, record { names = n.0; objects = o.0; edges = e.0; of_names = n.1; of_objects = o.1; of_edges = e.1; whole = refl })

module _ (earlier : List Moment) (before after : Moment) (delta : Delta) (are : AreMoments (earlier ++ before ∷ [])) (leads : LeadsTo before after delta) where
  -- one kind of fact
  kind_adds : {F : Type 0} (cmp : F → F → Ordering) (total : IsTotalOrder cmp) (told : (a b : F) → IsTold (a ≡ b)) (cost : F → ℕ) (kind : Moment → List F)
      → All (Ascends cmp) (map kind (earlier ++ before ∷ [])) → (gone come : List F) (weight : ℕ) → Leads cmp (kind before) gone come (kind after)
      → IsWeight cost (map kind (earlier ++ before ∷ [])) weight → IsWeight cost (map kind (earlier ++ before ∷ after ∷ [])) (weight + sum_by cost come)
  kind_adds {F} cmp total told cost kind ascend gone come weight on is =
      let mapped = map-append kind earlier (before ∷ []) in
      let mapped_then = map-append kind earlier (before ∷ after ∷ []) in
      let few = are.few in
      let long = length-map (earlier ++ before ∷ []) kind in
      subst (λ (l : List (List F)). IsWeight cost l (weight + sum_by cost come)) (sym mapped_then)
      (adds_what_comes cmp total told cost (map kind earlier) (kind before) (kind after) gone come weight
      (subst (λ (l : List (List F)). All (Ascends cmp) l) mapped ascend)
      (omega (arith, few, long, ap (λ (l : List (List F)). length l) mapped)) on (subst (λ (l : List (List F)). IsWeight cost l weight) mapped is))

  pub weighs_what_comes : (weight : ℕ) → IsHistoryWeight (earlier ++ before ∷ []) weight → IsHistoryWeight (earlier ++ before ∷ after ∷ []) (weight + weight_of_come delta)
  weighs_what_comes weight is =
      let on = leads_on before after delta leads in
      let whole = is.whole in record {
        names = is.names + sum_by (λ _. 64) delta.names_come;
        objects = is.objects + sum_by object_weight delta.objects_come;
        edges = is.edges + sum_by (λ _. 64) delta.edges_come;
        of_names = kind_adds name_order name_total told_name (λ _. 64) (λ m. m.names) (names_in (earlier ++ before ∷ []) are) delta.names_gone delta.names_come is.names on.names is.of_names;
        of_objects = kind_adds object_order object_total told_object object_weight (λ m. m.objects) (objects_in (earlier ++ before ∷ []) are) delta.objects_gone delta.objects_come is.objects on.objects is.of_objects;
        of_edges = kind_adds edge_cmp edge_total told_edge (λ _. 64) (λ m. m.edges) (edges_in (earlier ++ before ∷ []) are) delta.edges_gone delta.edges_come is.edges on.edges is.of_edges;
        whole = omega arith;
      }
