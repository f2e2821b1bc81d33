-- A trail grows: stops in the order of their paths are entered behind those that come before them.
use Rattle.std.proofs.Common.{◌≡◌, ◌⊎◌, ℕ, inl, inr, List, [], ◌∷◌, ◌++◌, map, All, AllPairs, Contains, refl}
use Rattle.std.proofs.Common.{sym, ap, ◌∙◌, subst, append_assoc}
use Rattle.std.proofs.lemmas.List.{append-nil, map_push}
use Rattle.std.proofs.lemmas.List.Elements.{All-head, All-tail, All-push, Contains-append_left}
use Rattle.std.proofs.lemmas.List.Elements.{Contains-push, Contains-push_cases}
use Rattle.lore_base.specs.Lists.{Extends}
use Rattle.lore_base.proofs.ListLaws.{AllPairs-tail, AllPairs-head}
use Rattle.lore_base.proofs.MemberLaws.{Contains-none, Contains-head, Contains-tail, Contains-cases}
use Rattle.list_laws.proofs.PlaceLaws.{Contains-extends}
use Rattle.list_laws.proofs.MemberLaws.{Contains-from_map}
use Rattle.set_explorer.specs.Types.{Oid, Edge}
use Rattle.lore_base.specs.TargetSets.{LeadsTo}
use Rattle.lore_base.specs.PathOrder.{ComesBefore}
use Rattle.set_explorer.specs.inside.Entering.{AreEntered}
use Rattle.set_explorer.specs.inside.Trails.{TrailStop, IsMet, IsTrail}
use Rattle.set_steps.proofs.PairLaws.{AllPairs-push}

abbrev pub set_of : TrailStop → List Oid
set_of stop = stop.set

-- a trail that has grown by some stops, each of which is met
pub record IsGrown (names : List (List ℕ × Oid)) (edges : List Edge) (trail stops : List TrailStop)
    (sets : List (List Oid)) : Type 0 where
  pub grown : List TrailStop
  pub extends : Extends trail grown
  pub is : IsTrail names edges grown sets
  pub from : (stop : TrailStop) → Contains grown stop → Contains trail stop ⊎ Contains stops stop
  pub met : (stop : TrailStop) → Contains stops stop → IsMet grown stop

-- what was met stays so
pub met-extends : (trail grown : List TrailStop) (stop : TrailStop) → Extends trail grown → IsMet trail stop → IsMet grown stop
met-extends trail grown stop extends met = record {
  by = met.by;
  found = subst (λ (l : List TrailStop). Contains l (record { path = met.by; set = stop.set })) (sym extends.1)
      (Contains-append_left trail extends.0 (record { path = met.by; set = stop.set }) met.found);
  order = met.order;
}

module _ (names : List (List ℕ × Oid)) (edges : List Edge) where
  push-trail : (trail : List TrailStop) (sets : List (List Oid)) (stop : TrailStop) → IsTrail names edges trail sets
      → LeadsTo names edges stop.path stop.set
      → ((earlier : TrailStop) → Contains trail earlier → ComesBefore earlier.path stop.path) → (¬ Contains sets stop.set)
      → IsTrail names edges (trail ++ stop ∷ []) (sets ++ stop.set ∷ [])
  push-trail trail sets stop is leads before fresh = record {
    found = map_push set_of trail stop ∙ ap (λ (l : List (List Oid)). l ++ stop.set ∷ []) is.found;
    leads = All-push (λ (s : TrailStop). LeadsTo names edges s.path s.set) trail stop is.leads leads;
    ascending = AllPairs-push (λ (a b : TrailStop). ComesBefore a.path b.path) trail stop is.ascending before;
    apart =
        AllPairs-push (λ (a b : List Oid). (a ≡ b) → ⊥) sets stop.set is.apart
        (λ set there same. fresh (subst (λ (s : List Oid). Contains sets s) same there));
  }

  -- a set that was found is met by what comes later
  met-there : (trail : List TrailStop) (sets : List (List Oid)) (stop : TrailStop) → map set_of trail ≡ sets
      → Contains sets stop.set
      → ((earlier : TrailStop) → Contains trail earlier → ComesBefore earlier.path stop.path) → IsMet trail stop
  met-there trail sets stop found there before =
      let from =
      Contains-from_map set_of trail stop.set (subst (λ (l : List (List Oid)). Contains l stop.set) (sym found) there) in
      record {
        by = from.0.path;
        found = subst (λ (s : List Oid). Contains trail (record { path = from.0.path; set = s })) from.2 from.1;
        order = inr (before from.0 from.1);
      }

  pub trail-entered : (stops trail : List TrailStop) (sets new : List (List Oid)) → IsTrail names edges trail sets
      → All (λ stop. LeadsTo names edges stop.path stop.set) stops → AllPairs (λ a b. ComesBefore a.path b.path) stops
      → ((earlier later : TrailStop) → Contains trail earlier → Contains stops later → ComesBefore earlier.path later.path)
      → AreEntered sets (map set_of stops) new → IsGrown names edges trail stops new
  trail-entered [] trail sets new is leads ascending before entered = record {
    grown = trail;
    extends = ([], sym (append-nil trail));
    is = subst (λ (l : List (List Oid)). IsTrail names edges trail l) (sym entered) is;
    from = λ stop there. inl there;
    met = λ stop there. absurd (Contains-none stop there);
  }
  trail-entered (first ∷ stops) trail sets new is leads ascending before entered =
      let later_leads = All-tail (λ (stop : TrailStop). LeadsTo names edges stop.path stop.set) first stops leads in
      let later_ascend = AllPairs-tail (λ (a b : TrailStop). ComesBefore a.path b.path) first stops ascending in
      elim entered.1 [
        | inl there ↦
            let rest = trail-entered stops trail sets new is later_leads later_ascend
            (λ earlier later at in_stops. before earlier later at (Contains-tail first stops later in_stops))
            (subst (λ (l : List (List Oid)). AreEntered l (map set_of stops) new) there.1 entered.2) in
            record {
              grown = rest.grown;
              extends = rest.extends;
              is = rest.is;
              from = λ stop at. elim (rest.from stop at) [
                | inl old ↦ inl old
                | inr late ↦ inr (Contains-tail first stops stop late)
              ];
              met = λ stop at. elim (Contains-cases first stops stop at) [
                | inl same ↦ subst (λ (s : TrailStop). IsMet rest.grown s) same
                    (met-extends trail rest.grown first rest.extends
                    (met-there trail sets first is.found there.0 (λ earlier in_trail. before earlier first in_trail
                    (Contains-head first stops))))
                | inr late ↦ rest.met stop late
              ];
            }
        | inr fresh ↦
            let pushed =
            push-trail trail sets first is (All-head (λ (stop : TrailStop). LeadsTo names edges stop.path stop.set) first
            stops leads)
            (λ earlier at. before earlier first at (Contains-head first stops)) fresh.0 in
            let rest =
            trail-entered stops (trail ++ first ∷ []) (sets ++ first.set ∷ []) new pushed later_leads later_ascend
            (λ earlier later at in_stops. elim (Contains-push_cases trail first earlier at) [
              | inl old ↦ before earlier later old (Contains-tail first stops later in_stops)
              | inr same ↦ subst (λ (s : TrailStop). ComesBefore s.path later.path) same
                  (AllPairs-head (λ (a b : TrailStop). ComesBefore a.path b.path) first stops ascending later in_stops)
            ])
            (subst (λ (l : List (List Oid)). AreEntered l (map set_of stops) new) fresh.1 entered.2) in
            record {
              grown = rest.grown;
              extends = (first ∷ rest.extends.0, rest.extends.1 ∙ append_assoc trail (first ∷ []) rest.extends.0);
              is = rest.is;
              from = λ stop at. elim (rest.from stop at) [
                | inl old ↦ elim (Contains-push_cases trail first stop old) [
                  | inl older ↦ inl older
                  | inr same ↦ inr (subst (λ (s : TrailStop). Contains (first ∷ stops) s) same (Contains-head first stops))
                ]
                | inr late ↦ inr (Contains-tail first stops stop late)
              ];
              met = λ stop at. elim (Contains-cases first stops stop at) [
                | inl same ↦ subst (λ (s : TrailStop). IsMet rest.grown s) same (record {
                  by = first.path;
                  found = Contains-extends (trail ++ first ∷ []) rest.grown first rest.extends (Contains-push trail first);
                  order = inl refl;
                })
                | inr late ↦ rest.met stop late
              ];
            }
      ]
