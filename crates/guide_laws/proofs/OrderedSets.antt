-- All sets that label paths lead to can be listed in the order of their least paths.
use Rattle.std.proofs.Common.{◌≡◌, ◌≢◌, ℕ, inl, inr, List, [], ◌∷◌, map, ap, subst}
use Rattle.std.specs.List.{AllZip, Contains}
use Rattle.lore_base.specs.Names.{IsNameTable}
use Rattle.lore_base.specs.Walks.{Walk}
use Rattle.lore_base.specs.TargetSets.{LabelPath, IsTargetSet, LeadsTo, IsLedTo, AreTargetSets}
use Rattle.lore_base.proofs.MemberLaws.{Contains-none, Contains-head, Contains-tail, Contains-cases, Contains-same}
use Rattle.lore_base.proofs.TargetLaws.{ListsInOrder-unique}
use Rattle.list_laws.proofs.AscentLaws.{IsEither, IsSetOf, AllPairs-within, some_ordered_among}
use Rattle.list_laws.proofs.MemberLaws.{Contains-map, Contains-from_map}
use Rattle.oem_changes.proofs.TableLaws.{one_entry}
use Rattle.dataguide.specs.Types.{Oid, Edge}
use Rattle.lore_base.specs.PathOrder.{ComesBefore, IsLeastPath, AreInPathOrder}
use Rattle.dataguide.specs.inside.Trails.{TrailStop}
use Rattle.dataguide.proofs.PathOrder.{before-trans, before-itself, before-not_back}
use Rattle.set_steps.proofs.PairLaws.{AllPairs-map}
use Rattle.guide_laws.specs.Laws.{OrderedSetsExist}
use Rattle.guide_laws.proofs.LeastPaths.{either_path, some_least}
use Rattle.guide_laws.proofs.TargetSetLaws.{target_sets_exist}

abbrev Before : TrailStop → TrailStop → Type 0
Before a b = ComesBefore a.path b.path

module _ (names : List (List ℕ × Oid)) (edges : List Edge) where
  abbrev IsLeast : TrailStop → Type 0
  IsLeast stop = IsLeastPath names edges stop.path stop.set

  -- each set with its least path
  record AreStops (sets : List (List Oid)) (stops : List TrailStop) : Type 0 where
    pub each : (stop : TrailStop) → Contains stops stop → Contains sets stop.set × IsLeast stop
    pub all : (set : List Oid) → Contains sets set
        → (path : LabelPath) × Contains stops (record { path = path; set = set })

  some_stops : (sets : List (List Oid)) → ((set : List Oid) → Contains sets set → IsLedTo names edges set)
      → (stops : List TrailStop) × AreStops sets stops
  some_stops [] led = (
    [],
    record {
      each = λ stop at. absurd (Contains-none stop at);
      all = λ set at. absurd (Contains-none set at);
    },
  )
  some_stops (set ∷ sets) led =
      let path = led set (Contains-head set sets) in
      let least = some_least names edges set path.0 path.1 in
      let stop : TrailStop = record { path = least.0; set = set } in
      let rest = some_stops sets (λ other at. led other (Contains-tail set sets other at)) in (
        stop ∷ rest.0,
        record {
          each = λ other at. elim (Contains-cases stop rest.0 other at) [
            | inl same ↦ subst (λ (s : TrailStop). Contains (set ∷ sets) s.set × IsLeast s) same
                (Contains-head set sets, least.1)
            | inr later ↦ (
                let is = rest.1.each other later in (Contains-tail set sets other.set is.0, is.1))
          ];
          all = λ other at. elim (Contains-cases set sets other at) [
            | inl same ↦ (
              least.0,
              Contains-same (stop ∷ rest.0) stop (record { path = least.0; set = other })
                  (λ i. record { path = least.0; set = same i }) (Contains-head stop rest.0),
            )
            | inr later ↦ (
                let there = rest.1.all other later in
                (there.0, Contains-tail stop rest.0 (record { path = there.0; set = other }) there.1))
          ];
        },
      )

  module _ (table : IsNameTable names) where
    -- a path leads to one set
    one_set : (a b : TrailStop) → IsLeast a → IsLeast b → a.path ≡ b.path → a ≡ b
    one_set a b first second same =
        let name : a.path.name ≡ b.path.name = ap (λ (p : LabelPath). p.name) same in
        let entry = one_entry names table (a.path.name, first.leads.start) (b.path.name, second.leads.start)
        first.leads.named second.leads.named name in
        let start : first.leads.start ≡ second.leads.start = ap (λ (e : List ℕ × Oid). e.1) entry in
        let target : IsTargetSet edges second.leads.start b.path.word a.set =
        subst (λ (o : Oid). IsTargetSet edges o b.path.word a.set) start
        (subst (λ (p : LabelPath). IsTargetSet edges first.leads.start p.word a.set) same first.leads.target) in
        let set : a.set ≡ b.set =
        ListsInOrder-unique (Walk edges second.leads.start b.path.word) a.set b.set target second.leads.target in
        λ i. record { path = same i; set = set i }

    either_stop : (a b : TrailStop) → IsLeast a → IsLeast b → IsEither Before a b
    either_stop a b first second = elim (either_path a.path b.path) [
      | inl before ↦ inl before
      | inr other ↦ elim other [
        | inl same ↦ inr (inl (one_set a b first second same))
        | inr behind ↦ inr (inr behind)
      ]
    ]

  -- two stops in order have two sets
  apart_stops : (a b : TrailStop) → IsLeast a → IsLeast b → Before a b → a.set ≢ b.set
  apart_stops a b first second before same =
      let led : LeadsTo names edges a.path b.set = subst (LeadsTo names edges a.path) same first.leads in
      elim (second.least a.path led) [
        | inl path ↦ before-itself a.path (subst (ComesBefore a.path) path before)
        | inr behind ↦ before-not_back a.path b.path before behind
      ]

  zip_least : (stops : List TrailStop) → ((stop : TrailStop) → Contains stops stop → IsLeast stop)
      → AllZip (IsLeastPath names edges) (map (λ stop. stop.path) stops) (map (λ stop. stop.set) stops)
  zip_least [] each = tt
  zip_least (stop ∷ stops) each = (
    each stop (Contains-head stop stops),
    zip_least stops (λ other at. each other (Contains-tail stop stops other at)),
  )

  module _ (sets : List (List Oid)) (are : AreTargetSets names edges sets) (stops sorted : List TrailStop)
      (with : AreStops sets stops) (is : IsSetOf Before stops sorted) where
    least_is : (stop : TrailStop) → Contains sorted stop → IsLeast stop
    least_is stop at = (with.each stop (is.only stop at)).1

    sorted_targets : AreTargetSets names edges (map (λ stop. stop.set) sorted)
    sorted_targets = record {
      apart = AllPairs-map (λ (s : TrailStop). s.set) (λ (a b : TrailStop). a.set ≢ b.set) (λ (a b : List Oid). a ≢ b)
          (λ a b apart. apart) sorted
          (AllPairs-within Before (λ (a b : TrailStop). a.set ≢ b.set) sorted
          (λ a b at_a at_b before. apart_stops a b (least_is a at_a) (least_is b at_b) before) is.ascend);
      exact = λ set. (
        λ at.
            let from = Contains-from_map (λ (s : TrailStop). s.set) sorted set at in
            subst (IsLedTo names edges) from.2 ((from.0.path, (least_is from.0 from.1).leads)),
        λ led.
            let there = with.all set ((are.exact set).1 led) in
            let stop : TrailStop = record { path = there.0; set = set } in
            Contains-map (λ (s : TrailStop). s.set) sorted stop (is.kept stop there.1),
      );
    }

    sorted_order : AreInPathOrder names edges (map (λ stop. stop.set) sorted)
    sorted_order = record {
      paths = map (λ stop. stop.path) sorted;
      least = zip_least sorted least_is;
      ascending = AllPairs-map (λ (s : TrailStop). s.path) Before ComesBefore (λ a b before. before) sorted is.ascend;
    }

pub ordered_sets_exist : OrderedSetsExist
ordered_sets_exist names edges table =
    let sets = target_sets_exist names edges in
    let stops = some_stops names edges sets.0 (λ set at. (sets.1.exact set).0 at) in
    let sorted = some_ordered_among Before (λ a b c first second. before-trans a.path b.path c.path first second)
    stops.0
    (λ a b at_a at_b. either_stop names edges table a b (stops.1.each a at_a).1 (stops.1.each b at_b).1) in (
      map (λ stop. stop.set) sorted.0,
      sorted_targets names edges sets.0 sets.1 stops.0 sorted.0 stops.1 sorted.1,
      sorted_order names edges sets.0 sets.1 stops.0 sorted.0 stops.1 sorted.1,
    )
