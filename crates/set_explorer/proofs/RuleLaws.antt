-- Where the search stops, the first sets that do not fit were found.
use Rattle.std.proofs.Common.{◌≡◌, ℕ, ◌<◌, inl, inr, Less, List, [], ◌∷◌, ◌++◌, length, map, Some, AllPairs, Contains}
use Rattle.std.proofs.Common.{refl, sym, ap, ◌∙◌, subst, arith, length-append}
use Rattle.std.specs.List.{slice_get}
use Rattle.std.proofs.lemmas.Bool.{cases_lt}
use Rattle.std.proofs.lemmas.List.Elements.{All-contains, Contains-append_left, Contains-append_right}
use Rattle.std.proofs.lemmas.List.Elements.{Contains-append_cases}
use Rattle.lore_base.specs.Bytes.{bytes_cmp}
use Rattle.lore_base.specs.Names.{IsNameTable}
use Rattle.set_explorer.specs.Types.{Oid, Label, Edge, GuideNode, GuideFault, Nodes, Cells, NoMemory}
use Rattle.lore_base.specs.TargetSets.{LabelPath, IsStep, LeavesTo, LeadsTo}
use Rattle.lore_base.specs.PathOrder.{ComesBefore}
use Rattle.set_explorer.specs.Nodes.{sets_of}
use Rattle.lore_base.specs.GuideLimits.{AreFirstSets, KeepLimits}
use Rattle.set_explorer.specs.GuideCauses.{GuideCause}
use Rattle.set_steps.specs.SetSteps.{AreSteps}
use Rattle.set_explorer.specs.inside.Entering.{AreEntered}
use Rattle.set_explorer.specs.inside.Trails.{TrailStop, start_path, longer, IsMet, IsSearched}
use Rattle.set_explorer.specs.inside.Founds.{Passes, StopsAt, AreStopped, IsHalted}
use Rattle.lore_base.proofs.MemberLaws.{Contains-none, Contains-head, Contains-cases}
use Rattle.set_explorer.proofs.PathOrder.{before-longer, before-label, before-end}
use Rattle.set_steps.proofs.PlaceLaws.{at-unmap}
use Rattle.lore_base.proofs.ListLaws.{AllPairs-head, AllPairs-tail}
use Rattle.std.proofs.lemmas.Option.{slice_get_within}
use Rattle.std.proofs.lemmas.List.{get_or_append_left}
use Rattle.list_laws.proofs.MemberLaws.{All-from_members, Contains-map, Contains-from_map}
use Rattle.list_laws.proofs.PlaceLaws.{Contains-from_place, place_of_member, slice_get-append_left, pair_at}
use Rattle.list_laws.proofs.PartLaws.{map-map}
use Rattle.set_explorer.proofs.TrailLaws.{set_of, IsGrown, trail-entered, met-extends}
use Rattle.set_explorer.proofs.StopLaws.{stop_of, named_stop, leads-start, leads-step, keys-ascend}
use Rattle.set_steps.proofs.PairLaws.{AllPairs-map}
use Rattle.set_explorer.proofs.FirstLaws.{first-sets, Advances}

-- the first sets keep the limits, and the next one passes one
pub record IsPassed (fault : GuideFault) (limit : ℕ) (names : List (List ℕ × Oid)) (edges : List Edge) : Type 0 where
  pub sets : List (List Oid)
  pub next : List Oid
  pub first : AreFirstSets names edges (sets ++ next ∷ [])
  pub fit : KeepLimits limit sets
  pub passes : Passes fault limit sets next

nodes-passed : (limit : ℕ) (names : List (List ℕ × Oid)) (edges : List Edge) → IsPassed Nodes limit names edges
    → GuideCause limit names edges Nodes
nodes-passed limit names edges is = record {
  sets = is.sets;
  next = is.next;
  first = is.first;
  kept = is.fit;
  passed = is.passes;
}

cells-passed : (limit : ℕ) (names : List (List ℕ × Oid)) (edges : List Edge) → IsPassed Cells limit names edges
    → GuideCause limit names edges Cells
cells-passed limit names edges is = record {
  sets = is.sets;
  next = is.next;
  first = is.first;
  kept = is.fit;
  room = is.passes.0;
  passed = is.passes.1;
}

-- a mapped list is split as its parts were
record IsCut {X Y : Type 0} (f : X → Y) (xs : List X) (ys : List Y) (y : Y) (zs : List Y) : Type 0 where
  pub front : List X
  pub item : X
  pub rest : List X
  pub is : xs ≡ front ++ item ∷ rest
  pub fronts : map f front ≡ ys
  pub items : f item ≡ y

cut-map : {X Y : Type 0} (f : X → Y) (xs : List X) (ys : List Y) (y : Y) (zs : List Y) → map f xs ≡ ys ++ y ∷ zs
    → IsCut f xs ys y zs
cut-map f [] [] y zs is = cc
cut-map f [] (first ∷ ys) y zs is = cc
cut-map f (x ∷ xs) [] y zs is = record {
  front = [];
  item = x;
  rest = xs;
  is = refl;
  fronts = refl;
  items = (let same : f x ≡ y = cc in same);
}
cut-map {X} {Y} f (x ∷ xs) (first ∷ ys) y zs is =
    let later : map f xs ≡ ys ++ y ∷ zs = cc in
    let head : f x ≡ first = cc in
    let cut = cut-map f xs ys y zs later in
    record {
      front = x ∷ cut.front;
      item = cut.item;
      rest = cut.rest;
      is = ap (λ l. x ∷ l) cut.is;
      fronts = (let tail : map f cut.front ≡ ys = cut.fronts in ap (λ (l : List Y). f x ∷ l) tail
          ∙ ap (λ (h : Y). h ∷ ys) head);
      items = cut.items;
    }

-- items in front of another come before it, and those behind it after
pairs-front : {X : Type 0} (R : X → X → Type 0) (front : List X) (item : X) (rest : List X) → AllPairs R
    (front ++ item ∷ rest)
    → (x : X) → Contains front x → R x item
pairs-front {X} R front item rest pairs x there =
    let i = place_of_member front x there in
    pair_at R (front ++ item ∷ rest) i.0 (length front) x item pairs (slice_get_within front i.0 x i.1)
    (slice_get-append_left front (item ∷ rest) i.0 x i.1) (at-mid front item rest)
  where
    at-mid : (front : List X) (item : X) (rest : List X) → slice_get (front ++ item ∷ rest) (length front) ≡ Some item
    at-mid [] item rest = refl
    at-mid (y ∷ front) item rest = at-mid front item rest

pairs-rest : {X : Type 0} (R : X → X → Type 0) (front : List X) (item : X) (rest : List X) → AllPairs R
    (front ++ item ∷ rest)
    → (x : X) → Contains rest x → R item x
pairs-rest R [] item rest pairs x there = AllPairs-head R item rest pairs x there
pairs-rest R (y ∷ front) item rest pairs x there = pairs-rest R front item rest
    (AllPairs-tail R y (front ++ item ∷ rest) pairs) x there

pairs-cut : {X : Type 0} (R : X → X → Type 0) (front : List X) (item : X) (rest : List X) → AllPairs R
    (front ++ item ∷ rest) → AllPairs R front
pairs-cut R front item rest pairs i j d less within =
    rw (
      sym (get_or_append_left front (item ∷ rest) d i (omega (arith, less, within))),
      sym
          (get_or_append_left front (item ∷ rest) d j within),
    )
    (pairs i j d less (omega (arith, within, length-append front (item ∷ rest))))

module _ (names : List (List ℕ × Oid)) (edges : List Edge) (table : IsNameTable names) where
  -- ---- the names do not fit
  module _ (fault : GuideFault) (limit : ℕ) (stops : StopsAt fault limit [] (map (λ named. named.1 ∷ []) names)) where
    abbrev alone : List ℕ × Oid → List Oid
    alone named = named.1 ∷ []

    cut : IsCut alone names stops.done stops.next stops.others
    cut = cut-map alone names stops.done stops.next stops.others stops.is

    in-front : (named : List ℕ × Oid) → Contains cut.front named → Contains names named
    in-front named there = subst (λ (l : List (List ℕ × Oid)). Contains l named) (sym cut.is)
        (Contains-append_left cut.front (cut.item ∷ cut.rest) named there)

    item-there : Contains names cut.item
    item-there = subst (λ (l : List (List ℕ × Oid)). Contains l cut.item) (sym cut.is)
        (Contains-append_right cut.front (cut.item ∷ cut.rest) cut.item (Contains-head cut.item cut.rest))

    ascends : AllPairs (λ a b. bytes_cmp a.0 b.0 ≡ Less) (cut.front ++ cut.item ∷ cut.rest)
    ascends = subst (λ (l : List (List ℕ × Oid)). AllPairs (λ a b. bytes_cmp a.0 b.0 ≡ Less) l) cut.is
        (keys-ascend names table)

    before-item : (named : List ℕ × Oid) → Contains cut.front named → ComesBefore (start_path named.0)
        (start_path cut.item.0)
    before-item named there =
        inr (
          refl,
          inl (pairs-front (λ (a b : List ℕ × Oid). bytes_cmp a.0 b.0 ≡ Less) cut.front cut.item cut.rest
              ascends named there),
        )

    grown : IsGrown names edges [] (map named_stop cut.front) stops.found
    grown =
        trail-entered names edges (map named_stop cut.front) [] [] stops.found
        (record {
          found = refl;
          leads = λ k d within. absurd (omega (arith, within));
          ascending = λ i j d less within. absurd (omega (arith, within));
          apart = λ i j d less within. absurd (omega (arith, within));
        })
        (All-from_members (λ (s : TrailStop). LeadsTo names edges s.path s.set) (map named_stop cut.front) (λ stop there. (
        let from = Contains-from_map named_stop cut.front stop there in
        subst (λ (s : TrailStop). LeadsTo names edges s.path s.set) from.2
        (leads-start names edges from.0 (in-front from.0 from.1)))))
        (AllPairs-map named_stop (λ (a b : List ℕ × Oid). bytes_cmp a.0 b.0 ≡ Less)
        (λ (a b : TrailStop). ComesBefore a.path b.path)
        (λ a b less. inr (refl, inl less)) cut.front (pairs-cut (λ (a b : List ℕ × Oid). bytes_cmp a.0 b.0 ≡ Less)
        cut.front cut.item cut.rest ascends))
        (λ earlier later none there. absurd (Contains-none earlier none))
        (subst (λ (l : List (List Oid)). AreEntered [] l stops.found)
        (sym (map-map named_stop set_of cut.front ∙ cut.fronts)) stops.entered)

    from-front : (stop : TrailStop) → Contains grown.grown stop → (named : List ℕ × Oid) × Contains cut.front named
        × (named_stop named ≡ stop)
    from-front stop there = elim (grown.from stop there) [
      | inl none ↦ absurd (Contains-none stop none)
      | inr begun ↦ Contains-from_map named_stop cut.front stop begun
    ]

    pub names-passed : IsPassed fault limit names edges
    names-passed = record {
      sets = stops.found;
      next = stops.next;
      first = first-sets names edges table grown.grown stops.found grown.is (start_path cut.item.0) stops.next
          (λ named there. (elim (Contains-append_cases cut.front (cut.item ∷ cut.rest) named
          (subst (λ (l : List (List ℕ × Oid)). Contains l named) cut.is there)) [
            | inl front ↦ inl (grown.met (named_stop named) (Contains-map named_stop cut.front named front))
            | inr behind ↦ elim (Contains-cases cut.item cut.rest named behind) [
              | inl same ↦ inr (inl (ap (λ (n : List ℕ × Oid). start_path n.0) same))
              | inr later ↦ inr
                  (inr (inr (
                    refl,
                    inl (pairs-rest (λ (a b : List ℕ × Oid). bytes_cmp a.0 b.0 ≡ Less) cut.front
                        cut.item cut.rest ascends named later),
                  )))
            ]
          ]))
          (λ stop there label oid leaves. inr (inr (inl (omega (arith, length-append stop.path.word (label ∷ []))))))
          (subst (λ (s : List Oid). LeadsTo names edges (start_path cut.item.0) s) cut.items
          (leads-start names edges cut.item item-there))
          (λ stop there. (
          let from = from-front stop there in
          subst (λ (s : TrailStop). ComesBefore s.path (start_path cut.item.0)) from.2 (before-item from.0 from.1)))
          stops.fresh;
      fit = stops.fit;
      passes = stops.passes;
    }

  -- ---- a step does not fit
  module _ (fault : GuideFault) (limit : ℕ) (nodes : List GuideNode) (n : ℕ) (searched : IsSearched names edges nodes n)
      (set : List Oid) (at : slice_get (sets_of nodes) n ≡ Some set) (steps : List (Label × List Oid))
      (are : AreSteps edges set steps)
      (stops : StopsAt fault limit (sets_of nodes) (map (λ step. step.1) steps)) where
    abbrev step_set : Label × List Oid → List Oid
    step_set step = step.1

    stop_at : (stop : TrailStop) × (slice_get searched.trail n ≡ Some stop) × (stop.set ≡ set)
    stop_at = at-unmap set_of searched.trail n set (subst (λ (l : List (List Oid)). slice_get l n ≡ Some set)
        (sym searched.is.found) at)

    abbrev here : TrailStop
    here = stop_at.0

    own : AreSteps edges here.set steps
    own = subst (λ (s : List Oid). AreSteps edges s steps) (sym stop_at.2) are

    leads_here : LeadsTo names edges here.path here.set
    leads_here = All-contains (λ (s : TrailStop). LeadsTo names edges s.path s.set) searched.trail here searched.is.leads
        (Contains-from_place searched.trail n here stop_at.1)

    cut-steps : IsCut step_set steps stops.done stops.next stops.others
    cut-steps = cut-map step_set steps stops.done stops.next stops.others stops.is

    step-ascends : AllPairs (λ a b. a.0.0 < b.0.0) (cut-steps.front ++ cut-steps.item ∷ cut-steps.rest)
    step-ascends = subst (λ (l : List (Label × List Oid)). AllPairs (λ a b. a.0.0 < b.0.0) l) cut-steps.is own.ascend

    in-steps : (step : Label × List Oid) → Contains cut-steps.front step → Contains steps step
    in-steps step there = subst (λ (l : List (Label × List Oid)). Contains l step) (sym cut-steps.is)
        (Contains-append_left cut-steps.front (cut-steps.item ∷ cut-steps.rest) step there)

    item-step : Contains steps cut-steps.item
    item-step = subst (λ (l : List (Label × List Oid)). Contains l cut-steps.item) (sym cut-steps.is)
        (Contains-append_right cut-steps.front (cut-steps.item ∷ cut-steps.rest) cut-steps.item
        (Contains-head cut-steps.item cut-steps.rest))

    leads-by : (step : Label × List Oid) → Contains steps step → LeadsTo names edges (longer here.path step.0) step.1
    leads-by step there = leads-step names edges here.path here.set step.0 step.1 leads_here
        (All-contains (λ (s : Label × List Oid). IsStep edges here.set s.0 s.1) steps step own.sets there)
        (All-contains (λ (s : Label × List Oid). (s.1 ≡ []) → ⊥) steps step own.some there)

    abbrev next_path : LabelPath
    next_path = longer here.path cut-steps.item.0

    grown-steps : IsGrown names edges searched.trail (map (stop_of here.path) cut-steps.front) stops.found
    grown-steps =
        trail-entered names edges (map (stop_of here.path) cut-steps.front) searched.trail (sets_of nodes) stops.found
        searched.is
        (All-from_members (λ (s : TrailStop). LeadsTo names edges s.path s.set) (map (stop_of here.path) cut-steps.front)
        (λ stop there. (
        let from = Contains-from_map (stop_of here.path) cut-steps.front stop there in
        subst (λ (s : TrailStop). LeadsTo names edges s.path s.set) from.2 (leads-by from.0 (in-steps from.0 from.1)))))
        (AllPairs-map (stop_of here.path) (λ (a b : Label × List Oid). a.0.0 < b.0.0)
        (λ (a b : TrailStop). ComesBefore a.path b.path)
        (λ a b less. before-label here.path a.0 b.0 less) cut-steps.front
        (pairs-cut (λ (a b : Label × List Oid). a.0.0 < b.0.0) cut-steps.front cut-steps.item cut-steps.rest
        step-ascends))
        (λ earlier later in_trail in_steps. (
        let step = Contains-from_map (stop_of here.path) cut-steps.front later in_steps in
        subst (λ (s : TrailStop). ComesBefore earlier.path s.path) step.2
        (All-contains (λ (s : TrailStop). ComesBefore s.path (longer here.path step.0.0)) searched.trail earlier
        (searched.ahead here step.0.0 stop_at.1) in_trail)))
        (subst (λ (l : List (List Oid)). AreEntered (sets_of nodes) l stops.found)
        (sym (map-map (stop_of here.path) set_of cut-steps.front ∙ cut-steps.fronts)) stops.entered)

    old-advances : (stop : TrailStop) → Contains searched.trail stop → (label : Label) (oid : Oid)
        → LeavesTo edges stop.set label oid
        → Advances edges grown-steps.grown next_path stop label
    old-advances stop there label oid leaves =
        let place = place_of_member searched.trail stop there in
        elim (cases_lt place.0 n) [
          | inl early ↦ (
              let done = searched.done place.0 stop early place.1 label oid leaves in
              inl (
                done.0,
                done.1,
                met-extends searched.trail grown-steps.grown (record { path = longer stop.path label; set = done.0 })
                    grown-steps.extends done.2,
              ))
          | inr late ↦ elim (cases_lt n place.0) [
            | inl after ↦ inr (inr (before-longer here.path stop.path cut-steps.item.0 label
                (pair_at (λ (a b : TrailStop). ComesBefore a.path b.path) searched.trail n place.0 here stop
                searched.is.ascending after stop_at.1 place.1)))
            | inr equal ↦ (
                let k : n ≡ place.0 = omega (arith, late, equal) in
                let both : Some here ≡ Some stop = sym stop_at.1 ∙ ap (slice_get searched.trail) k ∙ place.1 in
                let same : here ≡ stop = cc in
                subst (λ (s : TrailStop). Advances edges grown-steps.grown next_path s label) same
                (here-advances label oid (subst (λ (s : TrailStop). LeavesTo edges s.set label oid) (sym same) leaves)))
          ]
        ]
      where
        here-advances : (label : Label) (oid : Oid) → LeavesTo edges here.set label oid
            → Advances edges grown-steps.grown next_path here label
        here-advances label oid leaves =
            let step = own.all label oid leaves in
            let is_step = All-contains (λ (s : Label × List Oid). IsStep edges here.set s.0 s.1) steps
            (label, step.0) own.sets step.1 in
            elim (Contains-append_cases cut-steps.front (cut-steps.item ∷ cut-steps.rest) (label, step.0)
            (subst (λ (l : List (Label × List Oid)). Contains l (label, step.0)) cut-steps.is step.1)) [
              | inl front ↦ inl (
                step.0,
                is_step,
                grown-steps.met (stop_of here.path (label, step.0))
                    (Contains-map (stop_of here.path) cut-steps.front (label, step.0) front),
              )
              | inr behind ↦ elim (Contains-cases cut-steps.item cut-steps.rest (label, step.0) behind) [
                | inl same ↦ inr (inl (ap (λ (s : Label × List Oid). longer here.path s.0) same))
                | inr later ↦ inr (inr (before-label here.path cut-steps.item.0 label
                    (pairs-rest (λ (a b : Label × List Oid). a.0.0 < b.0.0) cut-steps.front cut-steps.item
                    cut-steps.rest step-ascends (label, step.0) later)))
              ]
            ]

    pub step-passed : IsPassed fault limit names edges
    step-passed = record {
      sets = stops.found;
      next = stops.next;
      first = first-sets names edges table grown-steps.grown stops.found grown-steps.is next_path stops.next
          (λ named there. inl (met-extends searched.trail grown-steps.grown (named_stop named) grown-steps.extends
          (All-contains (λ (n : List ℕ × Oid). IsMet searched.trail (named_stop n)) names named searched.started
          there)))
          (λ stop there label oid leaves. (elim (grown-steps.from stop there) [
            | inl old ↦ old-advances stop old label oid leaves
            | inr begun ↦ (
                let step = Contains-from_map (stop_of here.path) cut-steps.front stop begun in
                inr (inr (before-longer here.path stop.path cut-steps.item.0 label
                (subst (λ (s : TrailStop). ComesBefore here.path s.path) step.2
                (before-end here.path here.path step.0.0 (inl refl))))))
          ]))
          (subst (λ (s : List Oid). LeadsTo names edges next_path s) cut-steps.items
          (leads-by cut-steps.item item-step))
          (λ stop there. (elim (grown-steps.from stop there) [
            | inl old ↦ All-contains (λ (s : TrailStop). ComesBefore s.path next_path) searched.trail stop
                (searched.ahead here cut-steps.item.0 stop_at.1) old
            | inr begun ↦ (
                let step = Contains-from_map (stop_of here.path) cut-steps.front stop begun in
                subst (λ (s : TrailStop). ComesBefore s.path next_path) step.2
                (before-label here.path step.0.0 cut-steps.item.0
                (pairs-front (λ (a b : Label × List Oid). a.0.0 < b.0.0) cut-steps.front cut-steps.item cut-steps.rest
                step-ascends step.0 step.1)))
          ]))
          stops.fresh;
      fit = stops.fit;
      passes = stops.passes;
    }

  pub names-refused : (fault : GuideFault) (limit : ℕ) → AreStopped fault limit [] (map (λ named. named.1 ∷ []) names)
      → GuideCause limit names edges fault
  names-refused NoMemory limit stops = tt
  names-refused Nodes limit stops = nodes-passed limit names edges (names-passed Nodes limit stops)
  names-refused Cells limit stops = cells-passed limit names edges (names-passed Cells limit stops)

  pub steps-refused : (fault : GuideFault) (limit : ℕ) (nodes : List GuideNode) (n : ℕ) (kept : List (List Oid))
      (dirty gained : List Oid)
      (before now : ℕ) → IsSearched names edges nodes n
      → IsHalted fault limit edges kept dirty gained (sets_of nodes) n before now → GuideCause limit names edges fault
  steps-refused NoMemory limit nodes n kept dirty gained before now searched halted = tt
  steps-refused Nodes limit nodes n kept dirty gained before now searched halted =
      nodes-passed limit names edges
      (step-passed Nodes limit nodes n searched halted.set halted.at halted.steps halted.are halted.stops)
  steps-refused Cells limit nodes n kept dirty gained before now searched halted =
      cells-passed limit names edges
      (step-passed Cells limit nodes n searched halted.set halted.at halted.steps halted.are halted.stops)
