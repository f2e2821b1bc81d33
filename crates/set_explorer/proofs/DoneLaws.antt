-- A search that is done has found all target sets, each by its least path.
use Rattle.std.proofs.Common.{◌≡◌, ◌≢◌, ℕ, ◌<◌, List, [], ◌∷◌, ◌++◌, length, map, Some, All, AllPairs, Contains, refl}
use Rattle.std.proofs.Common.{sym, ap, ◌∙◌, subst, append_assoc, arith}
use Rattle.std.specs.List.{slice_get, AllZip}
use Rattle.std.proofs.lemmas.List.{append-nil, length-map}
use Rattle.std.proofs.lemmas.List.Elements.{All-contains, All-tail, All-head}
use Rattle.std.proofs.lemmas.Option.{slice_get_within}
use Rattle.lore_base.specs.Walks.{Walk}
use Rattle.lore_base.proofs.WalkLaws.{Walk-split}
use Rattle.lore_base.proofs.TargetLaws.{ListsInOrder-unique}
use Rattle.lore_base.proofs.MemberLaws.{Contains-none}
use Rattle.list_laws.proofs.MemberLaws.{All-from_members, Contains-map, Contains-from_map}
use Rattle.list_laws.proofs.PlaceLaws.{Contains-from_place, place_of_member}
use Rattle.set_explorer.specs.Types.{Oid, Label, Edge, Node, GuideNode}
use Rattle.lore_base.specs.TargetSets.{LabelPath, IsTargetSet, LeavesTo, LeadsTo, AreTargetSets}
use Rattle.lore_base.specs.PathOrder.{IsLeastPath, AreInPathOrder, ComesBefore}
use Rattle.set_explorer.specs.Nodes.{sets_of, HasItsSteps}
use Rattle.set_explorer.specs.inside.Trails.{TrailStop, start_path, longer, IsMet, ComesUpTo, IsSearched}
use Rattle.set_explorer.proofs.PathOrder.{upto-longer, upto-trans}
use Rattle.set_explorer.proofs.TargetSteps.{walks-leave, step-target}
use Rattle.set_steps.proofs.PlaceLaws.{at-map, one-place}
use Rattle.set_explorer.proofs.TrailLaws.{set_of}
use Rattle.set_explorer.proofs.StopLaws.{named_stop, target-none}
use Rattle.set_steps.proofs.PairLaws.{some-member, AllPairs-map}

pub AllZip-maps : {X Y Z : Type 0} (f : X → Y) (g : X → Z) (R : Y → Z → Type 0) (xs : List X) → All (λ x. R (f x) (g x)) xs
    → AllZip R (map f xs) (map g xs)
AllZip-maps f g R [] all = tt
AllZip-maps f g R (x ∷ xs) all =
    (All-head (λ y. R (f y) (g y)) x xs all, AllZip-maps f g R xs (All-tail (λ y. R (f y) (g y)) x xs all))

-- the target set of a path was found, by a path that comes no later
record IsFound (edges : List Edge) (trail : List TrailStop) (start : Oid) (path : LabelPath) : Type 0 where
  pub set : List Oid
  pub by : LabelPath
  pub found : Contains trail (record { path = by; set = set })
  pub target : IsTargetSet edges start path.word set
  pub order : ComesUpTo by path

module _ (names : List (List ℕ × Oid)) (edges : List Edge) (nodes : List GuideNode)
    (searched : IsSearched names edges nodes (length nodes)) where
  all_places : (place : ℕ) (stop : TrailStop) → slice_get searched.trail place ≡ Some stop → place < length nodes
  all_places place stop at =
      let same : length (map set_of searched.trail) ≡ length (sets_of nodes) = ap length searched.is.found in
      omega (
        arith,
        slice_get_within searched.trail place stop at,
        length-map searched.trail set_of,
        length-map nodes
            (λ (n : GuideNode). n.set),
        same,
      )

  module _ (name : List ℕ) (start : Oid) (named : Contains names (name, start)) where
    found-start : IsFound edges searched.trail start (start_path name)
    found-start =
        let met =
        All-contains (λ (n : List ℕ × Oid). IsMet searched.trail (named_stop n)) names (name, start) searched.started
        named in
        record { set = start ∷ []; by = met.by; found = met.found; target = target-none edges start; order = met.order }

    found-longer : (word : List Label) (label : Label)
        → ((oid : Oid) → Walk edges start word oid → IsFound edges searched.trail start (record
        { name = name; word = word }))
        → (oid : Oid) → Walk edges start (word ++ label ∷ []) oid
        → IsFound edges searched.trail start (record { name = name; word = word ++ label ∷ [] })
    found-longer word label before oid walked =
        let parts = Walk-split edges start word (label ∷ []) oid walked in
        let there = before parts.0 parts.1 in
        let leaves = (walks-leave edges start word label there.set there.target oid).0 walked in
        let at = place_of_member searched.trail (record { path = there.by; set = there.set }) there.found in
        let next =
        searched.done at.0 (record { path = there.by; set = there.set })
        (all_places at.0 (record { path = there.by; set = there.set }) at.1) at.1 label oid leaves in
        record {
          set = next.0;
          by = next.2.by;
          found = next.2.found;
          target = step-target edges start word label there.set next.0 there.target next.1;
          order =
              upto-trans next.2.by (longer there.by label) (record { name = name; word = word ++ label ∷ [] })
              next.2.order
              (upto-longer there.by (record { name = name; word = word }) label there.order);
        }

    found-on : (rest word : List Label)
        → ((oid : Oid) → Walk edges start word oid → IsFound edges searched.trail start (record
        { name = name; word = word }))
        → (oid : Oid) → Walk edges start (word ++ rest) oid
        → IsFound edges searched.trail start (record { name = name; word = word ++ rest })
    found-on [] word before oid walked =
        subst (λ (w : List Label). IsFound edges searched.trail start (record { name = name; word = w }))
        (sym (append-nil word))
        (before oid (subst (λ (w : List Label). Walk edges start w oid) (append-nil word) walked))
    found-on (label ∷ rest) word before oid walked =
        let joined = append_assoc word (label ∷ []) rest in
        subst (λ (w : List Label). IsFound edges searched.trail start (record { name = name; word = w })) joined
        (found-on rest (word ++ label ∷ []) (found-longer word label before) oid
        (subst (λ (w : List Label). Walk edges start w oid) (sym joined) walked))

    found-all : (word : List Label) (oid : Oid) → Walk edges start word oid
        → IsFound edges searched.trail start (record { name = name; word = word })
    found-all word oid walked = found-on word [] (λ _ _. found-start) oid walked

  -- the set of a path that leads there was found
  pub found-led : (path : LabelPath) (set : List Oid) → LeadsTo names edges path set
      → (by : LabelPath) × Contains searched.trail (record { path = by; set = set }) × ComesUpTo by path
  found-led path set leads =
      let one = some-member set leads.some in
      let found = found-all path.name leads.start leads.named path.word one.0 ((leads.target.exact one.0).0 one.1) in
      let same : found.set ≡ set =
      ListsInOrder-unique (Walk edges leads.start path.word) found.set set found.target leads.target in (
        found.by,
        subst (λ (s : List Oid). Contains searched.trail (record { path = found.by; set = s })) same
            found.found,
        found.order,
      )

  leads_by : (stop : TrailStop) → Contains searched.trail stop → LeadsTo names edges stop.path stop.set
  leads_by stop there =
      All-contains (λ (s : TrailStop). LeadsTo names edges s.path s.set) searched.trail stop searched.is.leads there

  pub are-targets : AreTargetSets names edges (sets_of nodes)
  are-targets = record {
    apart = searched.is.apart;
    exact = λ set. (
      λ there. (
          let from =
          Contains-from_map set_of searched.trail set (subst (λ (l : List (List Oid)). Contains l set) (sym searched.is.found)
          there) in
          (from.0.path, subst (λ (s : List Oid). LeadsTo names edges from.0.path s) from.2 (leads_by from.0 from.1))),
      λ led. (
          let found = found-led led.0 set led.1 in
          subst (λ (l : List (List Oid)). Contains l set) searched.is.found
          (Contains-map set_of searched.trail (record { path = found.0; set = set }) found.1)),
    );
  }

  -- a set was found by one path
  one-stop : (stop other : TrailStop) → Contains searched.trail stop → Contains searched.trail other → stop.set ≡ other.set
      → stop ≡ other
  one-stop stop other first second same =
      let i = place_of_member searched.trail stop first in
      let j = place_of_member searched.trail other second in
      let apart =
      subst (λ (l : List (List Oid)). AllPairs (λ (a b : List Oid). (a ≡ b) → ⊥) l) (sym searched.is.found)
      searched.is.apart in
      let place : i.0 ≡ j.0 = one-place (map set_of searched.trail) apart i.0 j.0 other.set
      (at-map set_of searched.trail i.0 stop i.1 ∙ ap Some same) (at-map set_of searched.trail j.0 other j.1) in
      let both : Some stop ≡ Some other = sym i.1 ∙ ap (slice_get searched.trail) place ∙ j.1 in
      cc

  least-by : (stop : TrailStop) → Contains searched.trail stop → IsLeastPath names edges stop.path stop.set
  least-by stop there = record {
    leads = leads_by stop there;
    least = λ other leads. (
        let found = found-led other stop.set leads in
        let same = one-stop (record { path = found.0; set = stop.set }) stop found.1 there refl in
        subst (λ (s : TrailStop). ComesUpTo s.path other) same found.2);
  }

  pub in-order : AreInPathOrder names edges (sets_of nodes)
  in-order = record {
    paths = map (λ (s : TrailStop). s.path) searched.trail;
    least =
        subst (λ (l : List (List Oid)). AllZip (IsLeastPath names edges) (map (λ (s : TrailStop). s.path) searched.trail) l)
        searched.is.found
        (AllZip-maps (λ (s : TrailStop). s.path) set_of (IsLeastPath names edges) searched.trail
        (All-from_members (λ (s : TrailStop). IsLeastPath names edges s.path s.set) searched.trail least-by));
    ascending =
        AllPairs-map (λ (s : TrailStop). s.path) (λ (a b : TrailStop). ComesBefore a.path b.path) ComesBefore
        (λ a b before. before) searched.trail searched.is.ascending;
  }

  led-some : (set : List Oid) → Contains (sets_of nodes) set → set ≢ []
  led-some set there = ((are-targets.exact set).0 there).1.some

  pub has-steps : All (HasItsSteps edges nodes) nodes
  has-steps = All-from_members (HasItsSteps edges nodes) nodes (λ node there.
      let at = place_of_member nodes node there in
      let row = searched.rows at.0 node (slice_get_within nodes at.0 node at.1) at.1 in
      record {
        ascending = row.ascending;
        exact = λ label next. (
          λ edge. row.sound label next edge,
          λ step. (
              let set = step.0 in
              let one = some-member set (led-some set (Contains-from_place (sets_of nodes) next.0 set step.1)) in
              let edge = row.all label one.0 ((step.2.exact one.0).0 one.1) in
              let there = row.sound label edge.0 edge.1 in
              let same : there.0 ≡ set =
              ListsInOrder-unique (LeavesTo edges node.set label) there.0 set there.2 step.2 in
              let place : edge.0.0 ≡ next.0 =
              one-place (sets_of nodes) searched.is.apart edge.0.0 next.0 set (there.1 ∙ ap Some same) step.1 in
              let is : edge.0 ≡ next = ap (λ (k : ℕ). record { 0 = k }) place in
              subst (λ (n : Node). Contains node.edges (label, n)) is edge.1),
        );
      })
