-- A search on its way has found the first sets in the order of least paths.
use Rattle.std.proofs.Common.{◌≡◌, ◌⊎◌, ℕ, inl, inr, Less, Equal, List, [], ◌∷◌, ◌++◌, map, Some, AllPairs, Contains}
use Rattle.std.proofs.Common.{refl, sym, ap, ◌∙◌, subst, append_assoc}
use Rattle.std.specs.List.{slice_get, AllZip}
use Rattle.std.proofs.lemmas.Cmp.{nat_list_cmp_total, tied_itself}
use Rattle.std.proofs.lemmas.List.{append-nil}
use Rattle.std.proofs.lemmas.List.Elements.{All-contains, All-push, Contains-append_left, Contains-append_right}
use Rattle.lore_base.specs.Walks.{Walk}
use Rattle.lore_base.specs.Bytes.{bytes_cmp}
use Rattle.lore_base.specs.Names.{IsNameTable}
use Rattle.set_explorer.specs.Types.{Oid, Label, Edge}
use Rattle.lore_base.specs.TargetSets.{LabelPath, IsTargetSet, IsStep, LeavesTo, LeadsTo}
use Rattle.lore_base.specs.PathOrder.{ComesBefore, IsLeastPath}
use Rattle.lore_base.specs.GuideLimits.{AreFirstSets}
use Rattle.set_explorer.specs.inside.Trails.{TrailStop, start_path, longer, ComesUpTo, IsMet, IsTrail}
use Rattle.lore_base.proofs.WalkLaws.{Walk-split}
use Rattle.lore_base.proofs.TargetLaws.{ListsInOrder-unique}
use Rattle.lore_base.proofs.MemberLaws.{Contains-head}
use Rattle.list_laws.proofs.AscentLaws.{AllPairs-once}
use Rattle.list_laws.proofs.MemberLaws.{All-from_members, Contains-map, Contains-from_map}
use Rattle.list_laws.proofs.PlaceLaws.{place_of_member}
use Rattle.set_explorer.proofs.PathOrder.{before-end, before-trans, upto-longer, upto-trans}
use Rattle.set_explorer.proofs.TargetSteps.{walks-leave, step-target}
use Rattle.set_steps.proofs.PlaceLaws.{at-map, one-place, AllZip-then}
use Rattle.set_explorer.proofs.TrailLaws.{set_of}
use Rattle.set_steps.proofs.PairLaws.{some-member, AllPairs-map, AllPairs-push}
use Rattle.set_explorer.proofs.StopLaws.{named_stop, target-none, keys-ascend}
use Rattle.set_explorer.proofs.DoneLaws.{AllZip-maps}

-- the target set of a path was found, by a path that comes no later
record IsReached (edges : List Edge) (trail : List TrailStop) (start : Oid) (path : LabelPath) : Type 0 where
  pub set : List Oid
  pub by : LabelPath
  pub found : Contains trail (record { path = by; set = set })
  pub target : IsTargetSet edges start path.word set
  pub order : ComesUpTo by path

-- where a step of a stop goes: to what was met, or no earlier than the next path
abbrev pub Advances : List Edge → List TrailStop → LabelPath → TrailStop → Label → Type 0
Advances edges trail next stop label =
    ((set : List Oid) × IsStep edges stop.set label set × IsMet trail
    (record { path = longer stop.path label; set = set }))
    ⊎ ComesUpTo next (longer stop.path label)

module _ (names : List (List ℕ × Oid)) (edges : List Edge) (table : IsNameTable names) (trail : List TrailStop)
    (sets : List (List Oid))
    (is : IsTrail names edges trail sets) (next : LabelPath) (next_set : List Oid)
    (started : (named : List ℕ × Oid) → Contains names named → IsMet trail (named_stop named) ⊎ ComesUpTo next
    (start_path named.0))
    (advances : (stop : TrailStop) → Contains trail stop → (label : Label) (oid : Oid) → LeavesTo edges stop.set label oid
    → Advances edges trail next stop label)
    (leads : LeadsTo names edges next next_set)
    (before : (stop : TrailStop) → Contains trail stop → ComesBefore stop.path next)
    (fresh : ¬ Contains sets next_set) where
  abbrev Told : Oid → LabelPath → Type 0
  Told start path = IsReached edges trail start path ⊎ ComesUpTo next path

  module _ (name : List ℕ) (start : Oid) (named : Contains names (name, start)) where
    told-start : Told start (start_path name)
    told-start = elim (started (name, start) named) [
      | inl met ↦ inl (record {
        set = start ∷ [];
        by = met.by;
        found = met.found;
        target = target-none edges start;
        order = met.order;
      })
      | inr late ↦ inr late
    ]

    told-longer : (word : List Label) (label : Label)
        → ((oid : Oid) → Walk edges start word oid → Told start (record { name = name; word = word }))
        → (oid : Oid) → Walk edges start (word ++ label ∷ []) oid → Told start
        (record { name = name; word = word ++ label ∷ [] })
    told-longer word label earlier oid walked =
        let path : LabelPath = record { name = name; word = word } in
        let parts = Walk-split edges start word (label ∷ []) oid walked in
        elim (earlier parts.0 parts.1) [
          | inl there ↦ (
              let leaves = (walks-leave edges start word label there.set there.target oid).0 walked in
              elim (advances (record { path = there.by; set = there.set }) there.found label oid leaves) [
                | inl met ↦ inl (record {
                  set = met.0;
                  by = met.2.by;
                  found = met.2.found;
                  target = step-target edges start word label there.set met.0 there.target met.1;
                  order = upto-trans met.2.by (longer there.by label) (longer path label) met.2.order
                      (upto-longer there.by path label there.order);
                })
                | inr late ↦ inr (upto-trans next (longer there.by label) (longer path label) late
                    (upto-longer there.by path label there.order))
              ])
          | inr late ↦ inr (inr (before-end next path label late))
        ]

    told-on : (rest word : List Label)
        → ((oid : Oid) → Walk edges start word oid → Told start (record { name = name; word = word }))
        → (oid : Oid) → Walk edges start (word ++ rest) oid → Told start (record { name = name; word = word ++ rest })
    told-on [] word earlier oid walked =
        subst (λ (w : List Label). Told start (record { name = name; word = w })) (sym (append-nil word))
        (earlier oid (subst (λ (w : List Label). Walk edges start w oid) (append-nil word) walked))
    told-on (label ∷ rest) word earlier oid walked =
        let joined = append_assoc word (label ∷ []) rest in
        subst (λ (w : List Label). Told start (record { name = name; word = w })) joined
        (told-on rest (word ++ label ∷ []) (told-longer word label earlier) oid
        (subst (λ (w : List Label). Walk edges start w oid) (sym joined) walked))

    told-all : (word : List Label) (oid : Oid) → Walk edges start word oid → Told start
        (record { name = name; word = word })
    told-all word oid walked = told-on word [] (λ _ _. told-start) oid walked

  -- a set that a path leads to was found, or the path comes no earlier than the next one
  pub told-led : (path : LabelPath) (set : List Oid) → LeadsTo names edges path set
      → ((by : LabelPath) × Contains trail (record { path = by; set = set }) × ComesUpTo by path) ⊎ ComesUpTo next path
  told-led path set led =
      let one = some-member set led.some in
      elim (told-all path.name led.start led.named path.word one.0 ((led.target.exact one.0).0 one.1)) [
        | inl found ↦ (
            let same : found.set ≡ set = ListsInOrder-unique (Walk edges led.start path.word) found.set set
            found.target led.target in
            inl (
              found.by,
              subst (λ (s : List Oid). Contains trail (record { path = found.by; set = s })) same
                  found.found,
              found.order,
            ))
        | inr late ↦ inr late
      ]

  in-sets : (stop : TrailStop) → Contains trail stop → Contains sets stop.set
  in-sets stop there = subst (λ (l : List (List Oid)). Contains l stop.set) is.found (Contains-map set_of trail stop there)

  same-stop : (stop other : TrailStop) → Contains trail stop → Contains trail other → stop.set ≡ other.set → stop ≡ other
  same-stop stop other first second same =
      let i = place_of_member trail stop first in
      let j = place_of_member trail other second in
      let apart = subst (λ (l : List (List Oid)). AllPairs (λ (a b : List Oid). (a ≡ b) → ⊥) l)
      (sym is.found) is.apart in
      let place : i.0 ≡ j.0 = one-place (map set_of trail) apart i.0 j.0 other.set
      (at-map set_of trail i.0 stop i.1 ∙ ap Some same) (at-map set_of trail j.0 other j.1) in
      let both : Some stop ≡ Some other = sym i.1 ∙ ap (slice_get trail) place ∙ j.1 in
      cc

  least-stop : (stop : TrailStop) → Contains trail stop → IsLeastPath names edges stop.path stop.set
  least-stop stop there = record {
    leads = All-contains (λ (s : TrailStop). LeadsTo names edges s.path s.set) trail stop is.leads there;
    least = λ other led. (elim (told-led other stop.set led) [
      | inl found ↦ (
          let same = same-stop (record { path = found.0; set = stop.set }) stop found.1 there refl in
          subst (λ (s : TrailStop). ComesUpTo s.path other) same found.2)
      | inr late ↦ upto-trans stop.path next other (inr (before stop there)) late
    ]);
  }

  least-next : IsLeastPath names edges next next_set
  least-next = record {
    leads = leads;
    least = λ other led. (elim (told-led other next_set led) [
      | inl found ↦ absurd (fresh (in-sets (record { path = found.0; set = next_set }) found.1))
      | inr late ↦ late
    ]);
  }

  -- a path leads to one set
  one-set : (path : LabelPath) (a b : List Oid) → LeadsTo names edges path a → LeadsTo names edges path b → a ≡ b
  one-set path a b first second =
      let below = λ (l : bytes_cmp path.name path.name ≡ Less). (
      let clash : Equal ≡ Less = sym (tied_itself nat_list_cmp_total path.name) ∙ l in absurd (cc)) in
      let named = AllPairs-once (λ (x y : List ℕ × Oid). bytes_cmp x.0 y.0 ≡ Less) names (keys-ascend names table)
      (path.name, first.start) (path.name, second.start) first.named second.named below below in
      let start : first.start ≡ second.start = ap (λ (n : List ℕ × Oid). n.1) named in
      ListsInOrder-unique (Walk edges second.start path.word) a b
      (subst (λ (s : Oid). IsTargetSet edges s path.word a) start first.target) second.target

  pub first-sets : AreFirstSets names edges (sets ++ next_set ∷ [])
  first-sets = record {
    paths = map (λ (s : TrailStop). s.path) trail ++ next ∷ [];
    least = AllZip-then (IsLeastPath names edges) (map (λ (s : TrailStop). s.path) trail) sets next next_set
        (subst (λ (l : List (List Oid)). AllZip (IsLeastPath names edges) (map (λ (s : TrailStop). s.path) trail) l) is.found
        (AllZip-maps (λ (s : TrailStop). s.path) set_of (IsLeastPath names edges) trail
        (All-from_members (λ (s : TrailStop). IsLeastPath names edges s.path s.set) trail least-stop))) least-next;
    ascending = AllPairs-push ComesBefore (map (λ (s : TrailStop). s.path) trail) next
        (AllPairs-map (λ (s : TrailStop). s.path) (λ (a b : TrailStop). ComesBefore a.path b.path) ComesBefore
        (λ a b h. h) trail is.ascending)
        (λ path there. (
        let from = Contains-from_map (λ (s : TrailStop). s.path) trail path there in
        subst (λ (p : LabelPath). ComesBefore p next) from.2 (before from.0 from.1)));
    others = λ path set led. (elim (told-led path set led) [
      | inl found ↦ inl (Contains-append_left sets (next_set ∷ []) set
          (in-sets (record { path = found.0; set = set }) found.1))
      | inr late ↦ elim late [
        | inl same ↦ (
            let one = one-set path next_set set (subst (λ (p : LabelPath). LeadsTo names edges p next_set) same leads)
            led in
            inl (Contains-append_right sets (next_set ∷ []) set
            (subst (λ (s : List Oid). Contains (next_set ∷ []) s) one (Contains-head next_set []))))
        | inr behind ↦ inr (All-push (λ (p : LabelPath). ComesBefore p path) (map (λ (s : TrailStop). s.path) trail) next
            (All-from_members (λ (p : LabelPath). ComesBefore p path) (map (λ (s : TrailStop). s.path) trail) (λ p there. (
            let from = Contains-from_map (λ (s : TrailStop). s.path) trail p there in
            subst (λ (q : LabelPath). ComesBefore q path) from.2
            (before-trans from.0.path next path (before from.0 from.1) behind))))
            behind)
      ]
    ]);
  }
