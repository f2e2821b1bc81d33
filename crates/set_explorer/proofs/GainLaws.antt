-- What a set that lost no edge gains by fresh ones.
use Rattle.std.proofs.Common.{◌≡◌, ◌⊎◌, ◌↔◌, inl, inr, ◌<◌, List, [], ◌∷◌, ◌++◌, map, All, AllPairs, Contains, Option}
use Rattle.std.proofs.Common.{Some, None, IfSome, IfNone, length, get_or, nat_eq, true, refl, sym, ap, subst}
use Rattle.std.proofs.Common.{arith}
use Rattle.std.proofs.lemmas.Bool.Decides.{nat_tests}
use Rattle.std.proofs.lemmas.List.{length-map, get_or-map}
use Rattle.std.proofs.lemmas.List.Elements.{All-contains, All-map, All-weaker, Contains-push, Contains-push_cases}
use Rattle.std.proofs.lemmas.List.Elements.{Contains-append_left, Contains-append_right, Contains-append_cases}
use Rattle.lore_base.specs.Walks.{edge_of}
use Rattle.lore_base.specs.TargetSets.{ListsInOrder, LeavesTo, IsStep}
use Rattle.lore_base.proofs.MemberLaws.{Contains-none, Contains-same}
use Rattle.lore_base.proofs.TargetLaws.{ListsInOrder-same}
use Rattle.lore_base.proofs.ToldLaws.{told_member, told_edge}
use Rattle.list_laws.proofs.AscentLaws.{AllPairs-once}
use Rattle.list_laws.proofs.MemberLaws.{All-from_members, Contains-map, Contains-from_map}
use Rattle.oem_set.specs.Sets.{IsSet}
use Rattle.set_explorer.specs.Types.{Oid, Label, Edge, Node, GuideNode, Origin, Kept}
use Rattle.set_explorer.specs.Touched.{Meet}
use Rattle.set_explorer.specs.PlannedNodes.{origin_set}
use Rattle.set_steps.specs.SetSteps.{AreSteps}
use Rattle.set_explorer.specs.inside.Founds.{steps_of}
use Rattle.set_explorer.specs.Changes.{IsChange}
use Rattle.set_explorer.specs.inside.Gains.{labels_in, LeadsKept, LeadsBy, HasEither, IsThere}
use Rattle.set_explorer.specs.inside.Gains.{IsUnion, AreUnions}
use Rattle.set_steps.proofs.PairLaws.{some-member, AllPairs-map}

module _ {X : Type 0} (P : X → Type 0) (found front : List X) (x : X)
    (are : (y : X) → Contains found y ↔ (Contains front y × P y)) where
  pub passes-more : P x → (y : X) → Contains (found ++ x ∷ []) y ↔ (Contains (front ++ x ∷ []) y × P y)
  passes-more passes y = (
    λ there. elim (Contains-push_cases found x y there) [
      | inl old ↦ (let both = (are y).0 old in (Contains-append_left front (x ∷ []) y both.0, both.1))
      | inr same ↦ (Contains-same (front ++ x ∷ []) x y same (Contains-push front x), subst P same passes)
    ],
    λ both. elim (Contains-push_cases front x y both.0) [
      | inl old ↦ Contains-append_left found (x ∷ []) y ((are y).1 (old, both.1))
      | inr same ↦ Contains-same (found ++ x ∷ []) x y same (Contains-push found x)
    ],
  )

  pub passes-less : (P x → ⊥) → (y : X) → Contains found y ↔ (Contains (front ++ x ∷ []) y × P y)
  passes-less fails y = (
    λ there. (let both = (are y).0 there in (Contains-append_left front (x ∷ []) y both.0, both.1)),
    λ both. elim (Contains-push_cases front x y both.0) [
      | inl old ↦ (are y).1 (old, both.1)
      | inr same ↦ absurd (fails (subst P (sym same) both.1))
    ],
  )

-- steps where the same leaves the set
pub steps-same : (edges others : List Edge) (set : List Oid) (steps : List (Label × List Oid))
    → ((label : Label) (oid : Oid) → LeavesTo edges set label oid ↔ LeavesTo others set label oid)
    → AreSteps edges set steps → AreSteps others set steps
steps-same edges others set steps same are = record {
  ascend = are.ascend;
  sets = All-weaker (λ (s : Label × List Oid). IsStep edges set s.0 s.1) (λ (s : Label × List Oid). IsStep others set s.0 s.1)
      (λ s step. ListsInOrder-same (LeavesTo edges set s.0) (LeavesTo others set s.0) s.1 (same s.0) step) steps are.sets;
  some = are.some;
  all = λ label oid leaves. are.all label oid ((same label oid).1 leaves);
}

-- what the steps of a set tell of what leaves it
pub leads-by : (edges : List Edge) (set : List Oid) (row : List (Label × List Oid)) → AreSteps edges set row
    → (label : Label) (oid : Oid) → LeadsBy row label oid ↔ LeavesTo edges set label oid
leads-by edges set row are label oid = (
  λ leads. ((All-contains (λ (s : Label × List Oid). IsStep edges set s.0 s.1) row (label, leads.0) are.sets leads.1).exact
      oid).0 leads.2,
  λ leaves. (
      let next = are.all label oid leaves in (
        next.0,
        next.1,
        ((All-contains (λ (s : Label × List Oid). IsStep edges set s.0 s.1) row (label, next.0) are.sets
            next.1).exact oid).1 leaves,
      )),
)

module _ (kept : List GuideNode) where
  abbrev as_step : Label × Node → Label × List Oid
  as_step edge = (edge.0, origin_set kept (Kept edge.1))

  pub kept-by : (edges : List (Label × Node)) (label : Label) (oid : Oid)
      → LeadsKept kept edges label oid ↔ LeadsBy (map as_step edges) label oid
  kept-by edges label oid = (
    λ leads. (origin_set kept (Kept leads.0), Contains-map as_step edges (label, leads.0) leads.1, leads.2),
    λ leads. (
        let from = Contains-from_map as_step edges (label, leads.0) leads.1 in
        let labelled : from.0.0 ≡ label = ap (λ (s : Label × List Oid). s.0) from.2 in
        let set : origin_set kept (Kept from.0.1) ≡ leads.0 = ap (λ (s : Label × List Oid). s.1) from.2 in (
          from.0.1,
          subst (λ (l : Label). Contains edges (l, from.0.1)) labelled from.1,
          subst (λ (s : List Oid). Contains s oid) (sym set) leads.2,
        )),
  )

-- the steps of a set whose edges are those of two others: the unions of what a node's edges lead to, which are the steps of the
-- one, and of the steps of the other
module _ (kept : List GuideNode) (edges : List (Label × Node)) (row : List (Label × List Oid)) (targets : List (Label × Origin))
    (first second after : List Edge) (own more set : List Oid)
    (own_are : AreSteps first own (map (as_step kept) edges)) (row_are : AreSteps second more row)
    (unions : AreUnions kept edges row targets)
    (parts : (label : Label) (oid : Oid) → LeavesTo after set label oid
    ↔ (LeavesTo first own label oid ⊎ LeavesTo second more label oid)) where
  abbrev of_target : Label × Origin → Label × List Oid
  of_target target = (target.0, origin_set kept target.1)

  own-leads : (label : Label) (oid : Oid) → LeadsKept kept edges label oid ↔ LeavesTo first own label oid
  own-leads label oid =
      let here = kept-by kept edges label oid in
      let steps = leads-by first own (map (as_step kept) edges) own_are label oid in
      (λ leads. steps.0 (here.0 leads), λ leaves. here.1 (steps.1 leaves))

  whole : (label : Label) (oid : Oid) → (LeadsKept kept edges label oid ⊎ LeadsBy row label oid) ↔ LeavesTo after set label oid
  whole label oid =
      let steps = leads-by second more row row_are label oid in (
        λ either. (parts label oid).1 (elim either [
          | inl leads ↦ inl ((own-leads label oid).0 leads)
          | inr leads ↦ inr (steps.0 leads)
        ]),
        λ leaves. elim ((parts label oid).0 leaves) [
          | inl was ↦ inl ((own-leads label oid).1 was)
          | inr new ↦ inr (steps.1 new)
        ],
      )

  some-kept : (label : Label) → Contains (labels_in edges) label → (oid : Oid) × LeadsKept kept edges label oid
  some-kept label there =
      let edge = Contains-from_map (λ (e : Label × Node). e.0) edges label there in
      let set_there = Contains-map (as_step kept) edges edge.0 edge.1 in
      let one = some-member (origin_set kept (Kept edge.0.1))
      (All-contains (λ (s : Label × List Oid). (s.1 ≡ []) → ⊥) (map (as_step kept) edges) (as_step kept edge.0)
      own_are.some set_there) in
      (one.0, (edge.0.1, subst (λ (l : Label). Contains edges (l, edge.0.1)) edge.2 edge.1, one.1))

  some-step : (label : Label) → Contains (labels_in row) label → (oid : Oid) × LeadsBy row label oid
  some-step label there =
      let step = Contains-from_map (λ (s : Label × List Oid). s.0) row label there in
      let one = some-member step.0.1
      (All-contains (λ (s : Label × List Oid). (s.1 ≡ []) → ⊥) row step.0 row_are.some step.1) in
      (one.0, (step.0.1, subst (λ (l : Label). Contains row (l, step.0.1)) step.2 step.1, one.1))

  some-object : (label : Label) → Contains (labels_in targets) label
      → (oid : Oid) × (LeadsKept kept edges label oid ⊎ LeadsBy row label oid)
  some-object label there = elim ((unions.labels label).0 there) [
    | inl kept_there ↦ (let one = some-kept label kept_there in (one.0, inl one.1))
    | inr step_there ↦ (let one = some-step label step_there in (one.0, inr one.1))
  ]

  not-empty : (target : Label × Origin) → Contains targets target → (origin_set kept target.1 ≡ []) → ⊥
  not-empty target there none =
      let one = some-object target.0 (Contains-map (λ (t : Label × Origin). t.0) targets target there) in
      let union = All-contains (λ (t : Label × Origin). IsUnion kept edges row t.0 (origin_set kept t.1)) targets
      target unions.sets there in
      Contains-none one.0 (subst (λ (l : List Oid). Contains l one.0) none ((union.exact one.0).1 one.1))

  target-there : (label : Label) → Contains (labels_in edges) label ⊎ Contains (labels_in row) label
      → (next : List Oid) × Contains (map of_target targets) (label, next)
  target-there label either =
      let from = Contains-from_map (λ (t : Label × Origin). t.0) targets label ((unions.labels label).1 either) in (
        origin_set kept from.0.1,
        subst (λ (l : Label). Contains (map of_target targets) (l, origin_set kept from.0.1))
            from.2 (Contains-map of_target targets from.0 from.1),
      )

  step-there : (label : Label) (oid : Oid) → (LeadsKept kept edges label oid ⊎ LeadsBy row label oid)
      → (next : List Oid) × Contains (map of_target targets) (label, next)
  step-there label oid (inl leads) =
      target-there label (inl (Contains-map (λ (e : Label × Node). e.0) edges (label, leads.0) leads.1))
  step-there label oid (inr leads) =
      target-there label (inr (Contains-map (λ (s : Label × List Oid). s.0) row (label, leads.0) leads.1))

  pub joined-steps : AreSteps after set (steps_of kept targets)
  joined-steps = record {
    ascend = AllPairs-map of_target (λ (a b : Label × Origin). a.0.0 < b.0.0)
        (λ (a b : Label × List Oid). a.0.0 < b.0.0) (λ a b less. less) targets unions.ascend;
    sets = All-map (λ (s : Label × List Oid). IsStep after set s.0 s.1) of_target targets
        (All-weaker (λ (t : Label × Origin). IsUnion kept edges row t.0 (origin_set kept t.1))
        (λ (t : Label × Origin). IsStep after set t.0 (origin_set kept t.1))
        (λ t union. ListsInOrder-same (λ oid. LeadsKept kept edges t.0 oid ⊎ LeadsBy row t.0 oid)
        (LeavesTo after set t.0) (origin_set kept t.1) (whole t.0) union) targets unions.sets);
    some = All-map (λ (s : Label × List Oid). (s.1 ≡ []) → ⊥) of_target targets
        (All-from_members (λ (t : Label × Origin). (origin_set kept t.1 ≡ []) → ⊥) targets not-empty);
    all = λ label oid leaves. step-there label oid ((whole label oid).1 leaves);
  }

-- the guide stood before the change
module _ (kept : List GuideNode) (dirty grown : List Oid) (fresh after : List Edge)
    (change : IsChange kept dirty grown fresh after) (set : List Oid) (clean : ¬ Meet set dirty) where
  -- what leaves the set afterwards left it before, or leaves it by a fresh edge
  pub fresh-leaves : (label : Label) (oid : Oid) → LeavesTo after set label oid
      ↔ (LeavesTo change.before set label oid ⊎ LeavesTo fresh set label oid)
  fresh-leaves label oid = (
    λ leaves. (
        let edge = edge_of leaves.from label oid in
        elim (told_member told_edge change.before edge) [
          | inl was ↦ inl (record { from = leaves.from; member = leaves.member; edge = was })
          | inr new ↦ inr (record {
            from = leaves.from;
            member = leaves.member;
            edge = (change.come edge).1 (leaves.edge, new);
          })
        ]),
    λ either. elim either [
      | inl leaves ↦ record {
        from = leaves.from;
        member = leaves.member;
        edge = change.stay (edge_of leaves.from label oid) leaves.edge
            (λ there. clean (leaves.from, leaves.member, there));
      }
      | inr leaves ↦ record {
        from = leaves.from;
        member = leaves.member;
        edge = ((change.come (edge_of leaves.from label oid)).0 leaves.edge).0;
      }
    ],
  )

  module _ (gained : List Oid) (are : (oid : Oid) → Contains gained oid ↔ (Contains set oid × Contains grown oid)) where
    -- fresh edges leave those of its members that grew
    pub gained-leaves : (label : Label) (oid : Oid) → LeavesTo fresh gained label oid ↔ LeavesTo fresh set label oid
    gained-leaves label oid = (
      λ leaves. record { from = leaves.from; member = ((are leaves.from).0 leaves.member).0; edge = leaves.edge },
      λ leaves. record {
        from = leaves.from;
        member = (are leaves.from).1 (
          leaves.member,
          (change.grown_are leaves.from).1
              (Contains-map (λ (e : Edge). e.parent) fresh (edge_of leaves.from label oid) leaves.edge),
        );
        edge = leaves.edge;
      },
    )

    -- where none did, its steps stay
    pub nothing-gained : gained ≡ [] → (steps : List (Label × List Oid)) → AreSteps change.before set steps
        → AreSteps after set steps
    nothing-gained none steps = steps-same change.before after set steps (λ label oid. (
      λ leaves. (fresh-leaves label oid).1 (inl leaves),
      λ leaves. elim ((fresh-leaves label oid).0 leaves) [
        | inl was ↦ was
        | inr new ↦ (let member = ((gained-leaves label oid).1 new).member in
            absurd (Contains-none _ (subst (λ (l : List Oid). Contains l ((gained-leaves label oid).1 new).from) none member)))
      ],
    ))

    -- else they are those of before, with what the fresh edges lead to
    pub union-steps : (edges : List (Label × Node)) (row : List (Label × List Oid)) (targets : List (Label × Origin))
        → AreSteps change.before set (map (as_step kept) edges) → AreSteps fresh gained row
        → AreUnions kept edges row targets → AreSteps after set (steps_of kept targets)
    union-steps edges row targets before_are row_are unions =
        joined-steps kept edges row targets change.before fresh after set gained set before_are row_are unions
        (λ label oid. (
          λ leaves. elim ((fresh-leaves label oid).0 leaves) [
            | inl was ↦ inl was
            | inr new ↦ inr ((gained-leaves label oid).1 new)
          ],
          λ either. (fresh-leaves label oid).1 (elim either [
            | inl was ↦ inl was
            | inr new ↦ inr ((gained-leaves label oid).0 new)
          ]),
        ))

-- a label stands once in a row that ascends
pub row-once : {T : Type 0} (row : List (Label × T)) (label : Label) (x y : T)
    → AllPairs (λ (a b : Label × T). a.0.0 < b.0.0) row → Contains row (label, x) → Contains row (label, y) → x ≡ y
row-once {T} row label x y ascend first second =
    ap (λ (e : Label × T). e.1) (AllPairs-once (λ (a b : Label × T). a.0.0 < b.0.0) row ascend (label, x) (label, y) first
    second (λ less. omega (arith, less)) (λ less. omega (arith, less)))

-- what is found by a label leads on as all that has it
module _ {T : Type 0} (row : List (Label × T)) (label : Label) (ascend : AllPairs (λ (a b : Label × T). a.0.0 < b.0.0) row) where
  pub found-once : (found : Option T) → IfSome found (λ x. Contains row (label, x))
      → IfNone found ((x : T) → ¬ Contains row (label, x)) → (x : T) → Contains row (label, x) ↔ (found ≡ Some x)
  found-once None is none x = (λ there. absurd (none x there), λ same. cc)
  found-once (Some y) is none x = (
    λ there. ap Some (row-once row label y x ascend is there),
    λ same. (let one : y ≡ x = cc in subst (λ (z : T). Contains row (label, z)) one is),
  )

pub AllPairs-unmap : {X Y : Type 0} (f : X → Y) (R : Y → Y → Type 0) (xs : List X) → AllPairs R (map f xs)
    → AllPairs (λ a b. R (f a) (f b)) xs
AllPairs-unmap f R xs pairs i j d less within =
    let at = pairs i j (f d) less (omega (arith, within, length-map xs f)) in
    let first = get_or-map f xs i d (f d) (omega (arith, less, within)) in
    let second = get_or-map f xs j d (f d) within in
    subst (λ y. R (f (get_or xs i d)) y) second (subst (λ x. R x (get_or (map f xs) j (f d))) first at)

-- ---- labels
pub same-label : (a b : Label) → nat_eq a.0 b.0 ≡ true → a ≡ b
same-label a b h = let number : a.0 ≡ b.0 = grind (arith, nat_tests) in ap (λ n. record { 0 = n }) number

pub in-rows : {X : Type 0} (all whole front back : List X) → whole ≡ front ++ back
    → ((x : X) → Contains all x ↔ Contains whole x) → (x : X) → Contains all x ↔ (Contains front x ⊎ Contains back x)
in-rows {X} all whole front back is same x = (
  λ there. Contains-append_cases front back x (subst (λ (l : List X). Contains l x) is ((same x).0 there)),
  λ either. (same x).1 (subst (λ (l : List X). Contains l x) (sym is) (elim either [
    | inl there ↦ Contains-append_left front back x there
    | inr there ↦ Contains-append_right front back x there
  ])),
)

-- ---- the set of a node with a step, and where a label leads
module _ (kept : List GuideNode) (step none : List Oid) (bare : none ≡ []) where
  nothing-there : (oid : Oid) → Contains none oid → ⊥
  nothing-there oid there = Contains-none oid (subst (λ (l : List Oid). Contains l oid) bare there)

  pub either-alone : (out : List Oid) → ListsInOrder (λ oid. Contains step oid ⊎ Contains none oid) out
      → ListsInOrder (HasEither kept None step) out
  either-alone out lists = ListsInOrder-same (λ oid. Contains step oid ⊎ Contains none oid) (HasEither kept None step) out
      (λ oid. (
        λ either. elim either [ inl there ↦ inr there | inr there ↦ absurd (nothing-there oid there) ],
        λ either. elim either [ inl has ↦ absurd (nowhere has.0 has.1) | inr there ↦ inl there ],
      )) lists
    where
      nowhere : (node : Node) → None ≡ Some node → ⊥
      nowhere node same = cc

  pub either-joined : (node : Node) (own first out : List Oid) → origin_set kept (Kept node) ≡ own
      → ListsInOrder (λ oid. Contains step oid ⊎ Contains none oid) first
      → ListsInOrder (λ oid. Contains own oid ⊎ Contains first oid) out → ListsInOrder (HasEither kept (Some node) step) out
  either-joined node own first out is lists joined =
      ListsInOrder-same (λ oid. Contains own oid ⊎ Contains first oid) (HasEither kept (Some node) step) out
      (λ oid. (
        λ either. elim either [
          | inl there ↦ inl (node, refl, subst (λ (l : List Oid). Contains l oid) (sym is) there)
          | inr there ↦ elim ((lists.exact oid).0 there) [
            | inl stepped ↦ inr stepped
            | inr nothing ↦ absurd (nothing-there oid nothing)
          ]
        ],
        λ either. elim either [
          | inl has ↦ inl (subst (λ (l : List Oid). Contains l oid) is (own-there oid has.0 has.1 has.2))
          | inr stepped ↦ inr ((lists.exact oid).1 (inl stepped))
        ],
      )) joined
    where
      own-there : (oid : Oid) (other : Node) → Some node ≡ Some other → Contains (origin_set kept (Kept other)) oid
          → Contains (origin_set kept (Kept node)) oid
      own-there oid other same there =
          let one : other ≡ node = cc in subst (λ (n : Node). Contains (origin_set kept (Kept n)) oid) one there

-- a kept set that has all of a step is that set with the step
pub either-kept : (kept : List GuideNode) (node : Node) (step : List Oid) → IsSet (origin_set kept (Kept node))
    → All (Contains (origin_set kept (Kept node))) step
    → ListsInOrder (HasEither kept (Some node) step) (origin_set kept (Kept node))
either-kept kept node step ascend all = record {
  ascending = ascend;
  exact = λ oid. (
    λ there. inl (node, refl, there),
    λ either. elim either [
      | inl has ↦ own-there oid has.0 has.1 has.2
      | inr stepped ↦ All-contains (Contains (origin_set kept (Kept node))) step oid all stepped
    ],
  );
}
  where
    own-there : (oid : Oid) (other : Node) → Some node ≡ Some other → Contains (origin_set kept (Kept other)) oid
        → Contains (origin_set kept (Kept node)) oid
    own-there oid other same there =
        let one : other ≡ node = cc in subst (λ (n : Node). Contains (origin_set kept (Kept n)) oid) one there

module _ (kept : List GuideNode) (edges : List (Label × Node)) (row : List (Label × List Oid)) (label : Label)
    (edges_ascend : AllPairs (λ (a b : Label × Node). a.0.0 < b.0.0) edges)
    (row_ascend : AllPairs (λ (a b : Label × List Oid). a.0.0 < b.0.0) row) where
  pub union-step : (node : Option Node) → IfSome node (λ x. Contains edges (label, x))
      → IfNone node ((x : Node) → ¬ Contains edges (label, x)) → (step : List Oid) → Contains row (label, step)
      → (set : List Oid) → ListsInOrder (HasEither kept node step) set → IsUnion kept edges row label set
  union-step node found none step there set lists =
      ListsInOrder-same (HasEither kept node step) (λ oid. LeadsKept kept edges label oid ⊎ LeadsBy row label oid) set
      (λ oid. (
        λ either. elim either [
          | inl has ↦ inl (has.0, (found-once edges label edges_ascend node found none has.0).1 has.1, has.2)
          | inr stepped ↦ inr (step, there, stepped)
        ],
        λ either. elim either [
          | inl leads ↦ inl (leads.0, (found-once edges label edges_ascend node found none leads.0).0 leads.1, leads.2)
          | inr leads ↦ inr (subst (λ (l : List Oid). Contains l oid)
              (row-once row label leads.0 step row_ascend leads.1 there) leads.2)
        ],
      )) lists

  pub union-kept : (node : Node) → Contains edges (label, node) → ((set : List Oid) → ¬ Contains row (label, set))
      → IsSet (origin_set kept (Kept node)) → IsUnion kept edges row label (origin_set kept (Kept node))
  union-kept node there none ascend = record {
    ascending = ascend;
    exact = λ oid. (
      λ at. inl (node, there, at),
      λ either. elim either [
        | inl leads ↦ subst (λ (n : Node). Contains (origin_set kept (Kept n)) oid)
            (row-once edges label leads.0 node edges_ascend leads.1 there) leads.2
        | inr leads ↦ absurd (none leads.0 leads.1)
      ],
    );
  }

  pub union-none : ((node : Node) → ¬ Contains edges (label, node)) → ((set : List Oid) → ¬ Contains row (label, set))
      → (out : List Oid) → out ≡ [] → IsUnion kept edges row label out
  union-none no_node no_set out bare = subst (λ (l : List Oid). IsUnion kept edges row label l) (sym bare) (record {
    ascending = λ i j d less within. absurd (omega (arith, within));
    exact = λ oid. (
      λ at. absurd (Contains-none oid at),
      λ either. elim either [
        | inl leads ↦ absurd (no_node leads.0 leads.1)
        | inr leads ↦ absurd (no_set leads.0 leads.1)
      ],
    );
  })

  pub node-within : (node : Option Node) → IfSome node (λ x. Contains edges (label, x)) → All (IsThere kept) edges
      → IfSome node (λ x. x.0 < length kept)
  node-within None found there = tt
  node-within (Some x) found there = (All-contains (IsThere kept) edges (label, x) there found).0

  pub node-ascends : (node : Option Node) → IfSome node (λ x. Contains edges (label, x)) → All (IsThere kept) edges
      → IfSome node (λ x. IsSet (origin_set kept (Kept x)))
  node-ascends None found there = tt
  node-ascends (Some x) found there = (All-contains (IsThere kept) edges (label, x) there found).1
