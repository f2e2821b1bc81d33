-- What a set that lost edges leads to afterwards.
use Rattle.std.proofs.Common.{◌≡◌, ◌⊎◌, ◌↔◌, inl, inr, ℕ, ◌+◌, ◌<◌, List, [], ◌∷◌, ◌++◌, map, take, length, get_or, All, AllPairs}
use Rattle.std.proofs.Common.{Contains, Option, Some, None, IfSome, IfNone, refl, sym, ap, ◌∙◌, subst, arith}
use Rattle.std.specs.List.{AllZip, slice_get}
use Rattle.std.proofs.Common.{drop}
use Rattle.std.proofs.lemmas.List.{take_more, map_push, take-append-drop, length-take}
use Rattle.std.proofs.lemmas.Option.{slice_get_within, get_or_from_slice_get}
use Rattle.std.proofs.lemmas.List.Elements.{All-contains, All-map, All-weaker, All-push, Contains-push, Contains-push_cases}
use Rattle.std.proofs.lemmas.List.Elements.{Contains-append_left}
use Rattle.lore_base.specs.Walks.{edge_of}
use Rattle.lore_base.specs.TargetSets.{ListsInOrder, LeavesTo, IsStep}
use Rattle.lore_base.proofs.MemberLaws.{Contains-none, Contains-same}
use Rattle.lore_base.proofs.TargetLaws.{ListsInOrder-same}
use Rattle.lore_base.proofs.ToldLaws.{told_member, told_edge}
use Rattle.list_laws.proofs.MemberLaws.{All-from_members, Contains-map, Contains-from_map}
use Rattle.list_laws.proofs.PlaceLaws.{place_of_member, slice_get-append_left}
use Rattle.set_explorer.specs.Types.{Oid, Label, Edge, Node, GuideNode, Origin, Kept, Fresh}
use Rattle.set_explorer.specs.PlannedNodes.{origin_set, IsOrigin}
use Rattle.set_explorer.specs.Changes.{IsChange, IsToldChange, AreParents}
use Rattle.set_steps.specs.SetSteps.{AreSteps}
use Rattle.set_steps.proofs.PlaceLaws.{zip-left, zip-right, AllZip-then}
use Rattle.set_steps.proofs.PairLaws.{some-member, AllPairs-map, AllPairs-push}
use Rattle.set_explorer.specs.inside.Founds.{steps_of}
use Rattle.set_explorer.specs.inside.Gains.{labels_in, LeadsKept, LeadsBy, IsUnion}
use Rattle.set_explorer.specs.inside.Losses.{ListsRest, AreRest, StaysOrComes, HasOther, LeadsPast, IsLeft, AreLeft}
use Rattle.set_explorer.proofs.StepLaws.{told_leaves}
use Rattle.set_explorer.proofs.GainLaws.{leads-by, kept-by, found-once, row-once, AllPairs-unmap}

-- such a change is one where only the dirty objects are known
pub change-of : (kept : List GuideNode) (lost fresh after : List Edge) (told : List Oid) (entering : List Edge)
    (dirty grown back : List Oid) → IsToldChange kept lost fresh after told entering dirty grown back
    → IsChange kept dirty grown fresh after
change-of kept lost fresh after told entering dirty grown back change = record {
  names = change.names;
  before = change.before;
  stands = change.stands;
  stay = λ edge was clean. (elim (told_member told_edge after edge) [
    | inl there ↦ there
    | inr gone ↦ absurd (clean ((change.dirty_are edge.parent).1
        (Contains-map (λ (e : Edge). e.parent) lost edge ((change.differ.lost_are edge).1 (was, gone)))))
  ]);
  come = change.differ.fresh_are;
  ascend = change.fresh_ascend;
  grown_are = change.grown_are;
}

-- the steps by listed edges of those members that these leave are those of the set
module _ (listed : List Edge) (set parents members : List Oid) (are : AreParents parents listed)
    (both : (oid : Oid) → Contains members oid ↔ (Contains set oid × Contains parents oid)) where
  members-leave : (label : Label) (oid : Oid) → LeavesTo listed members label oid ↔ LeavesTo listed set label oid
  members-leave label oid = (
    λ leaves. record { from = leaves.from; member = ((both leaves.from).0 leaves.member).0; edge = leaves.edge },
    λ leaves. record {
      from = leaves.from;
      member = (both leaves.from).1 (
        leaves.member,
        (are leaves.from).1 (Contains-map (λ (e : Edge). e.parent) listed (edge_of leaves.from label oid) leaves.edge),
      );
      edge = leaves.edge;
    },
  )

  pub steps-of_members : (row : List (Label × List Oid)) → AreSteps listed members row → AreSteps listed set row
  steps-of_members row steps = record {
    ascend = steps.ascend;
    sets = All-weaker (λ (s : Label × List Oid). IsStep listed members s.0 s.1) (λ (s : Label × List Oid). IsStep listed set s.0 s.1)
        (λ s step. ListsInOrder-same (LeavesTo listed members s.0) (LeavesTo listed set s.0) s.1 (members-leave s.0) step)
        row steps.sets;
    some = steps.some;
    all = λ label oid leaves. steps.all label oid ((members-leave label oid).1 leaves);
  }

-- one step more whose objects are all told
pub told-more : (told : List Oid) (row : List (Label × List Oid)) (i : ℕ) (step : Label × List Oid) → i < length row
    → step ≡ get_or row i step → All (λ step. All (Contains told) step.1) (take i row) → All (Contains told) step.1
    → All (λ step. All (Contains told) step.1) (take (i + 1) row)
told-more told row i step within here are is =
    let IsGood : Label × List Oid → Type 0 = λ s. All (Contains told) s.1 in
    subst (All IsGood) (sym (take_more row i step within ∙ ap (λ (s : Label × List Oid). take i row ++ s ∷ []) (sym here)))
    (All-push IsGood (take i row) step are is)

-- what is left of a set, put behind a step's objects
pub joined-step : (left step none first out : List Oid) → none ≡ []
    → ListsInOrder (λ oid. Contains step oid ⊎ Contains none oid) first
    → ListsInOrder (λ oid. Contains left oid ⊎ Contains first oid) out
    → ListsInOrder (λ oid. Contains left oid ⊎ Contains step oid) out
joined-step left step none first out bare lists joined =
    ListsInOrder-same (λ oid. Contains left oid ⊎ Contains first oid) (λ oid. Contains left oid ⊎ Contains step oid) out
    (λ oid. (
      λ either. elim either [
        | inl old ↦ inl old
        | inr there ↦ elim ((lists.exact oid).0 there) [
          | inl new ↦ inr new
          | inr nothing ↦ absurd (Contains-none oid (subst (λ (l : List Oid). Contains l oid) bare nothing))
        ]
      ],
      λ either. elim either [
        | inl old ↦ inl old
        | inr new ↦ inr ((lists.exact oid).1 (inl new))
      ],
    )) joined

-- ---- what is left of a step
module _ (back : List (Label × List Oid)) (label : Label) (step rest : List Oid) where
  pub rest-some : (other : List Oid) → AllPairs (λ (a b : Label × List Oid). a.0.0 < b.0.0) back → Contains back (label, other)
      → ListsInOrder (λ oid. Contains step oid × (Contains other oid → ⊥)) rest → ListsRest back label step rest
  rest-some other ascend there lists =
      ListsInOrder-same (λ oid. Contains step oid × (Contains other oid → ⊥))
      (λ oid. Contains step oid × (LeadsBy back label oid → ⊥)) rest
      (λ oid. (
        λ both. (
          both.0,
          λ leads. both.1 (subst (λ (l : List Oid). Contains l oid) (row-once back label leads.0 other ascend leads.1 there) leads.2),
        ),
        λ both. (both.0, λ at. both.1 (other, there, at)),
      )) lists

  pub rest-none : (none : List Oid) → none ≡ [] → ((set : List Oid) → ¬ Contains back (label, set))
      → ListsInOrder (λ oid. Contains step oid × (Contains none oid → ⊥)) rest → ListsRest back label step rest
  rest-none none bare nowhere lists =
      ListsInOrder-same (λ oid. Contains step oid × (Contains none oid → ⊥))
      (λ oid. Contains step oid × (LeadsBy back label oid → ⊥)) rest
      (λ oid. (
        λ both. (both.0, λ leads. nowhere leads.0 leads.1),
        λ both. (both.0, λ at. Contains-none oid (subst (λ (l : List Oid). Contains l oid) bare at)),
      )) lists

abbrev IsRest : List (Label × List Oid) → Label × List Oid → Label × List Oid → Type 0
IsRest back step left = (left.0 ≡ step.0) × ListsRest back step.0 step.1 left.1

pub rest-step : (gone back : List (Label × List Oid)) (i : ℕ) (step : Label × List Oid) (rest new : List (Label × List Oid))
    (left : List Oid) → i < length gone → step ≡ get_or gone i step → AreRest (take i gone) back rest
    → ListsRest back step.0 step.1 left → new ≡ rest ++ (step.0, left) ∷ [] → AreRest (take (i + 1) gone) back new
rest-step gone back i step rest new left within here are lists is =
    subst (λ (l : List (Label × List Oid)). AreRest (take (i + 1) gone) back l) (sym is)
    (subst (λ (l : List (Label × List Oid)). AreRest l back (rest ++ (step.0, left) ∷ []))
    (sym (take_more gone i step within ∙ ap (λ (s : Label × List Oid). take i gone ++ s ∷ []) (sym here)))
    (AllZip-then (IsRest back) (take i gone) rest step (step.0, left) are (refl, lists)))

-- the rest has the labels of what is gone, so they ascend as these do
same-labels : (back gone rest : List (Label × List Oid)) → AllZip (IsRest back) gone rest → labels_in rest ≡ labels_in gone
same-labels back [] [] zip = refl
same-labels back [] (left ∷ rest) zip = absurd zip
same-labels back (step ∷ gone) [] zip = absurd zip
same-labels back (step ∷ gone) (left ∷ rest) zip =
    ap (λ (l : Label). l ∷ labels_in rest) zip.0.0
    ∙ ap (λ (l : List Label). step.0 ∷ l) (same-labels back gone rest zip.1)

pub AllPairs-labels : {T : Type 0} (row : List (Label × T)) → AllPairs (λ (a b : Label × T). a.0.0 < b.0.0) row
    → AllPairs (λ (a b : Label). a.0 < b.0) (labels_in row)
AllPairs-labels {T} row ascend = AllPairs-map (λ (e : Label × T). e.0) (λ (a b : Label × T). a.0.0 < b.0.0)
    (λ (a b : Label). a.0 < b.0) (λ a b less. less) row ascend

pub rest-ascends : (gone back rest : List (Label × List Oid)) → AreRest gone back rest
    → AllPairs (λ (a b : Label × List Oid). a.0.0 < b.0.0) gone → AllPairs (λ (a b : Label × List Oid). a.0.0 < b.0.0) rest
rest-ascends gone back rest are ascend =
    AllPairs-unmap (λ (e : Label × List Oid). e.0) (λ (a b : Label). a.0 < b.0) rest
    (subst (λ (l : List Label). AllPairs (λ (a b : Label). a.0 < b.0) l) (sym (same-labels back gone rest are))
    (AllPairs-labels gone ascend))

-- ---- the set of a node without others
module _ (kept : List GuideNode) (others left : List Oid) where
  pub other-node : (node : Node) (own : List Oid) → origin_set kept (Kept node) ≡ own
      → ListsInOrder (λ oid. Contains own oid × (Contains others oid → ⊥)) left
      → ListsInOrder (HasOther kept (Some node) others) left
  other-node node own is lists =
      ListsInOrder-same (λ oid. Contains own oid × (Contains others oid → ⊥)) (HasOther kept (Some node) others) left
      (λ oid. (
        λ both. ((node, refl, subst (λ (l : List Oid). Contains l oid) (sym is) both.0), both.1),
        λ has. (subst (λ (l : List Oid). Contains l oid) is (own-there oid has.0.0 has.0.1 has.0.2), has.1),
      )) lists
    where
      own-there : (oid : Oid) (other : Node) → Some node ≡ Some other → Contains (origin_set kept (Kept other)) oid
          → Contains (origin_set kept (Kept node)) oid
      own-there oid other same there =
          let one : other ≡ node = cc in subst (λ (n : Node). Contains (origin_set kept (Kept n)) oid) one there

  pub other-none : left ≡ [] → ListsInOrder (HasOther kept None others) left
  other-none bare = subst (λ (l : List Oid). ListsInOrder (HasOther kept None others) l) (sym bare) (record {
    ascending = λ i j d less within. absurd (omega (arith, within));
    exact = λ oid. (
      λ at. absurd (Contains-none oid at),
      λ has. absurd (nowhere has.0.0 has.0.1),
    );
  })
    where
      nowhere : (node : Node) → None ≡ Some node → ⊥
      nowhere node same = cc

module _ (kept : List GuideNode) (edges : List (Label × Node)) (come : List (Label × List Oid)) (label : Label)
    (others : List Oid) (edges_ascend : AllPairs (λ (a b : Label × Node). a.0.0 < b.0.0) edges)
    (come_ascend : AllPairs (λ (a b : Label × List Oid). a.0.0 < b.0.0) come) (node : Option Node)
    (found : IfSome node (λ x. Contains edges (label, x))) (none : IfNone node ((x : Node) → ¬ Contains edges (label, x)))
    (left : List Oid) (lists : ListsInOrder (HasOther kept node others) left) where
  other-leads : (oid : Oid) → HasOther kept node others oid
      ↔ (LeadsKept kept edges label oid × (Contains others oid → ⊥))
  other-leads oid = (
    λ has. ((has.0.0, (found-once edges label edges_ascend node found none has.0.0).1 has.0.1, has.0.2), has.1),
    λ both. ((both.0.0, (found-once edges label edges_ascend node found none both.0.0).0 both.0.1, both.0.2), both.1),
  )

  pub past-some : (new set : List Oid) → Contains come (label, new)
      → ListsInOrder (λ oid. Contains left oid ⊎ Contains new oid) set
      → ListsInOrder (LeadsPast kept edges come label others) set
  past-some new set there joined =
      ListsInOrder-same (λ oid. Contains left oid ⊎ Contains new oid) (LeadsPast kept edges come label others) set
      (λ oid. (
        λ either. elim either [
          | inl old ↦ inl ((other-leads oid).0 ((lists.exact oid).0 old))
          | inr comes ↦ inr (new, there, comes)
        ],
        λ either. elim either [
          | inl both ↦ inl ((lists.exact oid).1 ((other-leads oid).1 both))
          | inr leads ↦ inr (subst (λ (l : List Oid). Contains l oid)
              (row-once come label leads.0 new come_ascend leads.1 there) leads.2)
        ],
      )) joined

  pub past-none : ((set : List Oid) → ¬ Contains come (label, set))
      → ListsInOrder (LeadsPast kept edges come label others) left
  past-none nowhere =
      ListsInOrder-same (HasOther kept node others) (LeadsPast kept edges come label others) left
      (λ oid. (
        λ has. inl ((other-leads oid).0 has),
        λ either. elim either [
          | inl both ↦ (other-leads oid).1 both
          | inr leads ↦ absurd (nowhere leads.0 leads.1)
        ],
      )) lists

-- ---- where a label leads
module _ (kept : List GuideNode) (edges : List (Label × Node)) (rest come : List (Label × List Oid)) (label : Label) where
  module _ (rest_ascend : AllPairs (λ (a b : Label × List Oid). a.0.0 < b.0.0) rest) (others : List Oid)
      (there : Contains rest (label, others)) where
    past-stays : (oid : Oid) → LeadsPast kept edges come label others oid ↔ StaysOrComes kept edges rest come label oid
    past-stays oid = (
      λ either. elim either [
        | inl both ↦ inl (
          both.0,
          λ leads. both.1 (subst (λ (l : List Oid). Contains l oid)
              (row-once rest label leads.0 others rest_ascend leads.1 there) leads.2),
        )
        | inr comes ↦ inr comes
      ],
      λ either. elim either [
        | inl both ↦ inl (both.0, λ at. both.1 (others, there, at))
        | inr comes ↦ inr comes
      ],
    )

    pub left-some : (set : List Oid) → ListsInOrder (LeadsPast kept edges come label others) set → (set ≡ [] → ⊥)
        → IsLeft kept edges rest come label (Fresh set)
    left-some set lists filled = record {
      there = tt;
      set = ListsInOrder-same (LeadsPast kept edges come label others) (StaysOrComes kept edges rest come label) set
          past-stays lists;
      some = λ empty oid. absurd (filled empty);
    }

    pub left-none : (set : List Oid) → ListsInOrder (LeadsPast kept edges come label others) set → set ≡ []
        → (oid : Oid) → ¬ StaysOrComes kept edges rest come label oid
    left-none set lists empty oid stays =
        Contains-none oid
        (subst (λ (l : List Oid). Contains l oid) empty ((lists.exact oid).1 ((past-stays oid).1 stays)))

  pub left-union : (origin : Origin) → IsOrigin kept origin → IsUnion kept edges come label (origin_set kept origin)
      → ((oid : Oid) → ¬ LeadsBy rest label oid) → IsLeft kept edges rest come label origin
  left-union origin there union none = record {
    there = there;
    set = ListsInOrder-same (λ oid. LeadsKept kept edges label oid ⊎ LeadsBy come label oid)
        (StaysOrComes kept edges rest come label) (origin_set kept origin)
        (λ oid. (
          λ either. elim either [
            | inl leads ↦ inl (leads, none oid)
            | inr comes ↦ inr comes
          ],
          λ either. elim either [
            | inl both ↦ inl both.0
            | inr comes ↦ inr comes
          ],
        )) union;
    some = λ empty. none;
  }

-- ---- where all labels lead
-- so far: where some of the labels lead
pub record AreLeftOf (kept : List GuideNode) (edges : List (Label × Node)) (rest come : List (Label × List Oid))
    (labels : List Label) (targets : List (Label × Origin)) : Type 0 where
  pub ascend : AllPairs (λ a b. a.0.0 < b.0.0) targets
  pub labels_are : (label : Label) → Contains (labels_in targets) label → Contains labels label
  pub left : All (λ target. IsLeft kept edges rest come target.0 target.1) targets
  pub all : (label : Label) (oid : Oid) → Contains labels label → StaysOrComes kept edges rest come label oid
      → Contains (labels_in targets) label

-- what stands before a place in ascending labels is below the label there
pub below-next : (labels : List Label) (i : ℕ) → i < length labels → AllPairs (λ (a b : Label). a.0 < b.0) labels
    → (label : Label) → Contains (take i labels) label → label.0 < (get_or labels i (record { 0 = 0 })).0
below-next labels i within ascend label there =
    let from = place_of_member (take i labels) label there in
    let inside = slice_get_within (take i labels) from.0 label from.1 in
    let in_all : slice_get labels from.0 ≡ Some label =
    subst (λ (l : List Label). slice_get l from.0 ≡ Some label) (take-append-drop i labels)
    (slice_get-append_left (take i labels) (drop i labels) from.0 label from.1) in
    subst (λ (l : Label). l.0 < (get_or labels i (record { 0 = 0 })).0)
    (get_or_from_slice_get labels from.0 label (record { 0 = 0 }) in_all)
    (ascend from.0 i (record { 0 = 0 }) (omega (arith, inside, length-take i labels)) within)

module _ (kept : List GuideNode) (edges : List (Label × Node)) (rest come : List (Label × List Oid)) where
  pub left-nothing : (labels : List Label) (targets : List (Label × Origin)) → labels ≡ [] → targets ≡ []
      → AreLeftOf kept edges rest come labels targets
  left-nothing labels targets no_labels no_targets =
      subst (λ (l : List Label). AreLeftOf kept edges rest come l targets) (sym no_labels)
      (subst (λ (t : List (Label × Origin)). AreLeftOf kept edges rest come [] t) (sym no_targets) (record {
        ascend = λ i j d less within. absurd (omega (arith, within));
        labels_are = λ label at. absurd (Contains-none label at);
        left = λ k d within. absurd (omega (arith, within));
        all = λ label oid at stays. absurd (Contains-none label at);
      }))

  module _ (labels : List Label) (x : Label) (targets : List (Label × Origin))
      (below : (label : Label) → Contains labels label → label.0 < x.0)
      (are : AreLeftOf kept edges rest come labels targets) where
    pub left-more : (new : List (Label × Origin)) (found : Option Origin) → IfSome found (IsLeft kept edges rest come x)
        → IfNone found ((oid : Oid) → ¬ StaysOrComes kept edges rest come x oid)
        → IfSome found (λ origin. new ≡ targets ++ (x, origin) ∷ []) → IfNone found (new ≡ targets)
        → AreLeftOf kept edges rest come (labels ++ x ∷ []) new
    left-more new None left none pushed same =
        subst (λ (t : List (Label × Origin)). AreLeftOf kept edges rest come (labels ++ x ∷ []) t) (sym same) (record {
          ascend = are.ascend;
          labels_are = λ label at. Contains-append_left labels (x ∷ []) label (are.labels_are label at);
          left = are.left;
          all = λ label oid there stays. (elim (Contains-push_cases labels x label there) [
            | inl early ↦ are.all label oid early stays
            | inr one ↦ absurd (none oid (subst (λ (l : Label). StaysOrComes kept edges rest come l oid) (sym one) stays))
          ]);
        })
    left-more new (Some origin) left none pushed same =
        let longer : labels_in (targets ++ (x, origin) ∷ []) ≡ labels_in targets ++ x ∷ [] =
        map_push (λ (t : Label × Origin). t.0) targets (x, origin) in
        subst (λ (t : List (Label × Origin)). AreLeftOf kept edges rest come (labels ++ x ∷ []) t) (sym pushed) (record {
          ascend = AllPairs-push (λ (a b : Label × Origin). a.0.0 < b.0.0) targets (x, origin) are.ascend
              (λ target there. below target.0
              (are.labels_are target.0 (Contains-map (λ (t : Label × Origin). t.0) targets target there)));
          labels_are = λ label at. (elim (Contains-push_cases (labels_in targets) x label
              (subst (λ (l : List Label). Contains l label) longer at)) [
                | inl early ↦ Contains-append_left labels (x ∷ []) label (are.labels_are label early)
                | inr one ↦ Contains-same (labels ++ x ∷ []) x label one (Contains-push labels x)
              ]);
          left = All-push (λ (t : Label × Origin). IsLeft kept edges rest come t.0 t.1) targets (x, origin) are.left left;
          all = λ label oid there stays. subst (λ (l : List Label). Contains l label) (sym longer)
              (elim (Contains-push_cases labels x label there) [
                | inl early ↦ Contains-append_left (labels_in targets) (x ∷ []) label (are.all label oid early stays)
                | inr one ↦ Contains-same (labels_in targets ++ x ∷ []) x label one (Contains-push (labels_in targets) x)
              ]);
        })

  pub left-all : (labels : List Label) (targets : List (Label × Origin))
      → ((label : Label) → Contains labels label ↔ (Contains (labels_in edges) label ⊎ Contains (labels_in come) label))
      → AreLeftOf kept edges rest come labels targets → AreLeft kept edges rest come targets
  left-all labels targets members are = record {
    ascend = are.ascend;
    labels = λ label at. (members label).0 (are.labels_are label at);
    left = are.left;
    all = λ label oid stays. are.all label oid ((members label).1 (by-label label oid stays)) stays;
  }
    where
      by-label : (label : Label) (oid : Oid) → StaysOrComes kept edges rest come label oid
          → Contains (labels_in edges) label ⊎ Contains (labels_in come) label
      by-label label oid (inl both) =
          inl (Contains-map (λ (e : Label × Node). e.0) edges (label, both.0.0) both.0.1)
      by-label label oid (inr leads) =
          inr (Contains-map (λ (s : Label × List Oid). s.0) come (label, leads.0) leads.1)

pub left-origins : (kept : List GuideNode) (edges : List (Label × Node)) (rest come : List (Label × List Oid))
    (targets : List (Label × Origin)) → AreLeft kept edges rest come targets → All (λ target. IsOrigin kept target.1) targets
left-origins kept edges rest come targets left = All-weaker (λ (t : Label × Origin). IsLeft kept edges rest come t.0 t.1)
    (λ (t : Label × Origin). IsOrigin kept t.1) (λ t is. is.there) targets left.left

-- ---- the steps of a set that lost edges
module _ (kept : List GuideNode) (lost fresh after : List Edge) (told : List Oid) (entering : List Edge)
    (dirty grown back : List Oid) (change : IsToldChange kept lost fresh after told entering dirty grown back)
    (set : List Oid) where
  -- a step of before that no lost edge makes stays
  stays : (label : Label) (oid : Oid) → LeavesTo change.before set label oid → (LeavesTo lost set label oid → ⊥)
      → LeavesTo after set label oid
  stays label oid was keeps =
      let edge = edge_of was.from label oid in
      record {
        from = was.from;
        member = was.member;
        edge = elim (told_member told_edge after edge) [
          | inl there ↦ there
          | inr gone ↦ absurd (keeps (record {
            from = was.from;
            member = was.member;
            edge = (change.differ.lost_are edge).1 (was.edge, gone);
          }))
        ];
      }

  enters : (label : Label) (oid : Oid) → LeavesTo entering set label oid → LeavesTo after set label oid
  enters label oid leaves = record {
    from = leaves.from;
    member = leaves.member;
    edge = ((change.tells.exact (edge_of leaves.from label oid)).0 leaves.edge).0;
  }

  comes : (label : Label) (oid : Oid) → LeavesTo fresh set label oid → LeavesTo after set label oid
  comes label oid leaves = record {
    from = leaves.from;
    member = leaves.member;
    edge = ((change.differ.fresh_are (edge_of leaves.from label oid)).0 leaves.edge).0;
  }

  -- the child of a lost edge that no entering edge leads to by its label
  abbrev IsLost : Label → Oid → Type 0
  IsLost label oid = LeavesTo lost set label oid × (LeavesTo entering set label oid → ⊥)

  module _ (all_told : (label : Label) (oid : Oid) → LeavesTo lost set label oid → Contains told oid) where
    -- what leaves the set afterwards left it before and isn't lost, or leaves it by a fresh edge
    pub left-leaves : (label : Label) (oid : Oid) → LeavesTo after set label oid
        ↔ ((LeavesTo change.before set label oid × (IsLost label oid → ⊥)) ⊎ LeavesTo fresh set label oid)
    left-leaves label oid = (
      λ leaves. (
          let edge = edge_of leaves.from label oid in
          elim (told_member told_edge change.before edge) [
            | inl was ↦ inl (
              (record { from = leaves.from; member = leaves.member; edge = was }),
              λ both. both.1 (record {
                from = leaves.from;
                member = leaves.member;
                edge = (change.tells.exact edge).1 (leaves.edge, all_told label oid both.0);
              }),
            )
            | inr new ↦ inr (record {
              from = leaves.from;
              member = leaves.member;
              edge = (change.differ.fresh_are edge).1 (leaves.edge, new);
            })
          ]),
      λ either. elim either [
        | inl both ↦ elim (told_leaves lost set label oid) [
          | inl loses ↦ elim (told_leaves entering set label oid) [
            | inl there ↦ enters label oid there
            | inr none ↦ absurd (both.1 (loses, none))
          ]
          | inr keeps ↦ stays label oid both.0 keeps
        ]
        | inr leaves ↦ comes label oid leaves
      ],
    )

    module _ (edges : List (Label × Node)) (gone_row back_row rest come : List (Label × List Oid))
        (targets : List (Label × Origin))
        (own_are : AreSteps change.before set (map (λ (edge : Label × Node). (edge.0, origin_set kept (Kept edge.1))) edges))
        (gone_are : AreSteps lost set gone_row) (back_are : AreSteps entering set back_row) (come_are : AreSteps fresh set come)
        (rest_are : AreRest gone_row back_row rest) (left : AreLeft kept edges rest come targets) where
      abbrev as_step : Label × Node → Label × List Oid
      as_step edge = (edge.0, origin_set kept (Kept edge.1))

      abbrev of_target : Label × Origin → Label × List Oid
      of_target target = (target.0, origin_set kept target.1)

      own-leads : (label : Label) (oid : Oid) → LeadsKept kept edges label oid ↔ LeavesTo change.before set label oid
      own-leads label oid =
          let here = kept-by kept edges label oid in
          let steps = leads-by change.before set (map as_step edges) own_are label oid in
          (λ leads. steps.0 (here.0 leads), λ leaves. here.1 (steps.1 leaves))

      rest-leads : (label : Label) (oid : Oid) → LeadsBy rest label oid ↔ IsLost label oid
      rest-leads label oid =
          let loses = leads-by lost set gone_row gone_are label oid in
          let again = leads-by entering set back_row back_are label oid in (
            λ leads. (
                let from = zip-right (IsRest back_row) gone_row rest (label, leads.0) rest_are leads.1 in
                let both = (from.2.1.exact oid).0 leads.2 in (
                  loses.0 (from.0.1, subst (λ (l : Label). Contains gone_row (l, from.0.1)) (sym from.2.0) from.1, both.0),
                  λ leaves. both.1 (subst (λ (l : Label). LeadsBy back_row l oid) from.2.0 (again.1 leaves)),
                )),
            λ is. (
                let gone = loses.1 is.0 in
                let found = zip-left (IsRest back_row) gone_row rest (label, gone.0) rest_are gone.1 in (
                  found.0.1,
                  subst (λ (l : Label). Contains rest (l, found.0.1)) found.2.0 found.1,
                  (found.2.1.exact oid).1 (gone.2, λ leads. is.1 (again.0 leads)),
                )),
          )

      whole : (label : Label) (oid : Oid) → StaysOrComes kept edges rest come label oid ↔ LeavesTo after set label oid
      whole label oid =
          let fresh_leads = leads-by fresh set come come_are label oid in (
            λ either. (left-leaves label oid).1 (elim either [
              | inl both ↦ inl ((own-leads label oid).0 both.0, λ lose. both.1 ((rest-leads label oid).1 lose))
              | inr leads ↦ inr (fresh_leads.0 leads)
            ]),
            λ leaves. elim ((left-leaves label oid).0 leaves) [
              | inl both ↦ inl ((own-leads label oid).1 both.0, λ leads. both.1 ((rest-leads label oid).0 leads))
              | inr new ↦ inr (fresh_leads.1 new)
            ],
          )

      some-kept : (label : Label) → Contains (labels_in edges) label → (oid : Oid) × LeadsKept kept edges label oid
      some-kept label there =
          let edge = Contains-from_map (λ (e : Label × Node). e.0) edges label there in
          let set_there = Contains-map as_step edges edge.0 edge.1 in
          let one = some-member (origin_set kept (Kept edge.0.1))
          (All-contains (λ (s : Label × List Oid). (s.1 ≡ []) → ⊥) (map as_step edges) (as_step edge.0)
          own_are.some set_there) in
          (one.0, (edge.0.1, subst (λ (l : Label). Contains edges (l, edge.0.1)) edge.2 edge.1, one.1))

      some-come : (label : Label) → Contains (labels_in come) label → (oid : Oid) × LeadsBy come label oid
      some-come label there =
          let step = Contains-from_map (λ (s : Label × List Oid). s.0) come label there in
          let one = some-member step.0.1
          (All-contains (λ (s : Label × List Oid). (s.1 ≡ []) → ⊥) come step.0 come_are.some step.1) in
          (one.0, (step.0.1, subst (λ (l : Label). Contains come (l, step.0.1)) step.2 step.1, one.1))

      not-empty : (target : Label × Origin) → Contains targets target → (origin_set kept target.1 ≡ []) → ⊥
      not-empty target there none =
          let is = All-contains (λ (t : Label × Origin). IsLeft kept edges rest come t.0 t.1) targets target left.left there in
          let there_by = left.labels target.0 (Contains-map (λ (t : Label × Origin). t.0) targets target there) in
          let one : (oid : Oid) × StaysOrComes kept edges rest come target.0 oid = elim there_by [
            | inl by_edge ↦ (let some = some-kept target.0 by_edge in (some.0, inl (some.1, is.some none some.0)))
            | inr by_step ↦ (let some = some-come target.0 by_step in (some.0, inr some.1))
          ] in
          Contains-none one.0 (subst (λ (l : List Oid). Contains l one.0) none ((is.set.exact one.0).1 one.1))

      step-there : (label : Label) (oid : Oid) → StaysOrComes kept edges rest come label oid
          → (next : List Oid) × Contains (map of_target targets) (label, next)
      step-there label oid either =
          let from = Contains-from_map (λ (t : Label × Origin). t.0) targets label (left.all label oid either) in (
            origin_set kept from.0.1,
            subst (λ (l : Label). Contains (map of_target targets) (l, origin_set kept from.0.1))
                from.2 (Contains-map of_target targets from.0 from.1),
          )

      pub left-steps : AreSteps after set (steps_of kept targets)
      left-steps = record {
        ascend = AllPairs-map of_target (λ (a b : Label × Origin). a.0.0 < b.0.0)
            (λ (a b : Label × List Oid). a.0.0 < b.0.0) (λ a b less. less) targets left.ascend;
        sets = All-map (λ (s : Label × List Oid). IsStep after set s.0 s.1) of_target targets
            (All-weaker (λ (t : Label × Origin). IsLeft kept edges rest come t.0 t.1)
            (λ (t : Label × Origin). IsStep after set t.0 (origin_set kept t.1))
            (λ t is. ListsInOrder-same (StaysOrComes kept edges rest come t.0) (LeavesTo after set t.0)
            (origin_set kept t.1) (whole t.0) is.set) targets left.left);
        some = All-map (λ (s : Label × List Oid). (s.1 ≡ []) → ⊥) of_target targets
            (All-from_members (λ (t : Label × Origin). (origin_set kept t.1 ≡ []) → ⊥) targets not-empty);
        all = λ label oid leaves. step-there label oid ((whole label oid).1 leaves);
      }

  -- every child of a lost edge is told, where the steps by lost edges have told objects alone
  pub told-all : (gone_row : List (Label × List Oid)) → AreSteps lost set gone_row
      → All (λ (step : Label × List Oid). All (Contains told) step.1) gone_row
      → (label : Label) (oid : Oid) → LeavesTo lost set label oid → Contains told oid
  told-all gone_row gone_are are label oid leaves =
      let leads = (leads-by lost set gone_row gone_are label oid).1 leaves in
      All-contains (Contains told) leads.0 oid
      (All-contains (λ (s : Label × List Oid). All (Contains told) s.1) gone_row (label, leads.0) are leads.1) leads.2
