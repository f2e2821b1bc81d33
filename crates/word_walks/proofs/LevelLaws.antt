-- The children of objects by one label, and what a word leads to.
use Rattle.std.proofs.Common.{◌≡◌, ◌↔◌, ◌⊎◌, ◌==◌, inl, inr, Bool, true, false, true≢false, IsTrue, List, [], ◌∷◌, ◌++◌, Contains, refl, sym, ap, ◌∙◌, subst, arith}
use Rattle.std.proofs.lemmas.Bool.{eqb-true, eq-eqb}
use Rattle.std.proofs.lemmas.List.{append-nil}
use Rattle.std.proofs.lemmas.List.Elements.{Contains-append_left, Contains-push, Contains-push_cases}
use Rattle.lore_base.specs.TargetSets.{ListsInOrder, IsTargetSet, IsStep, LeavesTo}
use Rattle.lore_base.specs.Walks.{Walk, edge_of, out_of}
use Rattle.lore_base.proofs.MemberLaws.{Contains-none, Contains-head, Contains-cases}
use Rattle.lore_base.proofs.TargetLaws.{ListsInOrder-same}
use Rattle.lore_base.proofs.WalkLaws.{Walk-push, Walk-split}
use Rattle.product_walk.proofs.ArcLaws.{arcs_along}
use Rattle.word_walks.specs.Types.{Oid, Label, Edge, OnlyWord, Lacking}
use Rattle.word_walks.specs.WordWalks.{IsReachedBy}
use Rattle.word_walks.specs.inside.Levels.{Gains, IsEndBy, item_if}
use Rattle.word_walks.proofs.WordLaws.{same_label}

item_gains : (oids new : List Oid) (passes : Bool) (oid other : Oid) → new ≡ oids ++ item_if passes oid
    → Contains new other ↔ (Contains oids other ⊎ (IsTrue passes × (oid ≡ other)))
item_gains oids new true oid other is = (
  λ at. elim (Contains-push_cases oids oid other (subst (λ (l : List Oid). Contains l other) is at)) [
    | inl early ↦ inl early
    | inr same ↦ inr (refl, same)
  ],
  λ h. subst (λ (l : List Oid). Contains l other) (sym is) (elim h [
    | inl early ↦ Contains-append_left oids (oid ∷ []) other early
    | inr one ↦ subst (Contains (oids ++ oid ∷ [])) one.1 (Contains-push oids oid)
  ]),
)
item_gains oids new false oid other is = (
  λ at. inl (subst (λ (l : List Oid). Contains l other) (is ∙ append-nil oids) at),
  λ h. elim h [
    | inl early ↦ subst (λ (l : List Oid). Contains l other) (sym (is ∙ append-nil oids)) early
    | inr one ↦ absurd (true≢false (sym one.0))
  ],
)

-- the far end of one edge more, if it has the label
pub ends_none : (label : Label) (oids : List Oid) → Gains (IsEndBy [] label) oids oids
ends_none label oids oid = (λ at. inl at, λ h. elim h [ inl at ↦ at | inr end ↦ absurd (Contains-none end.0 end.1) ])

pub ends_more : (edges : List Edge) (edge : Edge) (label : Label) (old middle new : List Oid) → Gains (IsEndBy edges label) old middle
    → new ≡ middle ++ item_if (edge.label.0 == label.0) edge.child → Gains (IsEndBy (edges ++ edge ∷ []) label) old new
ends_more edges edge label old middle new so_far is oid =
    let one = item_gains middle new (edge.label.0 == label.0) edge.child oid is in (
      λ at. elim (one.0 at) [
        | inl early ↦ elim ((so_far oid).0 early) [
          | inl first ↦ inl first
          | inr end ↦ inr (end.0, Contains-append_left edges (edge ∷ []) end.0 end.1, end.2, end.3)
        ]
        | inr here ↦ inr (edge, Contains-push edges edge, same_label edge.label label (eqb-true edge.label.0 label.0 here.0), here.1)
      ],
      λ h. elim h [
        | inl first ↦ one.1 (inl ((so_far oid).1 (inl first)))
        | inr end ↦ elim (Contains-push_cases edges edge end.0 end.1) [
          | inl early ↦ one.1 (inl ((so_far oid).1 (inr (end.0, early, end.2, end.3))))
          | inr same ↦ one.1 (inr (
            eq-eqb edge.label.0 label.0 (ap (λ (e : Edge). e.label.0) same ∙ ap (λ (l : Label). l.0) end.2),
            ap (λ (e : Edge). e.child) same ∙ end.3,
          ))
        ]
      ],
    )

-- the far ends of the edges that leave an object
pub ends_out : (edges read : List Edge) (oid : Oid) (label : Label) (old new : List Oid) → read ≡ out_of oid edges → Gains (IsEndBy read label) old new
    → Gains (λ child. Contains edges (edge_of oid label child)) old new
ends_out edges read oid label old new is gains child =
    let arcs = arcs_along edges oid label child in
    let gained = subst (λ (l : List Edge). Gains (IsEndBy l label) old new) is gains child in (
      λ at. elim (gained.0 at) [
        | inl early ↦ inl early
        | inr end ↦ inr (arcs.1 end)
      ],
      λ h. gained.1 (elim h [
        | inl early ↦ inl early
        | inr edge ↦ inr (arcs.0 edge)
      ]),
    )

-- the children of one object more
pub step_none : (edges : List Edge) (label : Label) (oids : List Oid) → Gains (LeavesTo edges [] label) oids oids
step_none edges label oids oid = (λ at. inl at, λ h. elim h [ inl at ↦ at | inr leaves ↦ absurd (Contains-none leaves.from leaves.member) ])

pub step_more : (edges : List Edge) (level : List Oid) (from : Oid) (label : Label) (old middle new : List Oid) → Gains (LeavesTo edges level label) old middle
    → Gains (λ child. Contains edges (edge_of from label child)) middle new → Gains (LeavesTo edges (level ++ from ∷ []) label) old new
step_more edges level from label old middle new so_far now child = (
  λ at. elim ((now child).0 at) [
    | inl early ↦ elim ((so_far child).0 early) [
      | inl first ↦ inl first
      | inr leaves ↦ inr (record { from = leaves.from; member = Contains-append_left level (from ∷ []) leaves.from leaves.member; edge = leaves.edge })
    ]
    | inr edge ↦ inr (record { from = from; member = Contains-push level from; edge = edge })
  ],
  λ h. elim h [
    | inl first ↦ (now child).1 (inl ((so_far child).1 (inl first)))
    | inr leaves ↦ elim (Contains-push_cases level from leaves.from leaves.member) [
      | inl early ↦ (now child).1 (inl ((so_far child).1 (inr (record { from = leaves.from; member = early; edge = leaves.edge }))))
      | inr same ↦ (now child).1 (inr (subst (λ (o : Oid). Contains edges (edge_of o label child)) (sym same) leaves.edge))
    ]
  ],
)

-- what comes to an empty list, in order
pub step_in_order : (edges : List Edge) (level : List Oid) (label : Label) (old middle new : List Oid) → old ≡ [] → Gains (LeavesTo edges level label) old middle
    → ListsInOrder (Contains middle) new → IsStep edges level label new
step_in_order edges level label old middle new empty gains lists = ListsInOrder-same (Contains middle) (LeavesTo edges level label) new (λ oid. (
  λ at. elim ((gains oid).0 at) [
    | inl early ↦ absurd (Contains-none oid (subst (λ (l : List Oid). Contains l oid) empty early))
    | inr leaves ↦ leaves
  ],
  λ leaves. (gains oid).1 (inr leaves),
)) lists

-- The target set of a word, label by label.
pub target_none : (edges : List Edge) (from : Oid) (oids : List Oid) → oids ≡ from ∷ [] → IsTargetSet edges from [] oids
target_none edges from oids is = subst (IsTargetSet edges from []) (sym is) (record {
  ascending = λ i j d below within. absurd (omega (arith, below, within));
  exact = λ oid. (
    λ at. elim (Contains-cases from [] oid at) [ inl same ↦ same | inr other ↦ absurd (Contains-none oid other) ],
    λ same. subst (Contains (from ∷ [])) same (Contains-head from []),
  );
})

pub target_more : (edges : List Edge) (from : Oid) (word : List Label) (label : Label) (set next : List Oid) → IsTargetSet edges from word set
    → IsStep edges set label next → IsTargetSet edges from (word ++ label ∷ []) next
target_more edges from word label set next target step =
    ListsInOrder-same (LeavesTo edges set label) (Walk edges from (word ++ label ∷ [])) next (λ oid. (
      λ leaves. Walk-push edges from word leaves.from label oid ((target.exact leaves.from).0 leaves.member) leaves.edge,
      λ walked.
          let split = Walk-split edges from word (label ∷ []) oid walked in
          record {
            from = split.0;
            member = (target.exact split.0).1 split.1;
            edge = subst (λ (o : Oid). Contains edges (edge_of split.0 label o)) split.2.2 split.2.1;
          },
    )) step

-- nothing is reached where a label is lacking
pub reached_none : (word : OnlyWord) (edges : List Edge) (from : Oid) (oids : List Oid) → word ≡ Lacking → oids ≡ []
    → ListsInOrder (IsReachedBy word edges from) oids
reached_none word edges from oids is empty =
    subst (λ (w : OnlyWord). ListsInOrder (IsReachedBy w edges from) oids) (sym is)
    (subst (ListsInOrder (IsReachedBy Lacking edges from)) (sym empty) (record {
      ascending = λ i j d below within. absurd (omega (arith, within));
      exact = λ oid. (λ at. absurd (Contains-none oid at), λ none. absurd none);
    }))
