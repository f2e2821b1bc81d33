-- Objects and edges with the numbers at their places, one after another.
use Rattle.std.proofs.Common.{◌≡◌, ◌↔◌, ℕ, ◌+◌, ◌<◌, ◌⊎◌, inl, inr, nat_eq, true, Some, List, [], ◌∷◌, ◌++◌, length, sym, ap, ◌∙◌, subst, arith}
use Rattle.std.specs.List.{AllPairs, Contains, slice_get}
use Rattle.std.specs.Prelude.{slice_index}
use Rattle.std.proofs.lemmas.Bool.{cases_lt}
use Rattle.std.proofs.lemmas.Bool.Decides.{nat_tests}
use Rattle.std.proofs.lemmas.List.Elements.{Contains-append_left, Contains-push, Contains-push_cases}
use Rattle.std.proofs.lemmas.Option.{same_Some, slice_get_within}
use Rattle.lore_base.specs.Walks.{out_of}
use Rattle.lore_base.proofs.MemberLaws.{Contains-none, Contains-filter, unfiltered}
use Rattle.list_laws.proofs.PlaceLaws.{Contains-from_place}
use Rattle.oem_set.proofs.MemberSearch.{same_oid}
use Rattle.one_index.specs.Types.{Oid, Label, Edge}
use Rattle.one_index.specs.inside.Places.{IsAt, IsAtBelow}
use Rattle.one_index.specs.inside.Linked.{IsEdgeBelow, IsLinkPut, IsLink, AreLinks}
use Rattle.one_index.proofs.PlaceLaws.{place_once}

module _ (objects : List Oid) (numbers : List ℕ) where
  -- ---- places below a count
  at_none : (x : Oid) (number : ℕ) → IsAtBelow 0 objects numbers x number → ⊥
  at_none x number at = omega (arith, at.1)

  at_more : (count : ℕ) (x : Oid) (number : ℕ) → IsAtBelow count objects numbers x number
      → IsAtBelow (count + 1) objects numbers x number
  at_more count x number at = (at.0, omega (arith, at.1), at.2, at.3)

  at_cases : (count : ℕ) (x : Oid) (number : ℕ) → IsAtBelow (count + 1) objects numbers x number
      → IsAtBelow count objects numbers x number ⊎ ((slice_get objects count ≡ Some x) × (slice_index numbers count ≡ number))
  at_cases count x number at = elim (cases_lt at.0 count) [
    | inl earlier ↦ inl (at.0, earlier, at.2, at.3)
    | inr late ↦
        let here : at.0 ≡ count = omega (arith, late, at.1) in
        inr (ap (slice_get objects) (sym here) ∙ at.2, ap (slice_index numbers) (sym here) ∙ at.3)
  ]

  pub at_all : (count : ℕ) (x : Oid) (number : ℕ) → count ≡ length objects
      → IsAtBelow count objects numbers x number ↔ IsAt objects numbers x number
  at_all count x number all = (
    λ at. (at.0, at.2, at.3),
    λ at. (at.0, omega (arith, all, slice_get_within objects at.0 x at.1), at.1, at.2),
  )

  -- ---- members
  pub members-none : (number : ℕ) (x : Oid) → Contains {X = ℕ × Oid} [] (number, x) ↔ IsAtBelow 0 objects numbers x number
  members-none number x = (λ at. absurd (Contains-none (number, x) at), λ at. absurd (at_none x number at))

  pub members-more : (count : ℕ) (oid : Oid) (old new : List (ℕ × Oid)) → slice_get objects count ≡ Some oid
      → new ≡ old ++ (slice_index numbers count, oid) ∷ []
      → ((number : ℕ) (x : Oid) → Contains old (number, x) ↔ IsAtBelow count objects numbers x number)
      → (number : ℕ) (x : Oid) → Contains new (number, x) ↔ IsAtBelow (count + 1) objects numbers x number
  members-more count oid old new found pushes before number x = (
    λ at. elim (Contains-push_cases old (slice_index numbers count, oid) (number, x) (subst (λ (l : List (ℕ × Oid)). Contains l (number, x)) pushes at)) [
      | inl earlier ↦ at_more count x number ((before number x).0 earlier)
      | inr last ↦ (
        count,
        omega arith,
        found ∙ ap (λ (p : ℕ × Oid). Some p.1) last,
        ap (λ (p : ℕ × Oid). p.0) last,
      )
    ],
    λ at. subst (λ (l : List (ℕ × Oid)). Contains l (number, x)) (sym pushes) (elim (at_cases count x number at) [
      | inl earlier ↦ Contains-append_left old ((slice_index numbers count, oid) ∷ []) (number, x) ((before number x).1 earlier)
      | inr here ↦
          let same : oid ≡ x = same_Some oid x (sym found ∙ here.0) in
          let is : (slice_index numbers count, oid) ≡ (number, x) = λ i. (here.1 i, same i) in
          subst (λ (p : ℕ × Oid). Contains (old ++ (slice_index numbers count, oid) ∷ []) p) is
          (Contains-push old (slice_index numbers count, oid))
    ]),
  )

  -- ---- the links of some edges
  pub links-none : (from : ℕ) (old : List (ℕ × (Label × ℕ))) (link : ℕ × (Label × ℕ))
      → Contains old link ↔ (Contains old link ⊎ IsLink objects numbers from [] link)
  links-none from old link = (
    λ at. inl at,
    λ either. elim either [ inl at ↦ at | inr is ↦ absurd (Contains-none is.1.0 is.1.1) ],
  )

  link-more : (from : ℕ) (edges : List Edge) (edge : Edge) (link : ℕ × (Label × ℕ)) → IsLink objects numbers from edges link
      → IsLink objects numbers from (edges ++ edge ∷ []) link
  link-more from edges edge link is =
      (is.0, (is.1.0, Contains-append_left edges (edge ∷ []) is.1.0 is.1.1, is.1.2, is.1.3))

  -- one more edge, whose child has a place
  pub links-more : (from : ℕ) (edges : List Edge) (edge : Edge) (child : ℕ) (first old new : List (ℕ × (Label × ℕ)))
      → ((i j : ℕ) (x : Oid) → slice_get objects i ≡ Some x → slice_get objects j ≡ Some x → i ≡ j)
      → slice_get objects child ≡ Some edge.child → new ≡ old ++ (from, (edge.label, slice_index numbers child)) ∷ []
      → ((link : ℕ × (Label × ℕ)) → Contains old link ↔ (Contains first link ⊎ IsLink objects numbers from edges link))
      → (link : ℕ × (Label × ℕ)) → Contains new link ↔ (Contains first link ⊎ IsLink objects numbers from (edges ++ edge ∷ []) link)
  links-more from edges edge child first old new once found pushes before link =
      let item : ℕ × (Label × ℕ) = (from, (edge.label, slice_index numbers child)) in (
        λ at. elim (Contains-push_cases old item link (subst (λ (l : List (ℕ × (Label × ℕ))). Contains l link) pushes at)) [
          | inl earlier ↦ elim ((before link).0 earlier) [
            | inl there ↦ inl there
            | inr is ↦ inr (link-more from edges edge link is)
          ]
          | inr last ↦ inr (
            sym (ap (λ (l : ℕ × (Label × ℕ)). l.0) last),
            (
              edge,
              Contains-push edges edge,
              ap (λ (l : ℕ × (Label × ℕ)). l.1.0) last,
              (child, found, ap (λ (l : ℕ × (Label × ℕ)). l.1.1) last),
            ),
          )
        ],
        λ either. subst (λ (l : List (ℕ × (Label × ℕ))). Contains l link) (sym pushes) (elim either [
          | inl there ↦ Contains-append_left old (item ∷ []) link ((before link).1 (inl there))
          | inr is ↦ elim (Contains-push_cases edges edge is.1.0 is.1.1) [
            | inl earlier ↦ Contains-append_left old (item ∷ []) link
                ((before link).1 (inr (is.0, (is.1.0, earlier, is.1.2, is.1.3))))
            | inr last ↦
                let here : child ≡ is.1.3.0 = once child is.1.3.0 edge.child found (is.1.3.1 ∙ ap (λ (e : Edge). Some e.child) (sym last)) in
                let by : edge.label ≡ link.1.0 = ap (λ (e : Edge). e.label) last ∙ is.1.2 in
                let to : slice_index numbers child ≡ link.1.1 = ap (slice_index numbers) here ∙ is.1.3.2 in
                let same : item ≡ link = λ i. (sym is.0 i, (by i, to i)) in
                subst (λ (l : ℕ × (Label × ℕ)). Contains (old ++ item ∷ []) l) same (Contains-push old item)
          ]
        ]),
      )

  -- one more edge, whose child has no place
  pub links-skip : (from : ℕ) (edges : List Edge) (edge : Edge) (first old : List (ℕ × (Label × ℕ)))
      → ((place : ℕ) → slice_get objects place ≡ Some edge.child → ⊥)
      → ((link : ℕ × (Label × ℕ)) → Contains old link ↔ (Contains first link ⊎ IsLink objects numbers from edges link))
      → (link : ℕ × (Label × ℕ)) → Contains old link ↔ (Contains first link ⊎ IsLink objects numbers from (edges ++ edge ∷ []) link)
  links-skip from edges edge first old none before link = (
    λ at. elim ((before link).0 at) [
      | inl there ↦ inl there
      | inr is ↦ inr (link-more from edges edge link is)
    ],
    λ either. elim either [
      | inl there ↦ (before link).1 (inl there)
      | inr is ↦ elim (Contains-push_cases edges edge is.1.0 is.1.1) [
        | inl earlier ↦ (before link).1 (inr (is.0, (is.1.0, earlier, is.1.2, is.1.3)))
        | inr last ↦ absurd (none is.1.3.0 (is.1.3.1 ∙ ap (λ (e : Edge). Some e.child) (sym last)))
      ]
    ],
  )

  pub links-put : AllPairs (λ a b. a.0 < b.0) objects → (from : ℕ) (edges : List Edge) (edge : Edge) (first old new : List (ℕ × (Label × ℕ)))
      → IsLinkPut objects numbers from edge old new
      → ((link : ℕ × (Label × ℕ)) → Contains old link ↔ (Contains first link ⊎ IsLink objects numbers from edges link))
      → (link : ℕ × (Label × ℕ)) → Contains new link ↔ (Contains first link ⊎ IsLink objects numbers from (edges ++ edge ∷ []) link)
  links-put ascend from edges edge first old new (inl put) before =
      links-more from edges edge put.0 first old new (place_once objects ascend) put.1 put.2 before
  links-put ascend from edges edge first old new (inr still) before =
      subst (λ (l : List (ℕ × (Label × ℕ))). (link : ℕ × (Label × ℕ)) → Contains l link ↔ (Contains first link ⊎ IsLink objects numbers from (edges ++ edge ∷ []) link))
      (sym still.1)
      (links-skip from edges edge first old (λ place at. still.0 (Contains-from_place objects place edge.child at)) before)

  -- ---- the links of all edges that leave some objects
  pub edges-none : (edges : List Edge) (link : ℕ × (Label × ℕ)) → Contains [] link ↔ IsEdgeBelow 0 edges objects numbers link
  edges-none edges link = (
    λ at. absurd (Contains-none link at),
    λ is. absurd (at_none is.edge.parent link.0 is.parent),
  )

  pub edges-more : (edges : List Edge) (count : ℕ) (oid : Oid) (old new : List (ℕ × (Label × ℕ)))
      → slice_get objects count ≡ Some oid
      → ((link : ℕ × (Label × ℕ)) → Contains old link ↔ IsEdgeBelow count edges objects numbers link)
      → ((link : ℕ × (Label × ℕ)) → Contains new link
      ↔ (Contains old link ⊎ IsLink objects numbers (slice_index numbers count) (out_of oid edges) link))
      → (link : ℕ × (Label × ℕ)) → Contains new link ↔ IsEdgeBelow (count + 1) edges objects numbers link
  edges-more edges count oid old new found before now link = (
    λ at. elim ((now link).0 at) [
      | inl earlier ↦
          let is = (before link).0 earlier in
          record {
            edge = is.edge;
            member = is.member;
            parent = at_more count is.edge.parent link.0 is.parent;
            by = is.by;
            child = is.child;
          }
      | inr is ↦
          let kept = unfiltered (λ (e : Edge). nat_eq e.parent.0 oid.0) edges is.1.0 is.1.1 in
          let own : is.1.0.parent ≡ oid = same_oid is.1.0.parent oid kept.1 in
          record {
            edge = is.1.0;
            member = kept.0;
            parent = (count, omega arith, found ∙ ap (λ (o : Oid). Some o) (sym own), sym is.0);
            by = is.1.2;
            child = is.1.3;
          }
    ],
    λ is. (now link).1 (elim (at_cases count is.edge.parent link.0 is.parent) [
      | inl earlier ↦ inl ((before link).1 (record {
        edge = is.edge;
        member = is.member;
        parent = earlier;
        by = is.by;
        child = is.child;
      }))
      | inr here ↦
          let own : is.edge.parent ≡ oid = same_Some is.edge.parent oid (sym here.0 ∙ found) in
          let number : is.edge.parent.0 ≡ oid.0 = ap (λ (o : Oid). o.0) own in
          let test : nat_eq is.edge.parent.0 oid.0 ≡ true = grind (arith, nat_tests) in
          inr (
            sym here.1,
            (is.edge, Contains-filter (λ (e : Edge). nat_eq e.parent.0 oid.0) edges is.edge is.member test, is.by, is.child),
          )
    ]),
  )

  pub edges-all : (edges : List Edge) (count : ℕ) (links : List (ℕ × (Label × ℕ))) → count ≡ length objects
      → ((link : ℕ × (Label × ℕ)) → Contains links link ↔ IsEdgeBelow count edges objects numbers link)
      → AreLinks edges objects numbers links
  edges-all edges count links all are link = (
    λ at.
        let is = (are link).0 at in
        record {
          edge = is.edge;
          member = is.member;
          parent = (at_all count is.edge.parent link.0 all).0 is.parent;
          by = is.by;
          child = is.child;
        },
    λ is. (are link).1 (record {
      edge = is.edge;
      member = is.member;
      parent = (at_all count is.edge.parent link.0 all).1 is.parent;
      by = is.by;
      child = is.child;
    }),
  )
