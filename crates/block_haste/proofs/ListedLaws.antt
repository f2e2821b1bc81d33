-- The edges of rows as one list, and the places of the edges that leave each node.
use Rattle.std.proofs.Common.{◌≡◌, ◌↔◌, ℕ, ◌+◌, ◌<◌, ◌⊎◌, inl, inr, List, [], ◌∷◌, ◌++◌, length, get_or, All, Contains, refl, sym, ap, ◌∙◌, subst, arith}
use Rattle.std.specs.Prelude.{slice_index_or}
use Rattle.std.proofs.lemmas.Bool.{cases_lt}
use Rattle.std.proofs.lemmas.List.{get_or_default, get_or_past}
use Rattle.std.proofs.lemmas.List.Elements.{All-contains, Contains-append_left, Contains-get_or, Contains-push, Contains-push_cases}
use Rattle.lore_lists.proofs.MemberLaws.{Contains-none}
use Rattle.list_laws.proofs.MemberLaws.{All-from_members}
use Rattle.block_rounds.specs.Gathered.{AreGathered}
use Rattle.block_rounds.proofs.GatherLaws.{gathered_members}
use Rattle.block_rounds.specs.Partitions.{Rows, Enters, AreWithin}
use Rattle.block_haste.specs.inside.Recounting.{edge_at}
use Rattle.block_haste.specs.inside.Hastening.{AreListed}
use Rattle.block_haste.specs.inside.Listed.{AreRowListed, AreRowsBelow, AreRowsListed, ArePairsBelow, AreOutPairs}

-- ---- the edges of a row
pub row-none : (node : ℕ) (old : List (ℕ × ℕ × ℕ)) → AreRowListed node [] old old
row-none node old edge = (
  λ at. inl at,
  λ either. elim either [ inl at ↦ at | inr own ↦ absurd (Contains-none (edge.1, edge.0) own.1) ],
)

pub row-more : (node : ℕ) (row : List (ℕ × ℕ)) (entry : ℕ × ℕ) (old middle new : List (ℕ × ℕ × ℕ))
    → new ≡ middle ++ (entry.1, entry.0, node) ∷ [] → AreRowListed node row old middle → AreRowListed node (row ++ entry ∷ []) old new
row-more node row entry old middle new pushes before edge = (
  λ at. elim (Contains-push_cases middle (entry.1, entry.0, node) edge (subst (λ (l : List (ℕ × ℕ × ℕ)). Contains l edge) pushes at)) [
    | inl earlier ↦ elim ((before edge).0 earlier) [
      | inl there ↦ inl there
      | inr own ↦ inr (own.0, Contains-append_left row (entry ∷ []) (edge.1, edge.0) own.1)
    ]
    | inr last ↦
        let is : entry ≡ (edge.1, edge.0) = λ i. ((last i).1, (last i).0) in
        inr (
          sym (ap (λ (e : ℕ × ℕ × ℕ). e.2) last),
          subst (λ (e : ℕ × ℕ). Contains (row ++ entry ∷ []) e) is (Contains-push row entry),
        )
  ],
  λ either. subst (λ (l : List (ℕ × ℕ × ℕ)). Contains l edge) (sym pushes) (elim either [
    | inl there ↦ Contains-append_left middle ((entry.1, entry.0, node) ∷ []) edge ((before edge).1 (inl there))
    | inr own ↦ elim (Contains-push_cases row entry (edge.1, edge.0) own.1) [
      | inl earlier ↦ Contains-append_left middle ((entry.1, entry.0, node) ∷ []) edge ((before edge).1 (inr (own.0, earlier)))
      | inr last ↦
          let is : (entry.1, entry.0, node) ≡ edge = λ i. ((last i).1, (last i).0, sym own.0 i) in
          subst (λ (e : ℕ × ℕ × ℕ). Contains (middle ++ (entry.1, entry.0, node) ∷ []) e) is (Contains-push middle (entry.1, entry.0, node))
    ]
  ]),
)

-- ---- the edges of all rows
pub rows-none : (rows : Rows) → AreRowsBelow 0 rows []
rows-none rows edge = (λ at. absurd (Contains-none edge at), λ own. absurd (omega (arith, own.0)))

pub rows-more : (rows : Rows) (count : ℕ) (row : List (ℕ × ℕ)) (old new : List (ℕ × ℕ × ℕ)) → row ≡ slice_index_or rows count []
    → AreRowListed count row old new → AreRowsBelow count rows old → AreRowsBelow (count + 1) rows new
rows-more rows count row old new is listed before edge = (
  λ at. elim ((listed edge).0 at) [
    | inl there ↦ (let own = (before edge).0 there in (omega (arith, own.0), own.1))
    | inr own ↦ (
      omega (arith, own.0),
      subst (λ (k : ℕ). Contains (slice_index_or rows k []) (edge.1, edge.0)) (sym own.0)
          (subst (λ (r : List (ℕ × ℕ)). Contains r (edge.1, edge.0)) is own.1),
    )
  ],
  λ own. (listed edge).1 (elim (cases_lt edge.2 count) [
    | inl earlier ↦ inl ((before edge).1 (earlier, own.1))
    | inr late ↦
        let here : edge.2 ≡ count = omega (arith, late, own.0) in
        inr (
          here,
          subst (λ (r : List (ℕ × ℕ)). Contains r (edge.1, edge.0)) (sym is)
              (subst (λ (k : ℕ). Contains (slice_index_or rows k []) (edge.1, edge.0)) here own.1),
        )
  ]),
)

-- ---- places with parents
pub pairs-none : (edges : List (ℕ × ℕ × ℕ)) → ArePairsBelow 0 edges []
pairs-none edges parent place = (λ at. absurd (Contains-none (parent, place) at), λ own. absurd (omega (arith, own.0)))

pub pairs-more : (edges : List (ℕ × ℕ × ℕ)) (count parent : ℕ) (old new : List (ℕ × ℕ)) → parent ≡ (edge_at edges count).0
    → new ≡ old ++ (parent, count) ∷ [] → ArePairsBelow count edges old → ArePairsBelow (count + 1) edges new
pairs-more edges count own old new is pushes before parent place = (
  λ at. elim (Contains-push_cases old (own, count) (parent, place) (subst (λ (l : List (ℕ × ℕ)). Contains l (parent, place)) pushes at)) [
    | inl earlier ↦ (let told = (before parent place).0 earlier in (omega (arith, told.0), told.1))
    | inr last ↦
        let here : count ≡ place = ap (λ (p : ℕ × ℕ). p.1) last in
        (omega (arith, here), ap (λ (k : ℕ). (edge_at edges k).0) (sym here) ∙ sym is ∙ ap (λ (p : ℕ × ℕ). p.0) last)
  ],
  λ told. subst (λ (l : List (ℕ × ℕ)). Contains l (parent, place)) (sym pushes) (elim (cases_lt place count) [
    | inl earlier ↦ Contains-append_left old ((own, count) ∷ []) (parent, place) ((before parent place).1 (earlier, told.1))
    | inr late ↦
        let here : count ≡ place = omega (arith, late, told.0) in
        let by : own ≡ parent = is ∙ ap (λ (k : ℕ). (edge_at edges k).0) here ∙ told.1 in
        let same : (own, count) ≡ (parent, place) = λ i. (by i, here i) in
        subst (λ (p : ℕ × ℕ). Contains (old ++ (own, count) ∷ []) p) same (Contains-push old (own, count))
  ]),
)

-- ---- both ways
entered_live : (rows : Rows) (edge : ℕ × ℕ × ℕ) → Enters rows edge.0 edge.1 edge.2 → edge.2 < length rows
entered_live rows edge at = elim (cases_lt edge.2 (length rows)) [
  | inl live ↦ live
  | inr past ↦ absurd (Contains-none (edge.1, edge.0)
      (subst (λ (r : List (ℕ × ℕ)). Contains r (edge.1, edge.0)) (get_or_past rows edge.2 [] (omega (arith, past))) at))
]

module _ (rows : Rows) (edges : List (ℕ × ℕ × ℕ)) (within : AreWithin rows) (listed : AreRowsListed rows edges) where
  parent_live : (edge : ℕ × ℕ × ℕ) → Contains edges edge → edge.0 < length rows
  parent_live edge at =
      let own = (listed edge).0 at in
      All-contains (λ (entry : ℕ × ℕ). entry.1 < length rows) (get_or rows edge.2 []) (edge.1, edge.0) (within edge.2 [] own.0) own.1

  pub pairs_low : (pairs : List (ℕ × ℕ)) → AreOutPairs edges pairs → All (λ pair. pair.0 < length rows) pairs
  pairs_low pairs are = All-from_members (λ pair. pair.0 < length rows) pairs (λ pair at.
      let told = (are pair.0 pair.1).0 at in
      let live : (edge_at edges pair.1).0 < length rows = parent_live (edge_at edges pair.1) (Contains-get_or edges pair.1 (0, 0, 0) told.0) in
      omega (arith, live, told.1))

  pub AreListed-gathered : (pairs : List (ℕ × ℕ)) (outs : List (List ℕ)) → AreOutPairs edges pairs → length outs ≡ length rows
      → AreGathered pairs outs → AreListed rows edges outs
  AreListed-gathered pairs outs are every gathered = record {
    exact = λ parent label node. (
      λ at. ((listed (parent, label, node)).0 at).1,
      λ at. (listed (parent, label, node)).1 (entered_live rows (parent, label, node) at, at),
    );
    parents = All-from_members (λ edge. edge.0 < length rows) edges parent_live;
    nodes = All-from_members (λ edge. edge.2 < length rows) edges (λ edge at. ((listed edge).0 at).0);
    every = every;
    within = λ node d below place e inside.
        let held : Contains (get_or outs node []) (get_or (get_or outs node d) place e) =
        subst (λ (l : List ℕ). Contains l (get_or (get_or outs node d) place e)) (get_or_default outs node d [] below)
        (Contains-get_or (get_or outs node d) place e inside) in
        ((are node (get_or (get_or outs node d) place e)).0 ((gathered_members pairs outs gathered node (get_or (get_or outs node d) place e)).0 held)).0;
    placed = λ place inside.
        (gathered_members pairs outs gathered (edge_at edges place).0 place).1 ((are (edge_at edges place).0 place).1 (inside, refl));
  }
