-- Objects belong together exactly where their places do: bisimulations of places are those of objects.
use Rattle.std.proofs.Common.{◌≡◌, ◌↔◌, ◌⊎◌, ℕ, ◌+◌, ◌<◌, inl, inr, Some, List, [], map, length, get_or, sym, ap, ◌∙◌, subst, arith}
use Rattle.std.specs.List.{Contains, slice_get}
use Rattle.std.specs.Prelude.{slice_index, slice_index_or}
use Rattle.std.proofs.lemmas.List.{get_or_default}
use Rattle.std.proofs.lemmas.List.Elements.{Contains-get_or}
use Rattle.std.proofs.lemmas.Option.{same_Some, slice_get_within, slice_get-get_or, get_or_from_slice_get}
use Rattle.lore_base.specs.Walks.{edge_of, oid_of}
use Rattle.list_laws.proofs.MemberLaws.{Contains-map, Contains-from_map}
use Rattle.list_laws.proofs.PlaceLaws.{Contains-from_place, place_of_member}
use Rattle.list_laws.proofs.ZipLaws.{AllZip-place}
use Rattle.block_rounds.specs.Partitions.{Rows, Enters, AreWithin, IsBisimulation, AreBisimilar, AreBlocks}
use Rattle.one_index.specs.Types.{Oid, Label, Edge}
use Rattle.one_index.specs.Blocks.{NamedGraph, IsSound, HaveSameNames, IsBackward, BelongTogether}
use Rattle.one_index.specs.inside.Rows.{label_of, IsRow, AreRows}
use Rattle.one_index.specs.inside.Kinds.{AreKinds}
use Rattle.one_index.specs.inside.Parted.{AreSameEdges, IsParted}
use Rattle.one_index.proofs.PlaceLaws.{place_once, position, position_at, position_is}
use Rattle.one_index.proofs.RowLaws.{AllZip-long}

-- ---- rows by their places
module _ (links : List Edge) (objects : List Oid) (rows : Rows) (are : AreRows links objects objects rows) where
  pub rows_every : length rows ≡ length objects
  rows_every = AllZip-long (IsRow links objects) objects rows are

  pub row_at : (x : ℕ) (oid : Oid) → slice_get objects x ≡ Some oid → IsRow links objects oid (slice_index_or rows x [])
  row_at x oid at =
      let there = AllZip-place (IsRow links objects) objects rows x oid are at in
      subst (λ (row : List (ℕ × ℕ)). IsRow links objects oid row) (sym (get_or_from_slice_get rows x there.0 [] there.1))
      there.2

  pub rows_within : AreWithin rows
  rows_within k d below i e inside =
      let live : k < length objects = omega (arith, below, rows_every) in
      let oid : Oid = get_or objects k (oid_of 0) in
      let at : slice_get objects k ≡ Some oid = slice_get-get_or objects k (oid_of 0) live in
      let entry : ℕ × ℕ = get_or (get_or rows k d) i e in
      let held : Contains (get_or rows k d) entry = Contains-get_or (get_or rows k d) i e inside in
      let here : Contains (get_or rows k []) entry =
      subst (λ (row : List (ℕ × ℕ)). Contains row entry) (get_or_default rows k d [] below) held in
      let from = (row_at k oid at entry.0 entry.1).0 here in
      omega (arith, slice_get_within objects entry.1 from.0 from.1, rows_every)

module _ (graph : NamedGraph) (links : List Edge) (rows : Rows) (kinds : List ℕ) (named : List Oid)
    (sound : IsSound graph) (same : AreSameEdges links graph.edges)
    (are_rows : AreRows links graph.objects graph.objects rows) (are_kinds : AreKinds graph.objects named kinds)
    (named_is : named ≡ map (λ entry. entry.1) graph.names) where
  -- ---- edges by the places of their ends
  enters_from : (i j : ℕ) (parent child : Oid) (label : Label) → slice_get graph.objects i ≡ Some parent
      → slice_get graph.objects j ≡ Some child → Contains graph.edges (edge_of parent label child)
      → Enters rows i label.0 j
  enters_from i j parent child label i_at j_at edge =
      (row_at links graph.objects rows are_rows j child j_at label.0 i).1
      (parent, i_at, (same (edge_of parent label child)).1 edge)

  from_enters : (i j label : ℕ) (child : Oid) → slice_get graph.objects j ≡ Some child → Enters rows i label j
      → (parent : Oid) × (slice_get graph.objects i ≡ Some parent) × Contains graph.edges (edge_of parent (label_of label) child)
  from_enters i j label child j_at at =
      let from = (row_at links graph.objects rows are_rows j child j_at label i).0 at in
      (from.0, from.1, (same (edge_of from.0 (label_of label) child)).0 from.2)

  -- ---- kinds are names
  named_told : (oid : Oid) → Contains named oid → (name : List ℕ) × Contains graph.names (name, oid)
  named_told oid at =
      let from = Contains-from_map (λ (entry : List ℕ × Oid). entry.1) graph.names oid
      (subst (λ (l : List Oid). Contains l oid) named_is at) in
      (from.0.0, subst (λ (o : Oid). Contains graph.names (from.0.0, o)) from.2 from.1)

  told_named : (name : List ℕ) (oid : Oid) → Contains graph.names (name, oid) → Contains named oid
  told_named name oid at =
      subst (λ (l : List Oid). Contains l oid) (sym named_is)
      (Contains-map (λ (entry : List ℕ × Oid). entry.1) graph.names (name, oid) at)

  abbrev HasKind : ℕ → Oid → Type 0
  HasKind i x = (Contains named x × (slice_index kinds i ≡ i + 1)) ⊎ ((Contains named x → ⊥) × (slice_index kinds i ≡ 0))

  by_kinds : (i j : ℕ) (x y : Oid) → slice_get graph.objects i ≡ Some x → slice_get graph.objects j ≡ Some y
      → HasKind i x → HasKind j y → slice_index kinds i ≡ slice_index kinds j → HaveSameNames graph x y
  by_kinds i j x y i_at j_at (inl one) (inl other) alike =
      let here : i ≡ j = omega (arith, one.1, other.1, alike) in
      let is : x ≡ y = same_Some x y (sym i_at ∙ ap (slice_get graph.objects) here ∙ j_at) in
      λ name. (
        λ at. subst (λ (o : Oid). Contains graph.names (name, o)) is at,
        λ at. subst (λ (o : Oid). Contains graph.names (name, o)) (sym is) at,
      )
  by_kinds i j x y i_at j_at (inl one) (inr none) alike = absurd (omega (arith, one.1, none.1, alike))
  by_kinds i j x y i_at j_at (inr none) (inl other) alike = absurd (omega (arith, none.1, other.1, alike))
  by_kinds i j x y i_at j_at (inr none) (inr nothing) alike = λ name. (
    λ at. absurd (none.0 (told_named name x at)),
    λ at. absurd (nothing.0 (told_named name y at)),
  )

  by_names : (i j : ℕ) (x y : Oid) → slice_get graph.objects i ≡ Some x → slice_get graph.objects j ≡ Some y
      → HasKind i x → HasKind j y → HaveSameNames graph x y → slice_index kinds i ≡ slice_index kinds j
  by_names i j x y i_at j_at (inl one) other names =
      let name = named_told x one.0 in
      let is : x ≡ y = sound.one name.0 x y name.1 ((names name.0).0 name.1) in
      let here : i ≡ j = place_once graph.objects sound.ascend i j x i_at (j_at ∙ ap (λ (o : Oid). Some o) (sym is)) in
      ap (slice_index kinds) here
  by_names i j x y i_at j_at (inr none) (inl other) names =
      let name = named_told y other.0 in
      absurd (none.0 (told_named name.0 x ((names name.0).1 name.1)))
  by_names i j x y i_at j_at (inr none) (inr nothing) names = none.1 ∙ sym nothing.1

  kinds_tell : (i j : ℕ) (x y : Oid) → slice_get graph.objects i ≡ Some x → slice_get graph.objects j ≡ Some y
      → (slice_index kinds i ≡ slice_index kinds j) ↔ HaveSameNames graph x y
  kinds_tell i j x y i_at j_at = (
    by_kinds i j x y i_at j_at (are_kinds.either i x i_at) (are_kinds.either j y j_at),
    by_names i j x y i_at j_at (are_kinds.either i x i_at) (are_kinds.either j y j_at),
  )

  -- ---- from pairs of places to pairs of objects
  abbrev object_at : ℕ → Oid
  object_at place = get_or graph.objects place (oid_of 0)

  abbrev seen : ℕ × ℕ → Oid × Oid
  seen pair = (object_at pair.0, object_at pair.1)

  record IsSeen (pairs : List (ℕ × ℕ)) (x y : Oid) : Type 0 where
    i : ℕ
    j : ℕ
    pair : Contains pairs (i, j)
    i_at : slice_get graph.objects i ≡ Some x
    j_at : slice_get graph.objects j ≡ Some y

  live_at : (place : ℕ) → place < length rows → slice_get graph.objects place ≡ Some (object_at place)
  live_at place live =
      slice_get-get_or graph.objects place (oid_of 0) (omega (arith, live, rows_every links graph.objects rows are_rows))

  seen_of : (pairs : List (ℕ × ℕ)) → IsBisimulation rows kinds pairs → (x y : Oid) → Contains (map seen pairs) (x, y)
      → IsSeen pairs x y
  seen_of pairs dense x y at =
      let from = Contains-from_map seen pairs (x, y) at in
      let live = dense.live from.0.0 from.0.1 from.1 in
      record {
        i = from.0.0;
        j = from.0.1;
        pair = from.1;
        i_at = live_at from.0.0 live.0 ∙ ap (λ (p : Oid × Oid). Some p.0) from.2;
        j_at = live_at from.0.1 live.1 ∙ ap (λ (p : Oid × Oid). Some p.1) from.2;
      }

  seen_at : (pairs : List (ℕ × ℕ)) (i j : ℕ) (x y : Oid) → Contains pairs (i, j) → slice_get graph.objects i ≡ Some x
      → slice_get graph.objects j ≡ Some y → Contains (map seen pairs) (x, y)
  seen_at pairs i j x y pair i_at j_at =
      let first : object_at i ≡ x = get_or_from_slice_get graph.objects i x (oid_of 0) i_at in
      let second : object_at j ≡ y = get_or_from_slice_get graph.objects j y (oid_of 0) j_at in
      let is : seen (i, j) ≡ (x, y) = λ t. (first t, second t) in
      subst (λ (p : Oid × Oid). Contains (map seen pairs) p) is (Contains-map seen pairs (i, j) pair)

  IsBackward-seen : (pairs : List (ℕ × ℕ)) → IsBisimulation rows kinds pairs → IsBackward graph (map seen pairs)
  IsBackward-seen pairs dense = record {
    live = λ x y at.
        let from = seen_of pairs dense x y at in
        (Contains-from_place graph.objects from.i x from.i_at, Contains-from_place graph.objects from.j y from.j_at);
    symmetric = λ x y at.
        let from = seen_of pairs dense x y at in
        seen_at pairs from.j from.i y x (dense.symmetric from.i from.j from.pair) from.j_at from.i_at;
    named = λ x y at.
        let from = seen_of pairs dense x y at in
        (kinds_tell from.i from.j x y from.i_at from.j_at).0 (dense.alike from.i from.j from.pair);
    entered = λ x y parent label at edge.
        let from = seen_of pairs dense x y at in
        let place = place_of_member graph.objects parent (sound.linked (edge_of parent label x) edge).0 in
        let step = dense.entered from.i from.j place.0 label.0 from.pair
        (enters_from place.0 from.i parent x label place.1 from.i_at edge) in
        let other = from_enters step.0 from.j label.0 y from.j_at step.1 in
        (other.0, other.2, seen_at pairs place.0 step.0 parent other.0 step.2 place.1 other.1);
  }

  -- ---- from pairs of objects to pairs of places
  abbrev placed : Oid × Oid → ℕ × ℕ
  placed pair = (position graph.objects pair.0, position graph.objects pair.1)

  record IsPlaced (pairs : List (Oid × Oid)) (i j : ℕ) : Type 0 where
    x : Oid
    y : Oid
    pair : Contains pairs (x, y)
    x_at : slice_get graph.objects i ≡ Some x
    y_at : slice_get graph.objects j ≡ Some y

  placed_of : (pairs : List (Oid × Oid)) → IsBackward graph pairs → (i j : ℕ) → Contains (map placed pairs) (i, j)
      → IsPlaced pairs i j
  placed_of pairs backward i j at =
      let from = Contains-from_map placed pairs (i, j) at in
      let live = backward.live from.0.0 from.0.1 from.1 in
      record {
        x = from.0.0;
        y = from.0.1;
        pair = from.1;
        x_at = ap (λ (p : ℕ × ℕ). slice_get graph.objects p.0) (sym from.2) ∙ position_at graph.objects from.0.0 live.0;
        y_at = ap (λ (p : ℕ × ℕ). slice_get graph.objects p.1) (sym from.2) ∙ position_at graph.objects from.0.1 live.1;
      }

  placed_at : (pairs : List (Oid × Oid)) (x y : Oid) (i j : ℕ) → Contains pairs (x, y) → slice_get graph.objects i ≡ Some x
      → slice_get graph.objects j ≡ Some y → Contains (map placed pairs) (i, j)
  placed_at pairs x y i j pair x_at y_at =
      let first : position graph.objects x ≡ i = position_is graph.objects sound.ascend i x x_at in
      let second : position graph.objects y ≡ j = position_is graph.objects sound.ascend j y y_at in
      let is : placed (x, y) ≡ (i, j) = λ t. (first t, second t) in
      subst (λ (p : ℕ × ℕ). Contains (map placed pairs) p) is (Contains-map placed pairs (x, y) pair)

  live_place : (i : ℕ) (x : Oid) → slice_get graph.objects i ≡ Some x → i < length rows
  live_place i x at = omega (arith, slice_get_within graph.objects i x at, rows_every links graph.objects rows are_rows)

  IsBisimulation-placed : (pairs : List (Oid × Oid)) → IsBackward graph pairs → IsBisimulation rows kinds (map placed pairs)
  IsBisimulation-placed pairs backward = record {
    live = λ i j at. let from = placed_of pairs backward i j at in (live_place i from.x from.x_at, live_place j from.y from.y_at);
    symmetric = λ i j at.
        let from = placed_of pairs backward i j at in
        placed_at pairs from.y from.x j i (backward.symmetric from.x from.y from.pair) from.y_at from.x_at;
    alike = λ i j at.
        let from = placed_of pairs backward i j at in
        (kinds_tell i j from.x from.y from.x_at from.y_at).1 (backward.named from.x from.y from.pair);
    entered = λ i j parent label at enters.
        let from = placed_of pairs backward i j at in
        let edge = from_enters parent i label from.x from.x_at enters in
        let step = backward.entered from.x from.y edge.0 (label_of label) from.pair edge.2 in
        let place = place_of_member graph.objects step.0 (backward.live edge.0 step.0 step.2).1 in (
          place.0,
          enters_from place.0 j step.0 from.y (label_of label) place.1 from.y_at step.1,
          placed_at pairs edge.0 step.0 parent place.0 step.2 edge.1 place.1,
        );
  }

  -- ---- so the same objects belong together
  together_told : (i j : ℕ) (x y : Oid) → slice_get graph.objects i ≡ Some x → slice_get graph.objects j ≡ Some y
      → AreBisimilar rows kinds i j ↔ BelongTogether graph x y
  together_told i j x y i_at j_at = (
    λ alike. elim alike [
      | inl one ↦ inl (same_Some x y (sym i_at ∙ ap (slice_get graph.objects) one ∙ j_at))
      | inr held ↦ inr (map seen held.0, IsBackward-seen held.0 held.1, seen_at held.0 i j x y held.2 i_at j_at)
    ],
    λ together. elim together [
      | inl one ↦ inl (place_once graph.objects sound.ascend i j x i_at (j_at ∙ ap (λ (o : Oid). Some o) (sym one)))
      | inr held ↦ inr (map placed held.0, IsBisimulation-placed held.0 held.1, placed_at held.0 x y i j held.2 i_at j_at)
    ],
  )

  pub IsParted-told : (numbers : List ℕ) → AreBlocks rows kinds numbers → IsParted graph numbers
  IsParted-told numbers are i j x y i_at j_at =
      let told = together_told i j x y i_at j_at in
      let belong = are i j (live_place i x i_at) (live_place j y j_at) in
      (λ one. told.0 (belong.0 one), λ together. belong.1 (told.1 together))
