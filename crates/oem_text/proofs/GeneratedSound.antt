-- The generated layout is sound: its root and the parents of its edges are complex, its edges lead to places of objects,
-- and its labels are those of a list. Then its objects and edges, once numbered, belong together.
use Rattle.std.proofs.Common.{◌≡◌, ℕ, ◌+◌, ◌*◌, ◌/◌, ◌%◌, ◌<◌, ◌≤◌, ◌==◌, nat_le, true, false, if◌then◌else◌, List, [], ◌∷◌, ◌++◌, length, map, get_or, Some, slice_get, All, Contains, refl, subst, arith}
use Rattle.std.specs.Prelude.{codes}
use Rattle.std.specs.List.{flat_map}
use Rattle.std.proofs.Math.Nat.{div-le_self}
use Rattle.std.proofs.lemmas.List.Elements.{All-nil, All-cons, All-append, All-map, All-weaker, All-contains, All-contains_itself, All-filter, All-from_recursion, recursion_from_All}
use Rattle.std.proofs.lemmas.Nat.{mod_below}
use Rattle.std.proofs.lemmas.Option.{slice_get_within}
use Rattle.lore_base.specs.Names.{IsLabel}
use Rattle.lore_base.specs.Walks.{oid_of}
use Rattle.lore_base.specs.Databases.{IsLive, IsSized, IsLinked}
use Rattle.oem_labels.proofs.PlaceLaws.{place_in-below}
use Rattle.oem_text.proofs.NumberedLaws.{numbered_at, numbered_live, numbered_sized}
use Rattle.oem_labels.specs.Labels.{place_in}
use Rattle.oem_text.specs.Types.{Edge, Value, Complex}
use Rattle.oem_text.specs.Literals.{numbered}
use Rattle.oem_text.specs.Layouts.{PlacedArc, LaidOut, edge_from, edges_from}
use Rattle.oem_text.specs.Generated.{numbers_from, generated_values, person_place, club_place, link_place, arc_between, boss_arcs, person_arc, arcs_of_person, club_arc, club_members, member_arc, leader_arc, arcs_of_club, ring_arc, next_arc, generated_arcs, generated_labels, generated_layout}
use Rattle.oem_text.proofs.GeneratedPlaces.{All-numbers_from, All-flat_map, generated_length, person_at, club_at, link_at, generated_sized}

-- the root is complex, and so is each parent; values have their forms, edges lead to objects, and labels are in the list
pub record IsSoundLayout (laid : LaidOut) : Type 0 where
  pub root : slice_get laid.values 0 ≡ Some Complex
  pub sized : All IsSized laid.values
  pub parents : All (λ arc. slice_get laid.values arc.parent ≡ Some Complex) laid.arcs
  pub children : All (λ arc. arc.child < length laid.values) laid.arcs
  pub labels : All (λ arc. Contains generated_labels arc.label) laid.arcs

-- an edge alone
record IsSoundArc (values : List Value) (arc : PlacedArc) : Type 0 where
  parent : slice_get values arc.parent ≡ Some Complex
  child : arc.child < length values
  label : Contains generated_labels arc.label

-- ---- labels
pub labels_formed : All IsLabel generated_labels
labels_formed = All-from_recursion IsLabel generated_labels (omega arith)

known : (place : ℕ) → place < 10 → Contains generated_labels (get_or generated_labels place [])
known place low = All-contains_itself generated_labels place [] low

-- ---- edges
module _ (seed count : ℕ) (enough : 20 ≤ count) where
  abbrev values : List Value
  values = generated_values seed count

  abbrev IsSound : PlacedArc → Type 0
  IsSound arc = IsSoundArc values arc

  long : length values ≡ 4 * count + 111
  long = generated_length seed count

  -- an edge that leads to a person
  person_below : (i : ℕ) → i ≤ count → person_place i < length values
  person_below i low = omega (arith, low, long)

  boss_sound : (i : ℕ) → 1 ≤ i → i ≤ count → All IsSound (boss_arcs i)
  boss_sound i first low =
      let boss = arc_between (person_place i) (codes "boss") (person_place (i / 2)) in
      let half = div-le_self i 2 in
      elim (nat_le 2 i) as (λ b. All IsSound (if b then (boss ∷ []) else [])) [
        | true ↦ All-from_recursion IsSound (boss ∷ []) (
          record {
            parent = person_at seed count i first low;
            child = person_below (i / 2) (omega (arith, half, low));
            label = known 4 (omega arith);
          },
          tt,
        )
        | false ↦ All-nil IsSound
      ]

  person_sound : (i : ℕ) → i ≤ count → IsSound (person_arc i)
  person_sound i low = record { parent = refl; child = person_below i low; label = known 0 (omega arith) }

  own_sound : (i : ℕ) → 1 ≤ i → i ≤ count → All IsSound (arcs_of_person i)
  own_sound i first low =
      let here = person_at seed count i first low in
      All-from_recursion IsSound (arcs_of_person i) (
        record { parent = here; child = omega (arith, low, long); label = known 1 (omega arith) },
        (
          record { parent = here; child = omega (arith, low, long); label = known 2 (omega arith) },
          (
            record { parent = here; child = omega (arith, low, long); label = known 3 (omega arith) },
            recursion_from_All IsSound (boss_arcs i) (boss_sound i first low),
          ),
        ),
      )

  club_sound : (c : ℕ) → c < 10 → IsSound (club_arc count c)
  club_sound c low = record { parent = refl; child = slice_get_within values (club_place count c) Complex (club_at seed count c low); label = known 5 (omega arith) }

  member_sound : (c i : ℕ) → c < 10 → i ≤ count → IsSound (member_arc count c i)
  member_sound c i digit low = record {
    parent = club_at seed count c digit;
    child = person_below i low;
    label = known 6 (omega arith);
  }

  leader_sound : (c : ℕ) → c < 10 → IsSound (leader_arc count c)
  leader_sound c low = record {
    parent = club_at seed count c low;
    child = person_below (10 + c) (omega (arith, low, enough));
    label = known 7 (omega arith);
  }

  arcs_of_club_sound : (c : ℕ) → c < 10 → All IsSound (arcs_of_club count c)
  arcs_of_club_sound c digit =
      let sound : ℕ → Type 0 = λ i. IsSound (member_arc count c i) in
      let each = All-numbers_from sound 1 count (λ i first below. member_sound c i digit (omega (arith, below))) in
      All-append IsSound (map (member_arc count c) (club_members count c)) (leader_arc count c ∷ [])
      (All-map IsSound (member_arc count c) (club_members count c) (All-filter (λ (i : ℕ). i % 10 == c) sound (numbers_from 1 count) each))
      (All-cons IsSound (leader_arc count c) [] (leader_sound c digit) (All-nil IsSound))

  ring_sound : IsSound (ring_arc count)
  ring_sound = record {
    parent = refl;
    child = slice_get_within values (link_place count 0) Complex (link_at seed count 0 (omega arith));
    label = known 8 (omega arith);
  }

  next_sound : (j : ℕ) → j < 100 → IsSound (next_arc count j)
  next_sound j low =
      let next = (j + 1) % 100 in
      record {
        parent = link_at seed count j low;
        child = slice_get_within values (link_place count next) Complex (link_at seed count next (mod_below (j + 1) 100 (omega arith)));
        label = known 9 (omega arith);
      }

  mapped_sound : (arc : ℕ → PlacedArc) (first many : ℕ) → ((i : ℕ) → first ≤ i → i < first + many → IsSound (arc i))
      → All IsSound (map arc (numbers_from first many))
  mapped_sound arc first many each =
      All-map IsSound arc (numbers_from first many) (All-numbers_from (λ i. IsSound (arc i)) first many each)

  arcs_sound : All IsSound (generated_arcs count)
  arcs_sound =
      let people = map person_arc (numbers_from 1 count) in
      let clubs = map (club_arc count) (numbers_from 0 10) in
      let own = flat_map arcs_of_person (numbers_from 1 count) in
      let members = flat_map (arcs_of_club count) (numbers_from 0 10) in
      let links = map (next_arc count) (numbers_from 0 100) in
      All-append IsSound people (clubs ++ (ring_arc count ∷ (own ++ (members ++ links))))
      (mapped_sound person_arc 1 count (λ i first below. person_sound i (omega (arith, below))))
      (All-append IsSound clubs (ring_arc count ∷ (own ++ (members ++ links)))
      (mapped_sound (club_arc count) 0 10 (λ c first below. club_sound c (omega (arith, below))))
      (All-cons IsSound (ring_arc count) (own ++ (members ++ links)) ring_sound
      (All-append IsSound own (members ++ links)
      (All-flat_map IsSound arcs_of_person (numbers_from 1 count)
      (All-numbers_from (λ i. All IsSound (arcs_of_person i)) 1 count (λ i first below. own_sound i first (omega (arith, below)))))
      (All-append IsSound members links
      (All-flat_map IsSound (arcs_of_club count) (numbers_from 0 10)
      (All-numbers_from (λ c. All IsSound (arcs_of_club count c)) 0 10 (λ c first below. arcs_of_club_sound c (omega (arith, below)))))
      (mapped_sound (next_arc count) 0 100 (λ j first below. next_sound j (omega (arith, below))))))))

pub generated_sound : (seed count : ℕ) → 20 ≤ count → count ≤ 10000 → IsSoundLayout (generated_layout seed count)
generated_sound seed count enough most =
    let values = generated_values seed count in
    let arcs = generated_arcs count in
    let sound = arcs_sound seed count enough in
    record {
      root = refl;
      sized = generated_sized seed count most;
      parents = All-weaker (IsSoundArc values) (λ (arc : PlacedArc). slice_get values arc.parent ≡ Some Complex) (λ arc one. one.parent) arcs sound;
      children = All-weaker (IsSoundArc values) (λ (arc : PlacedArc). arc.child < length values) (λ arc one. one.child) arcs sound;
      labels = All-weaker (IsSoundArc values) (λ (arc : PlacedArc). Contains generated_labels arc.label) (λ arc one. one.label) arcs sound;
    }

-- ---- a layout numbered
-- the objects and edges, numbered from `next` on with the labels of this table, belong together
pub record IsSoundPart (table : List (List ℕ)) (next : ℕ) (laid : LaidOut) : Type 0 where
  pub linked : All (IsLinked (numbered next laid.values)) (edges_from next table laid)
  pub labelled : All (λ edge. edge.label.0 < length table) (edges_from next table laid)
  pub root : IsLive (numbered next laid.values) (oid_of next)
  pub sized : All (λ object. IsSized object.1) (numbered next laid.values)

pub numbered_linked : (next : ℕ) (table : List (List ℕ)) (laid : LaidOut) → All (Contains table) generated_labels → IsSoundLayout laid
    → IsSoundPart table next laid
numbered_linked next table laid there sound =
    let objects = numbered next laid.values in
    let same : next + 0 ≡ next = omega arith in
    record {
      linked = All-map (IsLinked objects) (edge_from next table) laid.arcs (λ k d low. (
          let arc = get_or laid.arcs k d in
          record {
            parent = numbered_at next laid.values arc.parent Complex (sound.parents k d low);
            child = numbered_live next laid.values arc.child (sound.children k d low);
          }));
      labelled = All-map (λ (edge : Edge). edge.label.0 < length table) (edge_from next table) laid.arcs
          (All-weaker (λ (arc : PlacedArc). Contains generated_labels arc.label) (λ (arc : PlacedArc). place_in table arc.label < length table)
          (λ arc known. place_in-below table arc.label (All-contains (Contains table) generated_labels arc.label there known)) laid.arcs sound.labels);
      root = subst (λ n. IsLive objects (oid_of n)) same (numbered_live next laid.values 0 (slice_get_within laid.values 0 Complex sound.root));
      sized = numbered_sized next laid.values sound.sized;
    }
