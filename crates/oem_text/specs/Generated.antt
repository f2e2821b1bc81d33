-- The generated database: persons, each with an id, a name, an age and perhaps a boss, clubs of persons, and a ring of
-- links. Its objects have places: the root first, the persons from 1 on with their atoms, 10 clubs and 100 links.
use Rattle.std.specs.Prelude.{◌≡◌, ℕ, zero, suc, ◌+◌, ◌-◌, ◌*◌, ◌/◌, ◌%◌, ◌<◌, if◌then◌else◌, ◌==◌, nat_le}
use Rattle.std.specs.Prelude.{pos, List, [], ◌∷◌, ◌++◌, length, map, filter, flat_map, replicate, codes}
use Rattle.std.specs.Fmt.{decimal}
use Rattle.oem_text.specs.Types.{Refusal, Value, Complex, LABELS, NEXT_NUMBER}
use Rattle.oem_text.specs.Types.refusals
use Rattle.lore_base.specs.declared.values.Value.TheVariants.{Whole, Chars}
use Rattle.lore_base.specs.Walks.{oid_of}
use Rattle.oem_labels.specs.Labels.{first_uses}
use Rattle.oem_text.specs.Literals.{numbered}
use Rattle.oem_text.specs.Layouts.{PlacedArc, LaidOut, edges_from}
use Rattle.oem_text.specs.declared.parts.Part.{Part}

-- so many numbers, from this one on
abbrev pub numbers_from : (first count : ℕ) → List ℕ
numbers_from first zero = []
numbers_from first (suc count) = first ∷ numbers_from (first + 1) count

-- Objects.

-- the number that is drawn after this one, and the one that is drawn i-th from the seed on
abbrev pub drawn_after : ℕ → ℕ
drawn_after number = (1103515245 * number + 12345) % 2147483648

abbrev pub drawn : (seed i : ℕ) → ℕ
drawn seed zero = seed
drawn seed (suc i) = drawn_after (drawn seed i)

-- the age that a number stands for, and an age as a value: a text for each seventh person
abbrev pub age_from : ℕ → ℕ
age_from number = 18 + (number / 65536) % 60

abbrev pub age_value : (i age : ℕ) → Value
age_value i age = if i % 7 == 0 then Chars (decimal age) else Whole (pos age)

-- person i, its id, its name and its age
abbrev pub values_of_person : (i age : ℕ) → List Value
values_of_person i age = Complex ∷ Whole (pos i) ∷ Chars (codes "p" ++ decimal i) ∷ age_value i age ∷ []

abbrev pub person_values : (seed i : ℕ) → List Value
person_values seed i = values_of_person i (age_from (drawn seed i))

-- the root, the persons, the clubs and the links
abbrev pub generated_values : (seed count : ℕ) → List Value
generated_values seed count =
    Complex ∷ (flat_map (person_values seed) (numbers_from 1 count) ++ replicate 110 Complex)

-- the places of person i, from 1 on, of club c and of link j, from 0 on
abbrev pub person_place : ℕ → ℕ
person_place i = 4 * i - 3

abbrev pub club_place : (count c : ℕ) → ℕ
club_place count c = 4 * count + 1 + c

abbrev pub link_place : (count j : ℕ) → ℕ
link_place count j = 4 * count + 11 + j

-- Edges.

abbrev pub arc_between : ℕ → List ℕ → ℕ → PlacedArc
arc_between parent label child = record { parent = parent; label = label; child = child }

-- the edge from the root to person i
abbrev pub person_arc : ℕ → PlacedArc
person_arc i = arc_between 0 (codes "person") (person_place i)

-- its boss: the person with half its number
abbrev pub boss_arcs : ℕ → List PlacedArc
boss_arcs i = if nat_le 2 i then (arc_between (person_place i) (codes "boss") (person_place (i / 2)) ∷ []) else []

-- its atoms and its boss
abbrev pub arcs_of_person : ℕ → List PlacedArc
arcs_of_person i =
    arc_between (person_place i) (codes "id") (person_place i + 1)
    ∷ arc_between (person_place i) (codes "name") (person_place i + 2)
    ∷ arc_between (person_place i) (codes "age") (person_place i + 3)
    ∷ boss_arcs i

-- the edge from the root to club c
abbrev pub club_arc : (count c : ℕ) → PlacedArc
club_arc count c = arc_between 0 (codes "club") (club_place count c)

-- its members, the persons whose numbers end in the digit c, and its leader
abbrev pub club_members : (count c : ℕ) → List ℕ
club_members count c = filter (λ i. i % 10 == c) (numbers_from 1 count)

abbrev pub member_arc : (count c i : ℕ) → PlacedArc
member_arc count c i = arc_between (club_place count c) (codes "member") (person_place i)

abbrev pub leader_arc : (count c : ℕ) → PlacedArc
leader_arc count c = arc_between (club_place count c) (codes "leader") (person_place (10 + c))

abbrev pub arcs_of_club : (count c : ℕ) → List PlacedArc
arcs_of_club count c = map (member_arc count c) (club_members count c) ++ leader_arc count c ∷ []

-- the ring of the root, and the link behind link j
abbrev pub ring_arc : (count : ℕ) → PlacedArc
ring_arc count = arc_between 0 (codes "ring") (link_place count 0)

abbrev pub next_arc : (count j : ℕ) → PlacedArc
next_arc count j = arc_between (link_place count j) (codes "next") (link_place count ((j + 1) % 100))

-- all edges: those that leave the root, then persons, clubs and links
abbrev pub generated_arcs : (count : ℕ) → List PlacedArc
generated_arcs count =
    map person_arc (numbers_from 1 count)
    ++ (map (club_arc count) (numbers_from 0 10)
    ++ (ring_arc count ∷ (flat_map arcs_of_person (numbers_from 1 count)
    ++ (flat_map (arcs_of_club count) (numbers_from 0 10)
    ++ map (next_arc count) (numbers_from 0 100)))))

-- The part.

-- the labels, in the order in which new ones are numbered: as the text of such a load would use them first
abbrev pub generated_labels : List (List ℕ)
generated_labels =
    codes "person" ∷ codes "id" ∷ codes "name" ∷ codes "age" ∷ codes "boss" ∷ codes "club" ∷ codes "member"
    ∷ codes "leader" ∷ codes "ring" ∷ codes "next" ∷ []

-- so many persons by this seed, laid out
abbrev pub generated_layout : (seed count : ℕ) → LaidOut
generated_layout seed count = record {
  values = generated_values seed count;
  arcs = generated_arcs count;
}

-- the part is that, numbered from `next` on, with the labels that this table lacks
pub record IsGenerated (table : List (List ℕ)) (next seed count : ℕ) (part : Part) : Type 0 where
  pub made : part.made ≡ numbered next (generated_values seed count)
  pub added : part.added ≡ edges_from next (table ++ part.labels) (generated_layout seed count)
  pub labels : part.labels ≡ first_uses table generated_labels
  pub root : part.root ≡ oid_of next

-- the causes of refusals, and the order in which they are tried; there are four objects for each person, and 111
abbrev pub GeneratedCause : List (List ℕ) → (next count : ℕ) → Refusal → Type 0
GeneratedCause table next count refusals.OidsSpent = NEXT_NUMBER < next + (4 * count + 111)
GeneratedCause table next count refusals.TooManyLabels =
    LABELS < length table + length (first_uses table generated_labels)
GeneratedCause table next count _ = ⊥

abbrev pub generated_order : List Refusal
generated_order = refusals.OidsSpent ∷ refusals.TooManyLabels ∷ []
