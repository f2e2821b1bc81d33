-- Edges of generated objects behind others, with one more of them or those of one more person or club.
use Rattle.std.proofs.Common.{◌≡◌, ℕ, ◌+◌, ◌%◌, ◌<◌, ◌≤◌, List, [], ◌∷◌, ◌++◌, map, flat_map, get_or, refl, sym, ap, ◌∙◌, append_assoc}
use Rattle.std.proofs.lemmas.List.{map-append, get_or-map}
use Rattle.oem_text.specs.Types.{Label, Edge}
use Rattle.oem_labels.specs.Labels.{label_in}
use Rattle.oem_text.specs.Layouts.{PlacedArc, edge_from}
use Rattle.oem_text.specs.Generated.{numbers_from, person_arc, arcs_of_person, club_arc, club_members, member_arc, leader_arc, arcs_of_club, ring_arc, next_arc, generated_arcs, generated_labels}
use Rattle.oem_text.proofs.GeneratedObjectLaws.{map_longer, flat_longer}
use Rattle.oem_text.proofs.GeneratedClubs.{members_from, members_next}
use Rattle.oem_text.proofs.LaidLaws.{edge_own}

-- the label of the text with this number
pub label_at : (table : List (List ℕ)) (labels : List Label) (i : ℕ) (default : Label) → labels ≡ map (label_in table) generated_labels → i < 10
    → get_or labels i default ≡ label_in table (get_or generated_labels i [])
label_at table labels i default same low =
    ap (λ (l : List Label). get_or l i default) same ∙ get_or-map (label_in table) generated_labels i [] default low

-- edges behind others, and some more of them
edges_longer : (next : ℕ) (table : List (List ℕ)) (old before after more : List Edge) (arcs others : List PlacedArc)
    → before ≡ old ++ map (edge_from next table) arcs → more ≡ map (edge_from next table) others → after ≡ before ++ more
    → after ≡ old ++ map (edge_from next table) (arcs ++ others)
edges_longer next table old before after more arcs others is here step =
    step ∙ ap (λ (l : List Edge). before ++ l) here
    ∙ ap (λ (l : List Edge). l ++ map (edge_from next table) others) is
    ∙ append_assoc old (map (edge_from next table) arcs) (map (edge_from next table) others)
    ∙ ap (λ (l : List Edge). old ++ l) (sym (map-append (edge_from next table) arcs others))

-- one more
pub edge_more : (f : ℕ → PlacedArc) (next : ℕ) (table : List (List ℕ)) (old before after : List Edge) (first count : ℕ) (edge : Edge)
    → before ≡ old ++ map (edge_from next table) (map f (numbers_from first count))
    → edge.parent.0 ≡ next + (f (first + count)).parent → edge.label ≡ label_in table (f (first + count)).label
    → edge.child.0 ≡ next + (f (first + count)).child → after ≡ before ++ edge ∷ []
    → after ≡ old ++ map (edge_from next table) (map f (numbers_from first (count + 1)))
edge_more f next table old before after first count edge is parent label child step =
    let arc = f (first + count) in
    edges_longer next table old before after (edge ∷ []) (map f (numbers_from first count)) (arc ∷ []) is
    (ap (λ (e : Edge). e ∷ []) (edge_own edge next table arc parent label child)) step
    ∙ ap (λ (l : List PlacedArc). old ++ map (edge_from next table) l) (sym (map_longer f first count))

-- those of one more person or club
pub arcs_more : (f : ℕ → List PlacedArc) (next : ℕ) (table : List (List ℕ)) (old before after : List Edge) (first count : ℕ)
    → before ≡ old ++ map (edge_from next table) (flat_map f (numbers_from first count))
    → after ≡ before ++ map (edge_from next table) (f (first + count))
    → after ≡ old ++ map (edge_from next table) (flat_map f (numbers_from first (count + 1)))
arcs_more f next table old before after first count is step =
    edges_longer next table old before after (map (edge_from next table) (f (first + count))) (flat_map f (numbers_from first count))
    (f (first + count)) is refl step
    ∙ ap (λ (l : List PlacedArc). old ++ map (edge_from next table) l) (sym (flat_longer f first count))

-- the edge of a club to a member, where those from this member on are left
pub member_more : (next : ℕ) (table : List (List ℕ)) (before after all : List Edge) (count c i : ℕ) (edge : Edge) → i % 10 ≡ c → i ≤ count
    → before ++ map (edge_from next table) (map (member_arc count c) (members_from count c i)) ≡ all
    → edge ≡ edge_from next table (member_arc count c i) → after ≡ before ++ edge ∷ []
    → after ++ map (edge_from next table) (map (member_arc count c) (members_from count c (i + 10))) ≡ all
member_more next table before after all count c i edge digit low is own step =
    let of : List ℕ → List Edge = λ (l : List ℕ). map (edge_from next table) (map (member_arc count c) l) in
    let left = members_from count c (i + 10) in
    ap (λ (l : List Edge). l ++ of left) step ∙ append_assoc before (edge ∷ []) (of left)
    ∙ ap (λ (e : Edge). before ++ e ∷ of left) own
    ∙ ap (λ (l : List ℕ). before ++ of l) (sym (members_next count c i digit low)) ∙ is

-- the edges of a club, its leader last
pub club_edges : (next : ℕ) (table : List (List ℕ)) (old members after : List Edge) (count c : ℕ) (edge : Edge)
    → members ≡ old ++ map (edge_from next table) (map (member_arc count c) (club_members count c))
    → edge ≡ edge_from next table (leader_arc count c) → after ≡ members ++ edge ∷ []
    → after ≡ old ++ map (edge_from next table) (arcs_of_club count c)
club_edges next table old members after count c edge is own step =
    edges_longer next table old members after (edge ∷ []) (map (member_arc count c) (club_members count c)) (leader_arc count c ∷ []) is
    (ap (λ (e : Edge). e ∷ []) own) step

-- ---- all of them
nested : {X : Type 0} (a b : List X) (x : X) (c d e : List X) → ((((a ++ b) ++ x ∷ []) ++ c) ++ d) ++ e ≡ a ++ (b ++ (x ∷ (c ++ (d ++ e))))
nested a b x c d e =
    append_assoc (((a ++ b) ++ x ∷ []) ++ c) d e ∙ append_assoc ((a ++ b) ++ x ∷ []) c (d ++ e)
    ∙ append_assoc (a ++ b) (x ∷ []) (c ++ (d ++ e)) ∙ append_assoc a b (x ∷ (c ++ (d ++ e)))

pub edges_all : (next count : ℕ) (table : List (List ℕ)) (none persons clubs ring own members all : List Edge) (edge : Edge) → none ≡ []
    → persons ≡ none ++ map (edge_from next table) (map person_arc (numbers_from 1 count))
    → clubs ≡ persons ++ map (edge_from next table) (map (club_arc count) (numbers_from 0 10))
    → edge ≡ edge_from next table (ring_arc count) → ring ≡ clubs ++ edge ∷ []
    → own ≡ ring ++ map (edge_from next table) (flat_map arcs_of_person (numbers_from 1 count))
    → members ≡ own ++ map (edge_from next table) (flat_map (arcs_of_club count) (numbers_from 0 10))
    → all ≡ members ++ map (edge_from next table) (map (next_arc count) (numbers_from 0 100))
    → all ≡ map (edge_from next table) (generated_arcs count)
edges_all next count table none persons clubs ring own members all edge empty first second is third fourth fifth sixth =
    let of : List PlacedArc → List Edge = λ (l : List PlacedArc). map (edge_from next table) l in
    let a = map person_arc (numbers_from 1 count) in
    let b = map (club_arc count) (numbers_from 0 10) in
    let x = ring_arc count in
    let c = flat_map arcs_of_person (numbers_from 1 count) in
    let d = flat_map (arcs_of_club count) (numbers_from 0 10) in
    let e = map (next_arc count) (numbers_from 0 100) in
    let one : persons ≡ [] ++ of a = first ∙ ap (λ (l : List Edge). l ++ of a) empty in
    let two = edges_longer next table [] persons clubs (of b) a b one refl second in
    let three = edges_longer next table [] clubs ring (edge ∷ []) (a ++ b) (x ∷ []) two (ap (λ (e : Edge). e ∷ []) is) third in
    let four = edges_longer next table [] ring own (of c) ((a ++ b) ++ x ∷ []) c three refl fourth in
    let five = edges_longer next table [] own members (of d) (((a ++ b) ++ x ∷ []) ++ c) d four refl fifth in
    let six = edges_longer next table [] members all (of e) ((((a ++ b) ++ x ∷ []) ++ c) ++ d) e five refl sixth in
    six ∙ ap of (nested a b x c d e)
