-- Copies that are stamped from edges between places are those of the literal: the same objects, and the same edges.
use Rattle.std.proofs.Common.{◌≡◌, ◌≢◌, ◌⊎◌, ◌↔◌, ℕ, zero, suc, ◌+◌, ◌*◌, ◌<◌, ◌≤◌, List, [], ◌∷◌, ◌++◌, length, map, length-append, Contains, All, AllPairs, refl, sym, ap, subst, inl, inr, ◌∙◌, arith}
use Rattle.std.proofs.lemmas.List.{length-map}
use Rattle.std.proofs.lemmas.List.Elements.{Contains-append_left, Contains-append_right, Contains-append_cases, All-contains}
use Rattle.lore_base.proofs.MemberLaws.{Contains-none, Contains-head, Contains-tail, Contains-cases}
use Rattle.list_laws.proofs.PartLaws.{map-map}
use Rattle.list_laws.proofs.MemberLaws.{Contains-from_map, Contains-map}
use Rattle.oem_text.proofs.NumberedLaws.{length-numbered}
use Rattle.lore_base.specs.Walks.{oid_of, edge_of}
use Rattle.lorel_trees.specs.Trees.{LiteralTree}
use Rattle.oem_labels.specs.Labels.{label_in}
use Rattle.oem_text.specs.Literals.{Body, Arc, bodies, arcs_of, numbered, edge_at, objects_of, edges_of}
use Rattle.oem_text.specs.Layouts.{PlacedArc, LaidOut, placed_arc, layout_of, edge_from, edges_from}
use Rattle.updates.specs.Types.{Oid, Label, Edge, Value}
use Rattle.updates.specs.Effects.{copied_objects, copied_edges}
use Rattle.updates.specs.inside.Stamps.{moved, stamped_objects, stamped_edges}

-- ---- texts
-- ---- objects
pub count_laid_out : (tree : LiteralTree) → length (layout_of tree).values ≡ length (bodies tree)
count_laid_out tree = length-map (bodies tree) (λ (body : Body). body.value)

pub objects_stamped : (next : ℕ) (tree : LiteralTree) (parents : List Oid)
    → stamped_objects next (layout_of tree).values parents ≡ copied_objects next tree parents
objects_stamped next tree [] = refl
objects_stamped next tree (parent ∷ others) =
    ap (λ (l : List (Oid × Value)). objects_of next tree ++ l)
    (ap (λ (n : ℕ). stamped_objects (next + n) (layout_of tree).values others) (count_laid_out tree)
    ∙ objects_stamped (next + length (bodies tree)) tree others)

pub length-stamped_objects : (next : ℕ) (values : List Value) (parents : List Oid)
    → length (stamped_objects next values parents) ≡ length parents * length values
length-stamped_objects next values [] = omega arith
length-stamped_objects next values (parent ∷ others) =
    let rest = stamped_objects (next + length values) values others in
    let both = length-append (numbered next values) rest in
    let front = length-numbered next values in
    let back = length-stamped_objects (next + length values) values others in
    let step : suc (length others) * length values ≡ length values + length others * length values = omega arith in
    omega (arith, both, front, back, step)

-- ---- edges
pub edges_moved : (base : ℕ) (table : List (List ℕ)) (arcs : List PlacedArc)
    → map (edge_from base table) arcs ≡ map (moved base) (map (edge_from 0 table) arcs)
edges_moved base table [] = refl
edges_moved base table (arc ∷ arcs) =
    let parent : base + arc.parent ≡ base + (0 + arc.parent) = omega arith in
    let child : base + arc.child ≡ base + (0 + arc.child) = omega arith in
    let first : edge_from base table arc ≡ moved base (edge_from 0 table arc) =
    λ i. record { parent = record { 0 = parent i }; label = label_in table arc.label; child = record { 0 = child i } } in
    ap (λ (e : Edge). e ∷ map (edge_from base table) arcs) first
    ∙ ap (λ (l : List Edge). moved base (edge_from 0 table arc) ∷ l) (edges_moved base table arcs)

pub edges_laid_out : (next : ℕ) (table : List (List ℕ)) (tree : LiteralTree)
    → edges_of next table tree ≡ map (moved next) (edges_from 0 table (layout_of tree))
edges_laid_out next table tree =
    sym (map-map (placed_arc (bodies tree)) (edge_from next table) (arcs_of tree))
    ∙ edges_moved next table (layout_of tree).arcs

pub length-stamped_edges : (next size : ℕ) (label : Label) (edges : List Edge) (parents : List Oid)
    → length (stamped_edges next size label edges parents) ≡ length parents * (length edges + 1)
length-stamped_edges next size label edges [] = omega arith
length-stamped_edges next size label edges (parent ∷ others) =
    let rest = stamped_edges (next + size) size label edges others in
    let both = length-append (map (moved next) edges) rest in
    let front = length-map edges (moved next) in
    let back = length-stamped_edges (next + size) size label edges others in
    let step : suc (length others) * (length edges + 1) ≡ (length edges + 1) + length others * (length edges + 1) = omega arith in
    omega (arith, both, front, back, step)

-- what a list has that has the members of another
module _ (table : List (List ℕ)) (label : Label) (tree : LiteralTree) (edges : List Edge)
    (same : (edge : Edge) → Contains edges edge ↔ Contains (edges_from 0 table (layout_of tree)) edge) where
  -- the edges of one copy
  copy_there : (next : ℕ) (edge : Edge) → Contains (map (moved next) edges) edge → Contains (edges_of next table tree) edge
  copy_there next edge h =
      let found = Contains-from_map (moved next) edges edge h in
      subst (λ (l : List Edge). Contains l edge) (sym (edges_laid_out next table tree))
      (subst (Contains (map (moved next) (edges_from 0 table (layout_of tree)))) found.2
      (Contains-map (moved next) (edges_from 0 table (layout_of tree)) found.0 ((same found.0).0 found.1)))

  copy_back : (next : ℕ) (edge : Edge) → Contains (edges_of next table tree) edge → Contains (map (moved next) edges) edge
  copy_back next edge h =
      let found = Contains-from_map (moved next) (edges_from 0 table (layout_of tree)) edge
      (subst (λ (l : List Edge). Contains l edge) (edges_laid_out next table tree) h) in
      subst (Contains (map (moved next) edges)) found.2 (Contains-map (moved next) edges found.0 ((same found.0).1 found.1))

  pub stamped_there : (next : ℕ) (parents : List Oid) (edge : Edge)
      → Contains (stamped_edges next (length (bodies tree)) label edges parents) edge
      → Contains (copied_edges next table label tree parents) edge
  stamped_there next [] edge h = absurd (Contains-none edge h)
  stamped_there next (parent ∷ others) edge h =
      let size = length (bodies tree) in
      let first = edge_of parent label (oid_of next) in
      let stamped = map (moved next) edges in
      let copied = edges_of next table tree in
      let others_stamped = stamped_edges (next + size) size label edges others in
      let others_copied = copied_edges (next + size) table label tree others in
      elim (Contains-cases first (stamped ++ others_stamped) edge h) [
        | inl is ↦ subst (Contains (first ∷ (copied ++ others_copied))) is (Contains-head first (copied ++ others_copied))
        | inr later ↦ Contains-tail first (copied ++ others_copied) edge (elim (Contains-append_cases stamped others_stamped edge later) [
          | inl here ↦ Contains-append_left copied others_copied edge (copy_there next edge here)
          | inr last ↦ Contains-append_right copied others_copied edge (stamped_there (next + size) others edge last)
        ])
      ]

  pub stamped_back : (next : ℕ) (parents : List Oid) (edge : Edge)
      → Contains (copied_edges next table label tree parents) edge
      → Contains (stamped_edges next (length (bodies tree)) label edges parents) edge
  stamped_back next [] edge h = absurd (Contains-none edge h)
  stamped_back next (parent ∷ others) edge h =
      let size = length (bodies tree) in
      let first = edge_of parent label (oid_of next) in
      let stamped = map (moved next) edges in
      let copied = edges_of next table tree in
      let others_stamped = stamped_edges (next + size) size label edges others in
      let others_copied = copied_edges (next + size) table label tree others in
      elim (Contains-cases first (copied ++ others_copied) edge h) [
        | inl is ↦ subst (Contains (first ∷ (stamped ++ others_stamped))) is (Contains-head first (stamped ++ others_stamped))
        | inr later ↦ Contains-tail first (stamped ++ others_stamped) edge (elim (Contains-append_cases copied others_copied edge later) [
          | inl here ↦ Contains-append_left stamped others_stamped edge (copy_back next edge here)
          | inr last ↦ Contains-append_right stamped others_stamped edge (stamped_back (next + size) others edge last)
        ])
      ]
