-- Why copies of a literal are refused, and when they aren't.
use Rattle.std.proofs.Common.{◌≡◌, ◌≢◌, ◌⊎◌, ◌↔◌, ℕ, zero, suc, ◌+◌, ◌*◌, ◌<◌, ◌≤◌, true, false, List, [], ◌∷◌, ◌++◌, length, map, Option, Some, None, Contains, All, refl, sym, ap, subst, inl, inr, ◌∙◌, arith, true≢false}
use Rattle.std.proofs.lemmas.List.{length-map}
use Rattle.std.proofs.lemmas.List.Elements.{Contains-append_right, All-contains}
use Rattle.std.proofs.lemmas.Bool.{both_ways}
use Rattle.lore_base.proofs.MemberLaws.{Contains-none, Contains-head, Contains-tail, Contains-cases}
use Rattle.list_laws.proofs.MemberLaws.{Contains-from_map, Contains-map}
use Rattle.lore_base.specs.Walks.{oid_of, edge_of}
use Rattle.lore_base.specs.Databases.{OemGraph, IsLive, IsRooted}
use Rattle.lore_base.specs.ChangeSets.{IsGraphAfter, AreSame}
use Rattle.lore_base.specs.ChangeCauses.{AddsToAtom, HidesChildren, ChangeCause, Outgrows}
use Rattle.lore_base.specs.Verdicts.{IsFirst, IsClear, IsToldBy}
use Rattle.oem_changes.specs.Growth.{Grows}
use Rattle.oem_changes.proofs.RootedLaws.{numbered_within}
use Rattle.oem_changes.proofs.GrowthLaws.{grown, grown-objects_many, grown-edges_many}
use Rattle.lorel_trees.specs.Trees.{LiteralTree}
use Rattle.oem_labels.specs.Labels.{first_uses, label_in}
use Rattle.oem_text.specs.Literals.{Arc, bodies, arcs_of, labels_of, edges_of, HasDouble, HasUndefined}
use Rattle.oem_text.specs.Layouts.{layout_of}
use Rattle.oem_text.specs.Parts.{LocalCause, local_order}
use Rattle.updates.specs.Types.{Oid, Label, Edge, Value, Changes, Refusal, LABELS, OBJECTS, EDGES, NEXT_NUMBER}
use Rattle.updates.specs.Types.refusals
use Rattle.updates.specs.Effects.{Pair, is_atomic, targets, no_changes, copied_objects, copied_edges, copying}
use Rattle.updates.specs.Causes.{HasTargets}
use Rattle.updates.specs.inside.RowTests.{any_atomic}
use Rattle.updates.specs.inside.Forms.{grown_order, copies_by, CopyCause, copy_order}
use Rattle.updates.proofs.RowLaws.{any_found, any_holds, atomic_found, atomic_holds}
use Rattle.updates.proofs.FormLaws.{adds_nothing, gives_nothing}
use Rattle.updates.proofs.StampLaws.{count_laid_out, objects_stamped, length-stamped_objects}
use Rattle.updates.proofs.CopyLaws.{copied_parent, copies_numbered}

-- ---- an edge that would leave an atomic object
root_there : (next : ℕ) (table : List (List ℕ)) (label : Label) (tree : LiteralTree) (parents : List Oid) (parent : Oid) → Contains parents parent
    → (number : ℕ) × Contains (copied_edges next table label tree parents) (edge_of parent label (oid_of number))
root_there next table label tree [] parent h = absurd (Contains-none parent h)
root_there next table label tree (first ∷ others) parent h =
    let own = edges_of next table tree in
    let rest = copied_edges (next + length (bodies tree)) table label tree others in
    let root = edge_of first label (oid_of next) in
    elim (Contains-cases first others parent h) [
      | inl is ↦ (next, subst (λ (p : Oid). Contains (root ∷ (own ++ rest)) (edge_of p label (oid_of next))) is (Contains-head root (own ++ rest)))
      | inr later ↦ (
          let found = root_there (next + length (bodies tree)) table label tree others parent later in
          let edge = edge_of parent label (oid_of found.0) in
          (found.0, Contains-tail root (own ++ rest) edge (Contains-append_right own rest edge found.1)))
    ]

module _ (table : List (List ℕ)) (graph : OemGraph) (label : List ℕ) (tree : LiteralTree) (rows : List Pair) where
  pub copy_adds : any_atomic graph.objects rows ≡ true → AddsToAtom graph (copying table graph.next label tree (targets rows))
  copy_adds h =
      let found = any_found (λ (row : Pair). is_atomic graph.objects row.0) rows h in
      let valued = atomic_found graph.objects found.0.0 found.2 in
      let then = table ++ first_uses table (label ∷ labels_of tree) in
      let root = root_there graph.next then (label_in then label) tree (targets rows) found.0.0
      (Contains-map (λ (row : Pair). row.0) rows found.0 found.1) in
      record {
        edge = edge_of found.0.0 (label_in then label) (oid_of root.0);
        value = valued.0;
        added = root.1;
        valued = valued.1;
        atomic = valued.2;
      }

  pub copy_adds_none : IsRooted graph → All (λ (arc : Arc). arc.parent < length (bodies tree)) (arcs_of tree)
      → any_atomic graph.objects rows ≡ false → AddsToAtom graph (copying table graph.next label tree (targets rows)) → ⊥
  copy_adds_none rooted inside h adds =
      let then = table ++ first_uses table (label ∷ labels_of tree) in
      elim (copied_parent graph.next then (label_in then label) tree inside (targets rows) adds.edge adds.added) [
        | inl target ↦ (
            let found = Contains-from_map (λ (row : Pair). row.0) rows adds.edge.parent target in
            let valued = subst (λ (oid : Oid). Contains graph.objects (oid, adds.value)) (sym found.2) adds.valued in
            both_ways _ h (any_holds (λ (row : Pair). is_atomic graph.objects row.0) rows found.0 found.1
            (atomic_holds graph.objects found.0.0 adds.value valued adds.atomic)))
        | inr made ↦ (
            let within = numbered_within graph.next (copied_objects graph.next tree (targets rows)) (copies_numbered graph.next tree (targets rows))
            (adds.edge.parent, made.0) made.1 in
            let old = All-contains (λ (o : Oid × Value). (1 ≤ o.0.0) × (o.0.0 < graph.next)) graph.objects (adds.edge.parent, adds.value)
            rooted.well_formed.ordered.objects_numbered adds.valued in
            omega (arith, within.0, old.1))
      ]

  pub copies_many : length (copying table graph.next label tree (targets rows)).made ≡ length rows * length (bodies tree)
  copies_many =
      let parents = length-map rows (λ (row : Pair). row.0) in
      sym (ap length (objects_stamped graph.next tree (targets rows)))
      ∙ length-stamped_objects graph.next (layout_of tree).values (targets rows)
      ∙ ap (λ (n : ℕ). n * length (layout_of tree).values) parents
      ∙ ap (λ (n : ℕ). length rows * n) (count_laid_out tree)

-- ---- how large the graph gets
module _ (graph : OemGraph) (changes : Changes) (fresh : List Edge) (rooted : IsRooted graph) (grows : Grows graph changes fresh) (limit : ℕ) where
  pub many_objects : limit < length graph.objects + length changes.made → Outgrows graph changes (λ after. length after.objects) limit
  many_objects over =
      let some = grown graph changes fresh rooted grows in
      let count = grown-objects_many graph changes fresh rooted grows some.0 some.1 in
      (some.0, some.1, omega (arith, count, over))

  pub few_objects : length graph.objects + length changes.made ≤ limit → Outgrows graph changes (λ after. length after.objects) limit → ⊥
  few_objects under outgrown =
      let count = grown-objects_many graph changes fresh rooted grows outgrown.0 outgrown.1 in
      omega (arith, count, under, outgrown.2)

  pub many_edges : limit < length graph.edges + length fresh → Outgrows graph changes (λ after. length after.edges) limit
  many_edges over =
      let some = grown graph changes fresh rooted grows in
      let count = grown-edges_many graph changes fresh rooted grows some.0 some.1 in
      (some.0, some.1, omega (arith, count, over))

  pub few_edges : length graph.edges + length fresh ≤ limit → Outgrows graph changes (λ after. length after.edges) limit → ⊥
  few_edges under outgrown =
      let count = grown-edges_many graph changes fresh rooted grows outgrown.0 outgrown.1 in
      omega (arith, count, under, outgrown.2)

-- ---- verdicts
module _ (table : List (List ℕ)) (graph : OemGraph) (changes : Changes) (none : changes.values ≡ []) where
  pub grown_atom : AddsToAtom graph changes → IsFirst (ChangeCause table graph changes) grown_order refusals.AtomicParent
  grown_atom atom = inl (atom, refl)

  module _ (atom : AddsToAtom graph changes → ⊥) where
    hidden : HidesChildren graph changes → ⊥
    hidden = gives_nothing graph changes none

    pub grown_spent : NEXT_NUMBER < graph.next + length changes.made → IsFirst (ChangeCause table graph changes) grown_order refusals.OidsSpent
    grown_spent spent = inr (atom, inr (hidden, inl (spent, refl)))

    module _ (left : graph.next + length changes.made ≤ NEXT_NUMBER) where
      unspent : NEXT_NUMBER < graph.next + length changes.made → ⊥
      unspent spent = omega (arith, left, spent)

      pub grown_full : LABELS < length table + length changes.labels → IsFirst (ChangeCause table graph changes) grown_order refusals.TooManyLabels
      grown_full full = inr (atom, inr (hidden, inr (unspent, inl (full, refl))))

      module _ (few : length table + length changes.labels ≤ LABELS) (fresh : List Edge) (rooted : IsRooted graph) (grows : Grows graph changes fresh) where
        unfilled : LABELS < length table + length changes.labels → ⊥
        unfilled full = omega (arith, few, full)

        pub grown_many_objects : OBJECTS < length graph.objects + length changes.made
            → IsFirst (ChangeCause table graph changes) grown_order refusals.TooManyObjects
        grown_many_objects over =
            inr (atom, inr (hidden, inr (unspent, inr (unfilled, inl (many_objects graph changes fresh rooted grows OBJECTS over, refl)))))

        pub grown_many_edges : length graph.objects + length changes.made ≤ OBJECTS → EDGES < length graph.edges + length fresh
            → IsFirst (ChangeCause table graph changes) grown_order refusals.TooManyEdges
        grown_many_edges under over =
            inr (
              atom,
              inr (
                hidden,
                inr (
                  unspent,
                  inr (
                    unfilled,
                    inr (
                      few_objects graph changes fresh rooted grows OBJECTS under,
                      inl (many_edges graph changes fresh rooted grows EDGES over, refl),
                    ),
                  ),
                ),
              ),
            )

        pub grown_clear : length graph.objects + length changes.made ≤ OBJECTS → length graph.edges + length fresh ≤ EDGES
            → IsClear (ChangeCause table graph changes) grown_order
        grown_clear under below = (
          atom,
          (
            hidden,
            (
              unspent,
              (
                unfilled,
                (
                  few_objects graph changes fresh rooted grows OBJECTS under,
                  (few_edges graph changes fresh rooted grows EDGES below, tt),
                ),
              ),
            ),
          ),
        )

-- the causes of locals come before those of the changes
module _ (table : List (List ℕ)) (graph : OemGraph) (label : List ℕ) (tree : LiteralTree) (rows : List Pair) where
  pub copy_told : (changes : Changes) → changes ≡ copies_by table graph label tree rows → IsClear (LocalCause tree) local_order → (told : Option Refusal)
      → IsToldBy (ChangeCause table graph changes) grown_order told → IsToldBy (CopyCause table graph label tree rows) copy_order told
  copy_told changes same locals None h = tt
  copy_told changes same locals (Some refusal) h =
      inr (locals.0, inr (locals.1.0, subst (λ (c : Changes). IsFirst (ChangeCause table graph c) grown_order refusal) same h))

  pub copy_clear : (changes : Changes) → changes ≡ copies_by table graph label tree rows → IsClear (LocalCause tree) local_order
      → IsClear (ChangeCause table graph changes) grown_order → IsClear (CopyCause table graph label tree rows) copy_order
  copy_clear changes same locals h =
      (locals.0, (locals.1.0, subst (λ (c : Changes). IsClear (ChangeCause table graph c) grown_order) same h))

  pub locals_told : (told other : Option Refusal) → other ≡ told → IsToldBy (LocalCause tree) local_order told
      → IsToldBy (CopyCause table graph label tree rows) copy_order other
  locals_told told other same h = subst (IsToldBy (CopyCause table graph label tree rows) copy_order) (sym same) (by told h)
    where
      by : (answer : Option Refusal) → IsToldBy (LocalCause tree) local_order answer → IsToldBy (CopyCause table graph label tree rows) copy_order answer
      by None k = tt
      by (Some refusal) k = elim k [
        | inl double ↦ inl double
        | inr others ↦ inr (others.0, elim others.1 [ inl undefined ↦ inl undefined | inr last ↦ absurd last.1 ])
      ]

  pub some_copies : (rows ≡ [] → ⊥) → copying table graph.next label tree (targets rows) ≡ copies_by table graph label tree rows
  some_copies some = by rows some
    where
      by : (list : List Pair) → (list ≡ [] → ⊥) → copying table graph.next label tree (targets list) ≡ copies_by table graph label tree list
      by [] h = absurd (h refl)
      by (row ∷ others) h = refl
