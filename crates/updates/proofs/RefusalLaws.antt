-- Copies of a literal that is laid out: why they are refused, told by counts of its objects and of its edges between
-- places, and what they change.
use Rattle.std.proofs.Common.{◌≡◌, ◌≢◌, ◌⊎◌, ◌↔◌, ℕ, zero, suc, ◌+◌, ◌*◌, ◌<◌, ◌≤◌, true, false, List, [], ◌∷◌, ◌++◌, length, map, Some, Contains, All, refl, sym, ap, subst, ◌∙◌, arith}
use Rattle.std.proofs.lemmas.List.{length-map}
use Rattle.std.proofs.lemmas.List.Elements.{All-contains}
use Rattle.list_laws.proofs.MemberLaws.{All-from_members, Contains-from_map, Contains-map}
use Rattle.oem_text.proofs.LayoutLaws.{texts-of_layout}
use Rattle.lore_base.specs.Walks.{oid_of, edge_of}
use Rattle.lore_base.specs.Databases.{OemGraph, IsRooted, AreAscendingEdges}
use Rattle.lore_base.specs.ChangeSets.{AreSame}
use Rattle.lore_base.specs.ChangeCauses.{AddsToAtom, ChangeCause}
use Rattle.lore_base.specs.Verdicts.{IsFirst, IsClear}
use Rattle.oem_changes.specs.Growth.{Grows}
use Rattle.lorel_trees.specs.Trees.{LiteralTree}
use Rattle.oem_labels.specs.Labels.{first_uses, label_in}
use Rattle.oem_text.specs.Literals.{Body, Arc, bodies, arcs_of, labels_of}
use Rattle.oem_text.specs.Layouts.{PlacedArc, LaidOut, placed_arc, layout_of, texts_of, JoinsBelow, IsJoined, edge_from, edges_from}
use Rattle.oem_text.specs.Parts.{LocalCause, local_order}
use Rattle.updates.specs.Types.{Oid, Label, Edge, Value, Changes, Refusal, LABELS, OBJECTS, EDGES, NEXT_NUMBER}
use Rattle.updates.specs.Types.refusals
use Rattle.updates.specs.Effects.{Pair, targets, no_changes, copied_objects, copied_edges, copying}
use Rattle.updates.specs.Causes.{HasTargets}
use Rattle.updates.specs.inside.RowTests.{any_atomic}
use Rattle.updates.specs.inside.Forms.{grown_order, copies_by, CopyCause, copy_order}
use Rattle.updates.specs.inside.Stamps.{stamped_objects, stamped_edges, IsStamp}
use Rattle.updates.specs.declared.stamps.Stamp.{Stamp}
use Rattle.updates.proofs.StampLaws.{count_laid_out, objects_stamped, length-stamped_edges, stamped_there, stamped_back}
use Rattle.updates.proofs.CopyLaws.{copies_grow}
use Rattle.updates.proofs.CopyCauseLaws.{copy_adds, copy_adds_none, copies_many, grown_atom, grown_spent, grown_full, grown_many_objects, grown_many_edges, grown_clear, copy_told, copy_clear, some_copies}

-- ---- counts
pub one_copy : (copies size limit : ℕ) → 0 < copies → copies * size ≤ limit → size ≤ limit
one_copy zero size limit some few = absurd (omega (arith, some))
one_copy (suc others) size limit some few =
    let split : suc others * size ≡ size + others * size = omega arith in
    omega (arith, split, few)

pub some_row : (rows : List Pair) → (rows ≡ [] → ⊥) → 0 < length rows
some_row [] some = absurd (some refl)
some_row (row ∷ rows) some = omega arith

-- where no row is
pub none_copied : (table : List (List ℕ)) (graph : OemGraph) (label : List ℕ) (tree : LiteralTree) (rows : List Pair) → rows ≡ []
    → no_changes ≡ copies_by table graph label tree rows
none_copied table graph label tree rows none = sym (ap (λ (l : List Pair). copies_by table graph label tree l) none)

-- ---- what is laid out
module _ (tree : LiteralTree) (layout : LaidOut) (is : layout ≡ layout_of tree) (joined : IsJoined layout) where
  pub count_is : length layout.values ≡ length (bodies tree)
  count_is = ap (λ (l : LaidOut). length l.values) is ∙ count_laid_out tree

  pub texts_are : texts_of layout ≡ labels_of tree
  texts_are = ap (λ (l : LaidOut). texts_of l) is ∙ texts-of_layout tree

  pub some_body : 0 < length (bodies tree)
  some_body = omega (arith, joined.some, count_is)

  below : (arc : Arc) → Contains (arcs_of tree) arc → JoinsBelow (length layout.values) (placed_arc (bodies tree) arc)
  below arc at =
      All-contains (JoinsBelow (length layout.values)) layout.arcs (placed_arc (bodies tree) arc) joined.joined
      (subst (λ (l : LaidOut). Contains l.arcs (placed_arc (bodies tree) arc)) (sym is) (Contains-map (placed_arc (bodies tree)) (arcs_of tree) arc at))

  pub arcs_inside : All (λ (arc : Arc). arc.parent < length (bodies tree)) (arcs_of tree)
  arcs_inside = All-from_members (λ (arc : Arc). arc.parent < length (bodies tree)) (arcs_of tree)
      (λ arc at. let low = (below arc at).parent in omega (arith, low, count_is))

-- edges between places join places of objects
pub stamp_inside : (table : List (List ℕ)) (text : List ℕ) (layout : LaidOut) (stamp : Stamp) → IsJoined layout → IsStamp table text layout stamp
    → All (λ (edge : Edge). (edge.parent.0 < length layout.values) × (edge.child.0 < length layout.values)) stamp.edges
stamp_inside table text layout stamp joined h =
    All-from_members (λ (edge : Edge). (edge.parent.0 < length layout.values) × (edge.child.0 < length layout.values)) stamp.edges (λ edge at.
    let found = Contains-from_map (edge_from 0 (table ++ stamp.texts)) layout.arcs edge ((h.edges edge).0 at) in
    let low = All-contains (JoinsBelow (length layout.values)) layout.arcs found.0 joined.joined found.1 in
    let parent : 0 + found.0.parent ≡ edge.parent.0 = ap (λ (e : Edge). e.parent.0) found.2 in
    let child : 0 + found.0.child ≡ edge.child.0 = ap (λ (e : Edge). e.child.0) found.2 in
    (omega (arith, low.parent, parent), omega (arith, low.child, child)))

-- ---- refusals of copies, and what they change
module _ (table : List (List ℕ)) (graph : OemGraph) (label : List ℕ) (tree : LiteralTree) (rows : List Pair)
    (rooted : IsRooted graph) (live : HasTargets graph rows) (some : rows ≡ [] → ⊥) (locals : IsClear (LocalCause tree) local_order)
    (layout : LaidOut) (is : layout ≡ layout_of tree) (joined : IsJoined layout) where
  abbrev copies : Changes
  copies = copying table graph.next label tree (targets rows)

  told : (refusal : Refusal) → IsFirst (ChangeCause table graph copies) grown_order refusal → IsFirst (CopyCause table graph label tree rows) copy_order refusal
  told refusal h = copy_told table graph label tree rows copies (some_copies table graph label tree rows some) locals (Some refusal) h

  made_many : length copies.made ≡ length rows * length layout.values
  made_many = copies_many table graph label tree rows ∙ ap (λ (n : ℕ). length rows * n) (sym (count_is tree layout is joined))

  labels_are : first_uses table (label ∷ texts_of layout) ≡ copies.labels
  labels_are = ap (λ (l : List (List ℕ)). first_uses table (label ∷ l)) (texts_are tree layout is joined)

  pub told_atom : any_atomic graph.objects rows ≡ true → IsFirst (CopyCause table graph label tree rows) copy_order refusals.AtomicParent
  told_atom atomic = told refusals.AtomicParent (grown_atom table graph copies refl (copy_adds table graph label tree rows atomic))

  module _ (complex : any_atomic graph.objects rows ≡ false) where
    none_atomic : AddsToAtom graph copies → ⊥
    none_atomic = copy_adds_none table graph label tree rows rooted (arcs_inside tree layout is joined) complex

    pub told_spent : NEXT_NUMBER < graph.next + length rows * length layout.values
        → IsFirst (CopyCause table graph label tree rows) copy_order refusals.OidsSpent
    told_spent spent = told refusals.OidsSpent (grown_spent table graph copies refl none_atomic (omega (arith, spent, made_many)))

    module _ (room : graph.next + length rows * length layout.values ≤ NEXT_NUMBER) where
      left : graph.next + length copies.made ≤ NEXT_NUMBER
      left = omega (arith, room, made_many)

      pub told_full : LABELS < length table + length (first_uses table (label ∷ texts_of layout))
          → IsFirst (CopyCause table graph label tree rows) copy_order refusals.TooManyLabels
      told_full full =
          let count = ap length labels_are in
          told refusals.TooManyLabels (grown_full table graph copies refl none_atomic left (omega (arith, full, count)))

      module _ (stamp : Stamp) (stamped : IsStamp table label layout stamp) (few : length table + length stamp.texts ≤ LABELS) where
        come : stamp.texts ≡ copies.labels
        come = stamped.texts ∙ labels_are

        few_labels : length table + length copies.labels ≤ LABELS
        few_labels = let count = ap length come in omega (arith, few, count)

        members : (edge : Edge) → Contains stamp.edges edge ↔ Contains (edges_from 0 (table ++ copies.labels) (layout_of tree)) edge
        members edge =
            let same : edges_from 0 (table ++ stamp.texts) layout ≡ edges_from 0 (table ++ copies.labels) (layout_of tree) =
            ap (λ (l : List (List ℕ)). edges_from 0 (table ++ l) layout) come ∙ ap (λ (l : LaidOut). edges_from 0 (table ++ copies.labels) l) is in
            subst (λ (l : List Edge). Contains stamp.edges edge ↔ Contains l edge) same (stamped.edges edge)

        abbrev fresh : List Edge
        fresh = stamped_edges graph.next (length (bodies tree)) (label_in (table ++ copies.labels) label) stamp.edges (targets rows)

        grows : Grows graph copies fresh
        grows = copies_grow table graph label tree rows rooted live stamp.edges (some_body tree layout is joined) (arcs_inside tree layout is joined)
            members stamped.ascend
            (All-from_members (λ (edge : Edge). edge.child.0 < length (bodies tree)) stamp.edges (λ edge at.
            let low = All-contains (λ (e : Edge). (e.parent.0 < length layout.values) × (e.child.0 < length layout.values)) stamp.edges edge
            (stamp_inside table label layout stamp joined stamped) at in
            omega (arith, low.1, count_is tree layout is joined)))

        fresh_many : length fresh ≡ length rows * (length stamp.edges + 1)
        fresh_many =
            length-stamped_edges graph.next (length (bodies tree)) (label_in (table ++ copies.labels) label) stamp.edges (targets rows)
            ∙ ap (λ (n : ℕ). n * (length stamp.edges + 1)) (length-map rows (λ (row : Pair). row.0))

        pub told_objects : OBJECTS < length graph.objects + length rows * length layout.values
            → IsFirst (CopyCause table graph label tree rows) copy_order refusals.TooManyObjects
        told_objects over =
            told refusals.TooManyObjects (grown_many_objects table graph copies refl none_atomic left few_labels fresh rooted grows
            (omega (arith, over, made_many)))

        module _ (under : length graph.objects + length rows * length layout.values ≤ OBJECTS) where
          pub told_edges : EDGES < length graph.edges + length rows * (length stamp.edges + 1)
              → IsFirst (CopyCause table graph label tree rows) copy_order refusals.TooManyEdges
          told_edges over =
              told refusals.TooManyEdges (grown_many_edges table graph copies refl none_atomic left few_labels fresh rooted grows
              (omega (arith, under, made_many)) (omega (arith, over, fresh_many)))

          pub told_clear : length graph.edges + length rows * (length stamp.edges + 1) ≤ EDGES
              → IsClear (CopyCause table graph label tree rows) copy_order
          told_clear below =
              copy_clear table graph label tree rows copies (some_copies table graph label tree rows some) locals
              (grown_clear table graph copies refl none_atomic left few_labels fresh rooted grows
              (omega (arith, under, made_many)) (omega (arith, below, fresh_many)))

        -- the same as what is stamped
        pub told_same : (changes : Changes) → changes.made ≡ stamped_objects graph.next layout.values (targets rows) → changes.values ≡ []
            → changes.added ≡ stamped_edges graph.next (length layout.values) stamp.label stamp.edges (targets rows) → changes.removed ≡ []
            → changes.named ≡ [] → changes.unnamed ≡ [] → changes.labels ≡ stamp.texts
            → AreSame (copies_by table graph label tree rows) changes
        told_same changes made values added removed named unnamed labels =
            subst (λ (c : Changes). AreSame c changes) (some_copies table graph label tree rows some) (record {
              made = made ∙ ap (λ (l : LaidOut). stamped_objects graph.next l.values (targets rows)) is ∙ objects_stamped graph.next tree (targets rows);
              values = values;
              added = λ edge. (
                λ at. stamped_there (table ++ copies.labels) (label_in (table ++ copies.labels) label) tree stamp.edges members graph.next (targets rows) edge
                    (subst (λ (l : List Edge). Contains l edge) list at),
                λ at. subst (λ (l : List Edge). Contains l edge) (sym list)
                    (stamped_back (table ++ copies.labels) (label_in (table ++ copies.labels) label) tree stamp.edges members graph.next (targets rows) edge at),
              );
              removed = λ edge. (
                λ at. subst (λ (l : List Edge). Contains l edge) removed at,
                λ at. subst (λ (l : List Edge). Contains l edge) (sym removed) at,
              );
              named = named;
              unnamed = unnamed;
              labels = labels ∙ come;
            })
          where
            list : changes.added ≡ fresh
            list = added
                ∙ ap (λ (n : ℕ). stamped_edges graph.next n stamp.label stamp.edges (targets rows)) (count_is tree layout is joined)
                ∙ ap (λ (l : Label). stamped_edges graph.next (length (bodies tree)) l stamp.edges (targets rows))
                (stamped.label ∙ ap (λ (l : List (List ℕ)). label_in (table ++ l) label) come)
