-- Copies of a literal fit the database whose objects they come to.
use Rattle.std.proofs.Common.{inl, inr, ℕ, ◌+◌, ◌<◌, List, [], ◌∷◌, ◌++◌, length, All, Contains, subst}
use Rattle.std.proofs.lemmas.List.Elements.{All-nil, All-cons, All-append, All-weaker, All-head, All-tail, All-contains, Contains-append_left, Contains-append_right}
use Rattle.lore_base.specs.Names.{IsName, IsLabel}
use Rattle.lore_base.specs.Walks.{oid_of, edge_of}
use Rattle.lore_base.specs.Databases.{Database, IsLive, IsComplex, IsSized, IsLinked, IsValid}
use Rattle.lore_base.specs.ChangeSets.{IsAtHand, IsComplexThen, Fits}
use Rattle.lore_base.specs.ChangeCauses.{AddsToAtom}
use Rattle.lore_base.proofs.MemberLaws.{Contains-none, Contains-head, Contains-tail, Contains-cases}
use Rattle.list_laws.proofs.MemberLaws.{All-from_members}
use Rattle.oem_labels.proofs.LabelLaws.{first_uses_cover}
use Rattle.oem_labels.proofs.PlaceLaws.{place_in-below}
use Rattle.updates.proofs.CopyLaws.{copies_numbered}
use Rattle.lorel_trees.specs.Trees.{LiteralTree}
use Rattle.lorel_trees.specs.Formed.{IsFormedLiteral}
use Rattle.oem_labels.specs.Labels.{first_uses, place_in, label_in}
use Rattle.oem_text.specs.Literals.{bodies, labels_of, HasUndefined, objects_of, edges_of}
use Rattle.updates.specs.Effects.{copied_objects, copied_edges, copying}
use Rattle.statements.specs.Types.{Oid, Label, Edge, Value, LABELS, NEXT_NUMBER}
use Rattle.statements.proofs.LabelFitLaws.{labels_come_new, labels_come_once, labels_come_formed}
use Rattle.statements.proofs.LiteralLaws.{Within, objects_sized, labels_formed, edges_linked, first_live}
use Rattle.statements.proofs.FitLaws.{at_most, no_names, complex_parent, growing_fits, arcs_labelled}

-- ---- numbers
module _ (literal : LiteralTree) where
  abbrev size : ℕ
  size = length (bodies literal)

  copies_sized : (next : ℕ) (parents : List Oid) → IsFormedLiteral literal → All (λ object. IsSized object.1) (copied_objects next literal parents)
  copies_sized next [] formed = All-nil (λ (object : Oid × Value). IsSized object.1)
  copies_sized next (parent ∷ others) formed =
      All-append (λ (object : Oid × Value). IsSized object.1) (objects_of next literal) (copied_objects (next + size) literal others)
      (objects_sized next literal formed) (copies_sized (next + size) others formed)

  -- ---- edges
  -- an edge leads from each parent
  root_there : (next : ℕ) (table : List (List ℕ)) (label : Label) (parents : List Oid) (parent : Oid) → Contains parents parent
      → (child : Oid) × Contains (copied_edges next table label literal parents) (edge_of parent label child)
  root_there next table label [] parent at = absurd (Contains-none parent at)
  root_there next table label (first ∷ others) parent at =
      let own = edges_of next table literal in
      let rest = copied_edges (next + size) table label literal others in
      let root = edge_of first label (oid_of next) in
      elim (Contains-cases first others parent at) [
        | inl same ↦ (oid_of next, subst (λ (p : Oid). Contains (root ∷ (own ++ rest)) (edge_of p label (oid_of next))) same (Contains-head root (own ++ rest)))
        | inr later ↦ (
            let found = root_there (next + size) table label others parent later in
            let edge = edge_of parent label found.0 in
            (found.0, Contains-tail root (own ++ rest) edge (Contains-append_right own rest edge found.1)))
      ]

  module _ (defined : HasUndefined literal → ⊥) where
    -- edges lead from parents, or complex objects of the copies, to objects of the copies
    copies_linked : (P : Oid → Type 0) (objects : List (Oid × Value)) → ((oid : Oid) → IsComplex objects oid → P oid)
        → (next : ℕ) (table : List (List ℕ)) (label : Label) (parents : List Oid) → All P parents → Within (copied_objects next literal parents) objects
        → All (λ edge. P edge.parent × IsLive objects edge.child) (copied_edges next table label literal parents)
    copies_linked P objects made next table label [] held within = All-nil (λ (edge : Edge). P edge.parent × IsLive objects edge.child)
    copies_linked P objects made next table label (parent ∷ others) held within =
        let own = edges_of next table literal in
        let rest = copied_edges (next + size) table label literal others in
        let first_objects = objects_of next literal in
        let later_objects = copied_objects (next + size) literal others in
        let inside : Within first_objects objects = (λ object at. within object (Contains-append_left first_objects later_objects object at)) in
        let root = first_live next literal defined in
        All-cons (λ (edge : Edge). P edge.parent × IsLive objects edge.child) (edge_of parent label (oid_of next)) (own ++ rest)
        (All-head P parent others held, (root.0, inside (oid_of next, root.0) root.1))
        (All-append (λ (edge : Edge). P edge.parent × IsLive objects edge.child) own rest
        (All-weaker (IsLinked objects) (λ (edge : Edge). P edge.parent × IsLive objects edge.child) (λ edge linked. (made edge.parent linked.parent, linked.child)) own
        (edges_linked objects next table literal defined inside))
        (copies_linked P objects made (next + size) table label others (All-tail P parent others held)
        (λ object at. within object (Contains-append_right first_objects later_objects object at))))

module _ (db : Database) (valid : IsValid db) (literal : LiteralTree) where
  copies_labelled : (next : ℕ) (table : List (List ℕ)) (label : Label) → label.0 < length table → All (Contains table) (labels_of literal)
      → (parents : List Oid) → All (λ edge. edge.label.0 < length table) (copied_edges next table label literal parents)
  copies_labelled next table label low there [] = All-nil (λ (edge : Edge). edge.label.0 < length table)
  copies_labelled next table label low there (parent ∷ others) =
      let count = length (bodies literal) in
      let own = edges_of next table literal in
      let rest = copied_edges (next + count) table label literal others in
      All-cons (λ (edge : Edge). edge.label.0 < length table) (edge_of parent label (oid_of next)) (own ++ rest) low
      (All-append (λ (edge : Edge). edge.label.0 < length table) own rest (arcs_labelled db valid next table literal there)
      (copies_labelled (next + count) table label low there others))

  pub copy_fits : (text : List ℕ) (parents : List Oid) → IsLabel text → IsFormedLiteral literal → (HasUndefined literal → ⊥) → All (IsLive db.graph.objects) parents
      → (AddsToAtom db.graph (copying db.labels db.graph.next text literal parents) → ⊥)
      → (NEXT_NUMBER < db.graph.next + length (copying db.labels db.graph.next text literal parents).made → ⊥)
      → (LABELS < length db.labels + length (copying db.labels db.graph.next text literal parents).labels → ⊥)
      → Fits db (copying db.labels db.graph.next text literal parents)
  copy_fits text parents word formed defined live unatomic unspent few =
      let next = db.graph.next in
      let texts = text ∷ labels_of literal in
      let new = first_uses db.labels texts in
      let table = db.labels ++ new in
      let label = label_in table text in
      let made = copied_objects next literal parents in
      let added = copied_edges next table label literal parents in
      let changes = copying db.labels next text literal parents in
      let all_formed : All IsLabel texts = All-cons IsLabel text (labels_of literal) word (labels_formed literal formed) in
      let there : All (Contains table) texts = first_uses_cover db.labels texts in
      let low : place_in table text < length table = place_in-below table text (All-head (Contains table) text (labels_of literal) there) in
      let complex : All (IsComplexThen db.graph.objects changes) parents =
      All-from_members (IsComplexThen db.graph.objects changes) parents (λ parent at.
      let root = root_there literal next table label parents parent at in
      inr (inr (
        complex_parent db.graph changes unatomic (edge_of parent label root.0) root.1 (All-contains (IsLive db.graph.objects) parents parent live at),
        λ valued. Contains-none (parent, valued.0) valued.1,
      ))) in
      growing_fits db valid made added [] new (copies_numbered next literal parents) (at_most (next + length made) NEXT_NUMBER unspent) (copies_sized literal next parents formed)
      no_names (All-nil (λ (entry : List ℕ × Oid). IsName entry.0 × IsAtHand db.graph changes entry.1))
      (All-weaker (λ (edge : Edge). IsComplexThen db.graph.objects changes edge.parent × IsLive made edge.child)
      (λ (edge : Edge). IsComplexThen db.graph.objects changes edge.parent × IsAtHand db.graph changes edge.child) (λ edge h. (h.0, inr h.1)) added
      (copies_linked literal defined (IsComplexThen db.graph.objects changes) made (λ oid h. inl h) next table label parents complex (λ object at. at)))
      (labels_come_new db.labels texts valid.restorable.labels_distinct) (labels_come_once db.labels texts valid.restorable.labels_distinct)
      (labels_come_formed db.labels texts all_formed) (at_most (length db.labels + length new) LABELS few)
      (copies_labelled next table label low (All-tail (Contains table) text (labels_of literal) there) parents)
