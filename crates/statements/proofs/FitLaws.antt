-- What a statement changes fits the database, in each form: where the statement's texts have their forms, its rows are of
-- live objects, and no cause applies that its changes are refused for before they are made.
use Rattle.std.proofs.Common.{◌≡◌, ◌≢◌, ◌⊎◌, inl, inr, ℕ, ◌+◌, ◌<◌, ◌≤◌, true, false, if◌then◌else◌, List, [], ◌∷◌, ◌++◌, length, map, Option, Some, All, AllPairs, Contains, refl, ap, subst, arith, append-nil}
use Rattle.std.specs.Prelude.{IfSome}
use Rattle.std.specs.List.{list_any}
use Rattle.std.specs.List.Sorted.{IsStrictlySortedBy}
use Rattle.std.specs.Str.{bytes_eq}
use Rattle.std.proofs.lemmas.Bool.{cases_lt}
use Rattle.std.proofs.lemmas.List.{length-map, get_or-map}
use Rattle.std.proofs.lemmas.List.Elements.{All-nil, All-cons, All-weaker, All-map, All-contains, All-head, All-filter}
use Rattle.std.proofs.lemmas.List.Kept.{AllPairs-filter}
use Rattle.lore_base.specs.Names.{IsName, IsLabel, IsNameTable}
use Rattle.lore_base.specs.Walks.{oid_of, edge_of}
use Rattle.lore_base.proofs.ToldLaws.{told_complex}
use Rattle.lore_base.specs.Databases.{OemGraph, Database, IsLive, IsComplex, IsSized, IsLinked, IsValid}
use Rattle.lore_base.specs.ChangeSets.{IsBound, HasChildren, AreNumberedFrom, IsAtHand, IsComplexThen, Fits}
use Rattle.lore_base.specs.ChangeCauses.{AddsToAtom, HidesChildren}
use Rattle.lore_base.proofs.MemberLaws.{Contains-none}
use Rattle.list_laws.proofs.PairLaws.{AllPairs-nil}
use Rattle.list_laws.proofs.MemberLaws.{All-from_members, Contains-map}
use Rattle.oem_text.proofs.NumberedLaws.{length-objects_of, numbered_from}
use Rattle.oem_labels.proofs.PlaceLaws.{place_in-below}
use Rattle.lorel_trees.specs.Trees.{LiteralTree}
use Rattle.lorel_trees.specs.Formed.{IsFormedLiteral}
use Rattle.oem_labels.specs.Labels.{first_uses, place_in, label_in}
use Rattle.oem_labels.proofs.LabelLaws.{known_text, first_uses_cover}
use Rattle.oem_text.specs.Literals.{Arc, bodies, arcs_of, labels_of, HasUndefined, objects_of, edge_at, edges_of}
use Rattle.updates.specs.Effects.{Pair, no_changes, is_atomic, takers, assigning, links, linking, unlinking}
use Rattle.updates.proofs.RowLaws.{link_found, link_holds}
use Rattle.statements.specs.Effects.{loading, naming, unnaming}
use Rattle.statements.specs.Types.{Oid, Label, Edge, Value, Whole, Chars, Flag, Complex, Changes, LABELS, NEXT_NUMBER}
use Rattle.statements.proofs.LabelFitLaws.{labels_come_new, labels_come_once, labels_come_formed}
use Rattle.statements.proofs.LiteralLaws.{values_of, objects_sized, labels_formed, edges_linked, first_live}

pub no_names : IsNameTable []
unfolding IsStrictlySortedBy
no_names = tt

pub one_name : (name : List ℕ) (oid : Oid) → IsNameTable ((name, oid) ∷ [])
unfolding IsStrictlySortedBy
one_name name oid = (tt, tt)

pub at_most : (count limit : ℕ) → (limit < count → ⊥) → count ≤ limit
at_most count limit few = elim (cases_lt limit count) [ inl many ↦ absurd (few many) | inr low ↦ low ]

-- a live parent of an added edge is complex where no edge is added to an atomic object
pub complex_parent : (graph : OemGraph) (changes : Changes) → (AddsToAtom graph changes → ⊥) → (edge : Edge) → Contains changes.added edge
    → IsLive graph.objects edge.parent → IsComplex graph.objects edge.parent
complex_parent graph changes unatomic edge at live = elim (told_complex live.0) [
  | inl complex ↦ subst (λ (value : Value). Contains graph.objects (edge.parent, value)) complex live.1
  | inr atomic ↦ absurd (unatomic (record { edge = edge; value = live.0; added = at; valued = live.1; atomic = atomic }))
]

module _ (db : Database) (valid : IsValid db) where
  next_low : db.graph.next ≤ NEXT_NUMBER
  next_low = valid.restorable.rooted.well_formed.ordered.next_numbered.1

  -- what gives no value and takes nothing away
  module _ (made : List (Oid × Value)) (added : List Edge) (named : List (List ℕ × Oid)) (labels : List (List ℕ)) where
    abbrev growing : Changes
    growing = record { made = made; values = []; added = added; removed = []; named = named; unnamed = []; labels = labels }

    pub growing_fits : AreNumberedFrom db.graph.next made → db.graph.next + length made ≤ NEXT_NUMBER → All (λ object. IsSized object.1) made
        → IsNameTable named → All (λ entry. IsName entry.0 × IsAtHand db.graph growing entry.1) named
        → All (λ edge. IsComplexThen db.graph.objects growing edge.parent × IsAtHand db.graph growing edge.child) added
        → All (λ text. ¬ Contains db.labels text) labels → AllPairs (λ a b. a ≢ b) labels → All IsLabel labels
        → length db.labels + length labels ≤ LABELS → All (λ edge. edge.label.0 < length (db.labels ++ labels)) added
        → Fits db growing
    growing_fits numbered room sized table names edges new once formed few labelled = record {
      graph = record {
        numbered = numbered;
        room = room;
        made_sized = sized;
        values_sized = All-nil (λ (object : Oid × Value). IsSized object.1);
        values_once = AllPairs-nil (λ (a b : Oid × Value). a.0 ≢ b.0);
        values_live = All-nil (λ (object : Oid × Value). IsLive db.graph.objects object.0);
        values_childless = All-nil (λ (object : Oid × Value). (object.1 ≡ Complex) ⊎ (¬ HasChildren db.graph.edges object.0));
        named_ascend = table;
        named = names;
        unnamed = All-nil (λ (name : List ℕ). IsBound db.graph.names name × (¬ IsBound named name));
        added = edges;
        removed = All-nil (λ (edge : Edge). IsAtHand db.graph growing edge.parent × IsAtHand db.graph growing edge.child);
        apart = All-from_members (λ (edge : Edge). ¬ Contains [] edge) added (λ edge at. Contains-none edge);
      };
      labels_new = new;
      labels_distinct = once;
      labels_formed = formed;
      few_labels = few;
      added_labelled = labelled;
      removed_labelled = All-nil (λ (edge : Edge). edge.label.0 < length (db.labels ++ labels));
    }

  no_text : All (λ text. ¬ Contains db.labels text) []
  no_text = All-nil (λ (text : List ℕ). ¬ Contains db.labels text)

  -- ---- names
  naming_fits : (name : List ℕ) (oid : Oid) → IsName name → IsLive db.graph.objects oid → Fits db (growing [] [] ((name, oid) ∷ []) [])
  naming_fits name oid formed live =
      growing_fits [] [] ((name, oid) ∷ []) [] tt (omega (arith, next_low)) (All-nil (λ (object : Oid × Value). IsSized object.1)) (one_name name oid)
      (All-cons (λ (entry : List ℕ × Oid). IsName entry.0 × IsAtHand db.graph (growing [] [] ((name, oid) ∷ []) []) entry.1) (name, oid) []
      (formed, inl live) (All-nil (λ (entry : List ℕ × Oid). IsName entry.0 × IsAtHand db.graph (growing [] [] ((name, oid) ∷ []) []) entry.1)))
      (All-nil (λ (edge : Edge). IsComplexThen db.graph.objects (growing [] [] ((name, oid) ∷ []) []) edge.parent
      × IsAtHand db.graph (growing [] [] ((name, oid) ∷ []) []) edge.child))
      no_text (AllPairs-nil (λ (a b : List ℕ). a ≢ b)) (All-nil IsLabel) (omega (arith, valid.restorable.few_labels))
      (All-nil (λ (edge : Edge). edge.label.0 < length (db.labels ++ [])))

  pub nothing_fits : Fits db no_changes
  nothing_fits =
      growing_fits [] [] [] [] tt (omega (arith, next_low)) (All-nil (λ (object : Oid × Value). IsSized object.1)) no_names
      (All-nil (λ (entry : List ℕ × Oid). IsName entry.0 × IsAtHand db.graph no_changes entry.1))
      (All-nil (λ (edge : Edge). IsComplexThen db.graph.objects no_changes edge.parent × IsAtHand db.graph no_changes edge.child))
      no_text (AllPairs-nil (λ (a b : List ℕ). a ≢ b)) (All-nil IsLabel) (omega (arith, valid.restorable.few_labels))
      (All-nil (λ (edge : Edge). edge.label.0 < length (db.labels ++ [])))

  -- the name of the first row
  pub name_fits : (name : List ℕ) (rows : List Pair) → IsName name → All (λ row. IsLive db.graph.objects row.0) rows → Fits db (naming name rows)
  name_fits name [] formed live = nothing_fits
  name_fits name (row ∷ rows) formed live = naming_fits name row.0 formed (All-head (λ (r : Pair). IsLive db.graph.objects r.0) row rows live)

  pub unname_fits : (name : List ℕ) → IsBound db.graph.names name → Fits db (unnaming name)
  unname_fits name bound = record {
    graph = record {
      numbered = tt;
      room = omega (arith, next_low);
      made_sized = All-nil (λ (object : Oid × Value). IsSized object.1);
      values_sized = All-nil (λ (object : Oid × Value). IsSized object.1);
      values_once = AllPairs-nil (λ (a b : Oid × Value). a.0 ≢ b.0);
      values_live = All-nil (λ (object : Oid × Value). IsLive db.graph.objects object.0);
      values_childless = All-nil (λ (object : Oid × Value). (object.1 ≡ Complex) ⊎ (¬ HasChildren db.graph.edges object.0));
      named_ascend = no_names;
      named = All-nil (λ (entry : List ℕ × Oid). IsName entry.0 × IsAtHand db.graph (unnaming name) entry.1);
      unnamed = All-cons (λ (n : List ℕ). IsBound db.graph.names n × (¬ IsBound [] n)) name []
          (bound, λ anew. Contains-none (name, anew.0) anew.1) (All-nil (λ (n : List ℕ). IsBound db.graph.names n × (¬ IsBound [] n)));
      added = All-nil (λ (edge : Edge). IsComplexThen db.graph.objects (unnaming name) edge.parent × IsAtHand db.graph (unnaming name) edge.child);
      removed = All-nil (λ (edge : Edge). IsAtHand db.graph (unnaming name) edge.parent × IsAtHand db.graph (unnaming name) edge.child);
      apart = All-nil (λ (edge : Edge). ¬ Contains [] edge);
    };
    labels_new = no_text;
    labels_distinct = AllPairs-nil (λ (a b : List ℕ). a ≢ b);
    labels_formed = All-nil IsLabel;
    few_labels = omega (arith, valid.restorable.few_labels);
    added_labelled = All-nil (λ (edge : Edge). edge.label.0 < length (db.labels ++ []));
    removed_labelled = All-nil (λ (edge : Edge). edge.label.0 < length (db.labels ++ []));
  }

  -- ---- values
  unhidden : (value : Value) (oids : List Oid) → (HidesChildren db.graph (assigning db.graph.objects value oids) → ⊥) → (oid : Oid)
      → Contains (takers db.graph.objects value oids) oid → (value ≡ Complex) ⊎ (¬ HasChildren db.graph.edges oid)
  unhidden value oids shown oid at = elim (told_complex value) [
    | inl complex ↦ inl complex
    | inr atomic ↦ inr (λ parent. shown (record {
      oid = oid;
      value = value;
      valued = Contains-map (λ (o : Oid). (o, value)) (takers db.graph.objects value oids) oid at;
      atomic = atomic;
      parent = parent;
    }))
  ]

  taken : (P : Oid → Type 0) (value : Value) (oids : List Oid) → All P oids → All P (takers db.graph.objects value oids)
  taken P (Whole number) oids h = h
  taken P (Chars text) oids h = h
  taken P (Flag flag) oids h = h
  taken P Complex oids h = All-filter (is_atomic db.graph.objects) P oids h

  taken_once : (value : Value) (oids : List Oid) → AllPairs (λ a b. a ≢ b) oids → AllPairs (λ a b. a ≢ b) (takers db.graph.objects value oids)
  taken_once (Whole number) oids h = h
  taken_once (Chars text) oids h = h
  taken_once (Flag flag) oids h = h
  taken_once Complex oids h = AllPairs-filter (λ (a b : Oid). a ≢ b) (is_atomic db.graph.objects) oids h

  paired_once : (value : Value) (oids : List Oid) → AllPairs (λ a b. a ≢ b) oids → AllPairs (λ (a b : Oid × Value). a.0 ≢ b.0) (map (λ oid. (oid, value)) oids)
  paired_once value oids h i j d low within =
      let pair : Oid → Oid × Value = λ oid. (oid, value) in
      let count : length (map pair oids) ≡ length oids = length-map oids pair in
      let inner : j < length oids = omega (arith, within, count) in
      let first : i < length oids = omega (arith, low, inner) in
      rw (get_or-map pair oids i d.0 d first, get_or-map pair oids j d.0 d inner) (h i j d.0 low inner)

  pub assign_fits : (value : Value) (oids : List Oid) → IsSized value → All (IsLive db.graph.objects) oids → AllPairs (λ a b. a ≢ b) oids
      → (HidesChildren db.graph (assigning db.graph.objects value oids) → ⊥) → Fits db (assigning db.graph.objects value oids)
  assign_fits value oids sized live once shown =
      let changes = assigning db.graph.objects value oids in
      let given = takers db.graph.objects value oids in
      let pair : Oid → Oid × Value = λ oid. (oid, value) in
      record {
        graph = record {
          numbered = tt;
          room = omega (arith, next_low);
          made_sized = All-nil (λ (object : Oid × Value). IsSized object.1);
          values_sized = All-map (λ (object : Oid × Value). IsSized object.1) (λ (oid : Oid). (oid, value)) given
              (All-from_members (λ (oid : Oid). IsSized value) given (λ oid at. sized));
          values_once = paired_once value given (taken_once value oids once);
          values_live = All-map (λ (object : Oid × Value). IsLive db.graph.objects object.0) (λ (oid : Oid). (oid, value)) given
              (taken (IsLive db.graph.objects) value oids live);
          values_childless = All-map (λ (object : Oid × Value). (object.1 ≡ Complex) ⊎ (¬ HasChildren db.graph.edges object.0)) (λ (oid : Oid). (oid, value)) given
              (All-from_members (λ (oid : Oid). (value ≡ Complex) ⊎ (¬ HasChildren db.graph.edges oid)) given (unhidden value oids shown));
          named_ascend = no_names;
          named = All-nil (λ (entry : List ℕ × Oid). IsName entry.0 × IsAtHand db.graph changes entry.1);
          unnamed = All-nil (λ (name : List ℕ). IsBound db.graph.names name × (¬ IsBound [] name));
          added = All-nil (λ (edge : Edge). IsComplexThen db.graph.objects changes edge.parent × IsAtHand db.graph changes edge.child);
          removed = All-nil (λ (edge : Edge). IsAtHand db.graph changes edge.parent × IsAtHand db.graph changes edge.child);
          apart = All-nil (λ (edge : Edge). ¬ Contains [] edge);
        };
        labels_new = no_text;
        labels_distinct = AllPairs-nil (λ (a b : List ℕ). a ≢ b);
        labels_formed = All-nil IsLabel;
        few_labels = omega (arith, valid.restorable.few_labels);
        added_labelled = All-nil (λ (edge : Edge). edge.label.0 < length (db.labels ++ []));
        removed_labelled = All-nil (λ (edge : Edge). edge.label.0 < length (db.labels ++ []));
      }

  -- ---- links
  -- the object of a row's right side, if it has one
  abbrev IsRightLive : Pair → Type 0
  IsRightLive row = IfSome row.1 (IsLive db.graph.objects)

  -- what holds of each edge of a row
  linked_rows : (P : Edge → Type 0) (label : Label) (rows : List Pair)
      → ((parent child : Oid) → Contains rows (parent, Some child) → P (edge_of parent label child)) → All P (links label rows)
  linked_rows P label rows each = All-from_members P (links label rows) (λ edge at.
      let found = link_found label rows edge at in
      subst P found.3 (each found.0 found.1 found.2))

  right_live : (rows : List Pair) → All IsRightLive rows → (parent child : Oid) → Contains rows (parent, Some child) → IsLive db.graph.objects child
  right_live rows live parent child at = All-contains IsRightLive rows (parent, Some child) live at

  left_live : (rows : List Pair) → All (λ row. IsLive db.graph.objects row.0) rows → (parent : Oid) (right : Option Oid) → Contains rows (parent, right)
      → IsLive db.graph.objects parent
  left_live rows live parent right at = All-contains (λ (row : Pair). IsLive db.graph.objects row.0) rows (parent, right) live at

  pub link_fits : (text : List ℕ) (rows : List Pair) → IsLabel text → All (λ row. IsLive db.graph.objects row.0) rows → All IsRightLive rows
      → (AddsToAtom db.graph (linking db.labels text rows) → ⊥) → (LABELS < length db.labels + length (first_uses db.labels (text ∷ [])) → ⊥)
      → Fits db (linking db.labels text rows)
  link_fits text rows formed live right unatomic few =
      let new = first_uses db.labels (text ∷ []) in
      let table = db.labels ++ new in
      let label = label_in table text in
      let changes = linking db.labels text rows in
      let one : All IsLabel (text ∷ []) = All-cons IsLabel text [] formed (All-nil IsLabel) in
      let low : place_in table text < length table =
      place_in-below table text (All-head (Contains table) text [] (first_uses_cover db.labels (text ∷ []))) in
      growing_fits [] (links label rows) [] new tt (omega (arith, next_low)) (All-nil (λ (object : Oid × Value). IsSized object.1)) no_names
      (All-nil (λ (entry : List ℕ × Oid). IsName entry.0 × IsAtHand db.graph changes entry.1))
      (linked_rows (λ (edge : Edge). IsComplexThen db.graph.objects changes edge.parent × IsAtHand db.graph changes edge.child) label rows (λ parent child at. (
        inr (inr (
          complex_parent db.graph changes unatomic (edge_of parent label child) (link_holds label rows parent child at) (left_live rows live parent (Some child) at),
          λ valued. Contains-none (parent, valued.0) valued.1,
        )),
        inl (right_live rows right parent child at),
      )))
      (labels_come_new db.labels (text ∷ []) valid.restorable.labels_distinct) (labels_come_once db.labels (text ∷ []) valid.restorable.labels_distinct)
      (labels_come_formed db.labels (text ∷ []) one) (at_most (length db.labels + length new) LABELS few)
      (linked_rows (λ (edge : Edge). edge.label.0 < length table) label rows (λ parent child at. low))

  unlinked : (text : List ℕ) (rows : List Pair) → List Edge
  unlinked text rows = (unlinking db.labels text rows).removed

  -- what holds of the edges that are removed, where the table has the label
  unlinked_rows : (P : Edge → Type 0) (text : List ℕ) (rows : List Pair)
      → (Contains db.labels text → (parent child : Oid) → Contains rows (parent, Some child) → P (edge_of parent (label_in db.labels text) child))
      → All P ((unlinking db.labels text rows).removed)
  unlinked_rows P text rows each = elim (list_any (bytes_eq text) db.labels)
      as (λ b. list_any (bytes_eq text) db.labels ≡ b → All P (if b then links (label_in db.labels text) rows else [])) [
        | true ↦ λ is. linked_rows P (label_in db.labels text) rows (each (known_text db.labels text is))
        | false ↦ λ is. All-nil P
      ] refl

  pub unlink_fits : (text : List ℕ) (rows : List Pair) → All (λ row. IsLive db.graph.objects row.0) rows → All IsRightLive rows
      → Fits db (unlinking db.labels text rows)
  unlink_fits text rows live right =
      let changes = unlinking db.labels text rows in
      let longer : length (db.labels ++ []) ≡ length db.labels = ap length (append-nil db.labels) in
      record {
        graph = record {
          numbered = tt;
          room = omega (arith, next_low);
          made_sized = All-nil (λ (object : Oid × Value). IsSized object.1);
          values_sized = All-nil (λ (object : Oid × Value). IsSized object.1);
          values_once = AllPairs-nil (λ (a b : Oid × Value). a.0 ≢ b.0);
          values_live = All-nil (λ (object : Oid × Value). IsLive db.graph.objects object.0);
          values_childless = All-nil (λ (object : Oid × Value). (object.1 ≡ Complex) ⊎ (¬ HasChildren db.graph.edges object.0));
          named_ascend = no_names;
          named = All-nil (λ (entry : List ℕ × Oid). IsName entry.0 × IsAtHand db.graph changes entry.1);
          unnamed = All-nil (λ (name : List ℕ). IsBound db.graph.names name × (¬ IsBound [] name));
          added = All-nil (λ (edge : Edge). IsComplexThen db.graph.objects changes edge.parent × IsAtHand db.graph changes edge.child);
          removed = unlinked_rows (λ (edge : Edge). IsAtHand db.graph changes edge.parent × IsAtHand db.graph changes edge.child) text rows
              (λ known parent child at. (inl (left_live rows live parent (Some child) at), inl (right_live rows right parent child at)));
          apart = All-nil (λ (edge : Edge). ¬ Contains changes.removed edge);
        };
        labels_new = no_text;
        labels_distinct = AllPairs-nil (λ (a b : List ℕ). a ≢ b);
        labels_formed = All-nil IsLabel;
        few_labels = omega (arith, valid.restorable.few_labels);
        added_labelled = All-nil (λ (edge : Edge). edge.label.0 < length (db.labels ++ []));
        removed_labelled = unlinked_rows (λ (edge : Edge). edge.label.0 < length (db.labels ++ [])) text rows
            (λ known parent child at. omega (arith, place_in-below db.labels text known, longer));
      }

  -- ---- literals
  -- a label of the literal is one of this table, which has its texts
  pub arcs_labelled : (next : ℕ) (table : List (List ℕ)) (literal : LiteralTree) → All (Contains table) (labels_of literal)
      → All (λ edge. edge.label.0 < length table) (edges_of next table literal)
  arcs_labelled next table literal there =
      All-map (λ (edge : Edge). edge.label.0 < length table) (edge_at next table (bodies literal)) (arcs_of literal)
      (All-from_members (λ (arc : Arc). place_in table arc.label < length table) (arcs_of literal) (λ arc at.
      place_in-below table arc.label (All-contains (Contains table) (labels_of literal) arc.label there (Contains-map (λ (a : Arc). a.label) (arcs_of literal) arc at))))

  pub load_fits : (name : List ℕ) (literal : LiteralTree) → IsName name → IsFormedLiteral literal → (HasUndefined literal → ⊥)
      → (NEXT_NUMBER < db.graph.next + length (bodies literal) → ⊥)
      → (LABELS < length db.labels + length (first_uses db.labels (labels_of literal)) → ⊥) → Fits db (loading db name literal)
  load_fits name literal word formed defined unspent few =
      let made = objects_of db.graph.next literal in
      let new = first_uses db.labels (labels_of literal) in
      let table = db.labels ++ new in
      let added = edges_of db.graph.next table literal in
      let changes = loading db name literal in
      let named = (name, oid_of db.graph.next) ∷ [] in
      let count = length-objects_of db.graph.next literal in
      let low = at_most (db.graph.next + length (bodies literal)) NEXT_NUMBER unspent in
      growing_fits made added named new (numbered_from db.graph.next (values_of (bodies literal))) (omega (arith, count, low)) (objects_sized db.graph.next literal formed)
      (one_name name (oid_of db.graph.next))
      (All-cons (λ (entry : List ℕ × Oid). IsName entry.0 × IsAtHand db.graph changes entry.1) (name, oid_of db.graph.next) []
      (word, inr (first_live db.graph.next literal defined)) (All-nil (λ (entry : List ℕ × Oid). IsName entry.0 × IsAtHand db.graph changes entry.1)))
      (All-weaker (IsLinked made) (λ (edge : Edge). IsComplexThen db.graph.objects changes edge.parent × IsAtHand db.graph changes edge.child)
      (λ edge linked. (inl linked.parent, inr linked.child)) added (edges_linked made db.graph.next table literal defined (λ object at. at)))
      (labels_come_new db.labels (labels_of literal) valid.restorable.labels_distinct) (labels_come_once db.labels (labels_of literal) valid.restorable.labels_distinct)
      (labels_come_formed db.labels (labels_of literal) (labels_formed literal formed)) (at_most (length db.labels + length new) LABELS few)
      (arcs_labelled db.graph.next table literal (first_uses_cover db.labels (labels_of literal)))
