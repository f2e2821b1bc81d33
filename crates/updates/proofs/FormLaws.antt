-- Why the changes of a form of update are refused, and when they aren't.
use Rattle.std.proofs.Common.{◌≡◌, ◌≢◌, ◌⊎◌, ℕ, ◌+◌, ◌<◌, ◌≤◌, Bool, true, false, if◌then◌else◌, List, [], ◌∷◌, ◌++◌, length, map, Option, Some, None, Contains, refl, sym, ap, subst, inl, inr, ◌∙◌, arith, true≢false}
use Rattle.std.specs.List.{filter}
use Rattle.std.proofs.lemmas.Bool.{both_ways}
use Rattle.lore_base.specs.Databases.{OemGraph}
use Rattle.lore_base.specs.Verdicts.{IsFirst, IsClear}
use Rattle.lore_base.specs.ChangeSets.{HasChildren}
use Rattle.lore_base.specs.ChangeCauses.{AddsToAtom, HidesChildren, ChangeCause}
use Rattle.lore_base.specs.Walks.{edge_of}
use Rattle.lore_base.proofs.MemberLaws.{Contains-none, Contains-same}
use Rattle.oem_labels.specs.Labels.{first_uses, label_in}
use Rattle.lore_base.proofs.ToldLaws.{told_complex, complex_decides, atom_only}
use Rattle.list_laws.proofs.MemberLaws.{Contains-from_map, Contains-map}
use Rattle.updates.specs.Types.{Oid, Label, Edge, Value, Whole, Chars, Flag, Complex, Changes, Refusal, LABELS, NEXT_NUMBER}
use Rattle.updates.specs.Types.refusals
use Rattle.updates.specs.Effects.{Pair, is_atomic, targets, takers, assigning, links, linking, unlinking, no_changes}
use Rattle.updates.specs.inside.RowTests.{has_child, any_parent, hides_children, links_atom, any_atomic_link}
use Rattle.updates.specs.inside.Forms.{form_order}
use Rattle.updates.proofs.RowLaws.{any_found, any_holds, atomic_found, atomic_holds, child_found, child_holds, link_found, link_holds}

-- ---- assignments
hides_by : (graph : OemGraph) (value : Value) (rows : List Pair) (changes : Changes) → changes.values ≡ map (λ oid. (oid, value)) (targets rows) → value ≢ Complex
    → (row : Pair) → Contains rows row → has_child graph.edges row.0 ≡ true → HidesChildren graph changes
hides_by graph value rows changes is atomic row there parent = record {
  oid = row.0;
  value = value;
  valued = subst (λ (l : List (Oid × Value)). Contains l (row.0, value)) (sym is)
      (Contains-map (λ (oid : Oid). (oid, value)) (targets rows) row.0 (Contains-map (λ (r : Pair). r.0) rows row there));
  atomic = atomic;
  parent = child_found graph.edges row.0 parent;
}

-- an atomic value is taken by all targets
taken : (objects : List (Oid × Value)) (value : Value) (oids : List Oid) → value ≢ Complex → takers objects value oids ≡ oids
taken objects (Whole number) oids atom = refl
taken objects (Chars text) oids atom = refl
taken objects (Flag flag) oids atom = refl
taken objects Complex oids atom = absurd (atom refl)

pub hides : (graph : OemGraph) (value : Value) (rows : List Pair) → hides_children graph.edges value rows ≡ true
    → HidesChildren graph (assigning graph.objects value (targets rows))
hides graph value rows h = elim (told_complex value) [
  | inl complex ↦ absurd (true≢false (sym h ∙ ap (λ (b : Bool). if b then false else any_parent graph.edges rows) ((complex_decides value).1 complex)))
  | inr atom ↦ (
      let some = sym (ap (λ (b : Bool). if b then false else any_parent graph.edges rows) (atom_only value atom)) ∙ h in
      let found = any_found (λ (row : Pair). has_child graph.edges row.0) rows some in
      hides_by graph value rows (assigning graph.objects value (targets rows))
      (ap (λ (oids : List Oid). map (λ oid. (oid, value)) oids) (taken graph.objects value (targets rows) atom)) atom found.0 found.1 found.2)
]

-- what is given a value is the target of a row
given_target : (value : Value) (rows : List Pair) (oid : Oid) (given : Value) → Contains {X = Oid × Value} (map (λ o. (o, value)) (targets rows)) (oid, given)
    → (row : Pair) × Contains rows row × (row.0 ≡ oid)
given_target value rows oid given h =
    let pair = Contains-from_map (λ (o : Oid). (o, value)) (targets rows) (oid, given) h in
    let row = Contains-from_map (λ (r : Pair). r.0) rows pair.0 pair.1 in
    (row.0, row.1, row.2 ∙ ap (λ (p : Oid × Value). p.0) pair.2)

unhidden_by : (graph : OemGraph) (value : Value) (rows : List Pair) (changes : Changes) → changes.values ≡ map (λ oid. (oid, value)) (targets rows)
    → ((row : Pair) → Contains rows row → has_child graph.edges row.0 ≡ true → ⊥) → HidesChildren graph changes → ⊥
unhidden_by graph value rows changes is none hidden =
    let row = given_target value rows hidden.oid hidden.value
    (subst (λ (l : List (Oid × Value)). Contains l (hidden.oid, hidden.value)) is hidden.valued) in
    none row.0 row.1 (child_holds graph.edges row.0.0 (subst (HasChildren graph.edges) (sym row.2) hidden.parent))

pub unhidden : (graph : OemGraph) (value : Value) (rows : List Pair) → hides_children graph.edges value rows ≡ false
    → HidesChildren graph (assigning graph.objects value (targets rows)) → ⊥
unhidden graph value rows h hidden = elim (told_complex value) [
  | inl complex ↦ (
      let valued = subst (λ (v : Value). Contains {X = Oid × Value} (map (λ oid. (oid, v)) (takers graph.objects v (targets rows))) (hidden.oid, hidden.value)) complex hidden.valued in
      let pair = Contains-from_map (λ (oid : Oid). (oid, Complex)) (filter (is_atomic graph.objects) (targets rows)) (hidden.oid, hidden.value) valued in
      hidden.atomic (sym (ap (λ (p : Oid × Value). p.1) pair.2)))
  | inr atom ↦ (
      let none = sym (ap (λ (b : Bool). if b then false else any_parent graph.edges rows) (atom_only value atom)) ∙ h in
      unhidden_by graph value rows (assigning graph.objects value (targets rows))
      (ap (λ (oids : List Oid). map (λ oid. (oid, value)) oids) (taken graph.objects value (targets rows) atom))
      (λ row there parent. both_ways _ none (any_holds (λ (r : Pair). has_child graph.edges r.0) rows row there parent)) hidden)
]

-- ---- links
pub link_adds : (table : List (List ℕ)) (graph : OemGraph) (label : List ℕ) (rows : List Pair) → any_atomic_link graph.objects rows ≡ true
    → AddsToAtom graph (linking table label rows)
link_adds table graph label rows h =
    let found = any_found (links_atom graph.objects) rows h in by found.0 found.1 found.2
  where
    by : (row : Pair) → Contains rows row → links_atom graph.objects row ≡ true → AddsToAtom graph (linking table label rows)
    by (parent, None) there atom = absurd (true≢false (sym atom))
    by (parent, Some child) there atom =
        let valued = atomic_found graph.objects parent atom in record {
          edge = edge_of parent (label_in (table ++ first_uses table (label ∷ [])) label) child;
          value = valued.0;
          added = link_holds (label_in (table ++ first_uses table (label ∷ [])) label) rows parent child there;
          valued = valued.1;
          atomic = valued.2;
        }

pub link_adds_none : (table : List (List ℕ)) (graph : OemGraph) (label : List ℕ) (rows : List Pair) → any_atomic_link graph.objects rows ≡ false
    → AddsToAtom graph (linking table label rows) → ⊥
link_adds_none table graph label rows h adds =
    let found = link_found (label_in (table ++ first_uses table (label ∷ [])) label) rows adds.edge adds.added in
    let parent : adds.edge.parent ≡ found.0 = sym (ap (λ (edge : Edge). edge.parent) found.3) in
    let valued = subst (λ (oid : Oid). Contains graph.objects (oid, adds.value)) parent adds.valued in
    both_ways _ h (any_holds (links_atom graph.objects) rows (found.0, Some found.1) found.2
    (atomic_holds graph.objects found.0 adds.value valued adds.atomic))

-- ---- changes that add no edge, give no value, make no object
pub adds_nothing : (graph : OemGraph) (changes : Changes) → changes.added ≡ [] → AddsToAtom graph changes → ⊥
adds_nothing graph changes none adds = Contains-none adds.edge (subst (λ (l : List Edge). Contains l adds.edge) none adds.added)

pub gives_nothing : (graph : OemGraph) (changes : Changes) → changes.values ≡ [] → HidesChildren graph changes → ⊥
gives_nothing graph changes none hidden =
    Contains-none (hidden.oid, hidden.value) (subst (λ (l : List (Oid × Value)). Contains l (hidden.oid, hidden.value)) none hidden.valued)

pub makes_nothing : (graph : OemGraph) (changes : Changes) → graph.next ≤ NEXT_NUMBER → changes.made ≡ [] → NEXT_NUMBER < graph.next + length changes.made → ⊥
makes_nothing graph changes low none more =
    let count : length changes.made ≡ 0 = ap length none in
    omega (arith, count, low, more)

-- ---- verdicts on changes that make no object
module _ (table : List (List ℕ)) (graph : OemGraph) (changes : Changes) where
  pub form_atom : AddsToAtom graph changes → IsFirst (ChangeCause table graph changes) form_order refusals.AtomicParent
  form_atom atom = inl (atom, refl)

  pub form_hides : (AddsToAtom graph changes → ⊥) → HidesChildren graph changes
      → IsFirst (ChangeCause table graph changes) form_order refusals.HasChildren
  form_hides atom hidden = inr (atom, inl (hidden, refl))

  module _ (low : graph.next ≤ NEXT_NUMBER) (none : changes.made ≡ []) (atom : AddsToAtom graph changes → ⊥) (hidden : HidesChildren graph changes → ⊥) where
    pub form_clear : length table + length changes.labels ≤ LABELS → IsClear (ChangeCause table graph changes) form_order
    form_clear few = (atom, (hidden, (makes_nothing graph changes low none, ((λ full. omega (arith, few, full)), tt))))

    pub form_full : LABELS < length table + length changes.labels → IsFirst (ChangeCause table graph changes) form_order refusals.TooManyLabels
    form_full full = inr (atom, inr (hidden, inr (makes_nothing graph changes low none, inl (full, refl))))
