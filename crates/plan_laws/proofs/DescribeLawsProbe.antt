-- The comparison that a bottom plan begins with: it starts at a range, and where the condition holds it finds an object.
use Rattle.std.proofs.Common.{◌≡◌, ◌≢◌, ◌↔◌, inl, inr, ℕ, ◌<◌, List, [], ◌∷◌, ◌++◌, length, Option, Some, None, AllPairs, All, Contains, subst, sym, ap, ◌∙◌}
use Rattle.std.specs.List.{slice_get}
use Rattle.std.proofs.lemmas.List.{append_assoc}
use Rattle.std.proofs.lemmas.List.Elements.{All-contains, Contains-append_left, Contains-append_right}
use Rattle.lore_base.specs.Walks.{Walk, edge_of}
use Rattle.lore_base.specs.Paths.{PathTree, step, seq, trees_of, SpellInTurn, Reaches}
use Rattle.lore_base.specs.Comparisons.{Compares}
use Rattle.lore_base.proofs.MemberLaws.{Contains-head}
use Rattle.lore_base.proofs.WalkLaws.{Walk-within, Walk-split}
use Rattle.list_laws.proofs.PlaceLaws.{one_place}
use Rattle.index_traits.specs.Entries.{AreValueEntries, entry_of, IsProbed}
use Rattle.lore_base.specs.declared.values.Value.TheVariants.{Whole, Chars, Flag, Complex}
use Rattle.lore_base.specs.declared.operators.Op.TheVariants.{Like}
use Rattle.lore_base.specs.declared.operators.Op.{Op}
use Rattle.lore_base.specs.declared.paths.Pattern.TheVariants.{Plain}
use Rattle.lorel_bound.specs.declared.conditions.BoundStart.TheVariants as bound_starts
use Rattle.lorel_bound.specs.Conditions.{CondOf, CondsOf, and, or, not, exists, for_all, same, compare, at, constant, no_cond, cond, paths_of, paths_of_all, paths_in}
use Rattle.lorel_bound.specs.Holding.{Holds, AllHold}
use Rattle.lorel_bound.specs.Bound.{BoundPathTree, BoundTree}
use Rattle.lorel_bound.specs.Runnable.{IsBoundWithin, IsRunnable}
use Rattle.lorel_bound.specs.SlotRows.{MeetsBy, HoldsOver}
use Rattle.lorel_bound.specs.Plans.{Probe, IsFitting, IsFirstFitting, IsTaken, CanBeBottom, IsLabelOf, IsCandidate, from_value}
use Rattle.plan_laws.specs.Types.{Oid, Label, Edge, Value}
use Rattle.plan_laws.specs.Steps.{StepsOver, Meets}

-- the path that a probe asks for
abbrev path_of : Probe → BoundPathTree
path_of probe = record { start = bound_starts.Slot probe.slot; rest = probe.rest }

-- ---- the comparison that is taken is one of the condition
module _ (labels : List (List ℕ)) (edges : List Edge) (objects : List (Oid × Value)) (row : List Oid) where
  abbrev RowHolds : CondOf BoundPathTree → Type 0
  RowHolds condition = Holds (MeetsBy labels edges row) (λ oid value. Contains objects (oid, value)) Compares [] condition

  abbrev RowHoldsAll : CondsOf BoundPathTree → Type 0
  RowHoldsAll members = AllHold (MeetsBy labels edges row) (λ oid value. Contains objects (oid, value)) Compares [] members

  first_holds : (members : CondsOf BoundPathTree) (probe : Probe) → IsFirstFitting members probe → RowHoldsAll members
      → (condition : CondOf BoundPathTree) × IsFitting condition probe × RowHolds condition
  first_holds no_cond probe first holds = absurd first
  first_holds (cond member others) probe first holds = elim first [
    | inl fits ↦ (member, fits, holds.0)
    | inr later ↦ first_holds others probe later.1 holds.1
  ]

  pub taken_holds : (condition : CondOf BoundPathTree) (probe : Probe) → IsTaken condition probe → RowHolds condition
      → (part : CondOf BoundPathTree) × IsFitting part probe × RowHolds part
  taken_holds (and members) probe taken holds = first_holds members probe taken holds
  taken_holds (or members) probe taken holds = (or members, taken, holds)
  taken_holds (not body) probe taken holds = (not body, taken, holds)
  taken_holds (exists path body) probe taken holds = (exists path body, taken, holds)
  taken_holds (for_all path body) probe taken holds = (for_all path body, taken, holds)
  taken_holds (compare left op right) probe taken holds = (compare left op right, taken, holds)
  taken_holds (same left right) probe taken holds = (same left right, taken, holds)

fitting_path : (condition : CondOf BoundPathTree) (probe : Probe) → IsFitting condition probe
    → Contains (paths_of condition) (path_of probe)
fitting_path condition probe fits =
    subst (λ (c : CondOf BoundPathTree). Contains (paths_of c) (path_of probe)) (sym fits.compares) (Contains-head (path_of probe) [])

first_path : (members : CondsOf BoundPathTree) (probe : Probe) → IsFirstFitting members probe
    → Contains (paths_of_all members) (path_of probe)
first_path no_cond probe first = absurd first
first_path (cond member others) probe first = elim first [
  | inl fits ↦ Contains-append_left (paths_of member) (paths_of_all others) (path_of probe) (fitting_path member probe fits)
  | inr later ↦ Contains-append_right (paths_of member) (paths_of_all others) (path_of probe) (first_path others probe later.1)
]

taken_path : (condition : CondOf BoundPathTree) (probe : Probe) → IsTaken condition probe
    → Contains (paths_of condition) (path_of probe)
taken_path (and members) probe taken = first_path members probe taken
taken_path (or members) probe taken = fitting_path (or members) probe taken
taken_path (not body) probe taken = fitting_path (not body) probe taken
taken_path (exists path body) probe taken = fitting_path (exists path body) probe taken
taken_path (for_all path body) probe taken = fitting_path (for_all path body) probe taken
taken_path (compare left op right) probe taken = fitting_path (compare left op right) probe taken
taken_path (same left right) probe taken = fitting_path (same left right) probe taken

-- the probe starts at one of the ranges
pub probe_within : (bound : BoundTree) (named : Oid) (probe : Probe) → IsRunnable bound → CanBeBottom bound named probe
    → probe.slot < length bound.ranges
probe_within bound named probe runnable can =
    let paths = subst (λ (c : Option (CondOf BoundPathTree)). All (λ path. IsBoundWithin (length bound.ranges) path.start) (paths_in c)) can.is runnable.condition_within in
    All-contains (λ path. IsBoundWithin (length bound.ranges) path.start) (paths_of can.condition) (path_of probe) paths
    (taken_path can.condition probe can.taken)

-- ---- a path whose last part is a plain label
last_label : (labels : List (List ℕ)) (parts : List PathTree) (text : List ℕ) (word : List Label)
    → SpellInTurn labels (trees_of (parts ++ step (Plain text) ∷ [])) word
    → (front : List Label) × (label : Label) × (word ≡ front ++ label ∷ []) × (slice_get labels label.0 ≡ Some text)
last_label labels [] text word spells =
    let first : spells.0 ≡ spells.3.0 ∷ [] = spells.3.1 in
    ([], spells.3.0, spells.2 ∙ ap (λ (w : List Label). w ++ spells.1) first ∙ ap (λ (w : List Label). spells.3.0 ∷ w) spells.4, spells.3.2)
last_label labels (part ∷ parts) text word spells =
    let later = last_label labels parts text spells.1 spells.4 in
    (spells.0 ++ later.0, later.1, spells.2 ∙ ap (λ (w : List Label). spells.0 ++ w) later.2 ∙ sym (append_assoc spells.0 later.0 (later.1 ∷ [])), later.3)

-- it reaches only objects that an edge with a label of its text enters
pub last_edge : (labels : List (List ℕ)) (edges : List Edge) (parts : List PathTree) (text : List ℕ) (start oid : Oid)
    → Reaches labels edges (seq (trees_of (parts ++ step (Plain text) ∷ []))) start oid
    → (label : Label) × (parent : Oid) × (slice_get labels label.0 ≡ Some text) × Contains edges (edge_of parent label oid)
last_edge labels edges parts text start oid reached =
    let last = last_label labels parts text reached.0 reached.1 in
    let walks = Walk-split edges start last.0 (last.1 ∷ []) oid (subst (λ (w : List Label). Walk edges start w oid) last.2 reached.2) in
    let enters = subst (λ (o : Oid). Contains edges (edge_of walks.0 last.1 o)) walks.2.2 walks.2.1 in
    (last.1, walks.0, last.3, enters)

-- ---- a text has one label
one_label : (texts : List (List ℕ)) → AllPairs (λ a b. a ≢ b) texts → (a b : Label) (text : List ℕ)
    → slice_get texts a.0 ≡ Some text → slice_get texts b.0 ≡ Some text → a ≡ b
one_label texts apart a b text first second =
    let label_of : ℕ → Label = λ n. record { 0 = n } in
    ap label_of (one_place texts apart a.0 b.0 text first second)

-- ---- what the comparison finds
-- a complex value compares only by the operator for patterns
complex_compares : (op : Op) (b : Value) → Compares Complex op b → op ≡ Like
complex_compares op (Whole b) compares = elim compares [ inl ordered ↦ absurd ordered.1 | inr like ↦ like.0 ]
complex_compares op (Chars b) compares = elim compares [ inl ordered ↦ absurd ordered.1 | inr like ↦ like.0 ]
complex_compares op (Flag b) compares = elim compares [ inl ordered ↦ absurd ordered.1 | inr like ↦ like.0 ]
complex_compares op Complex compares = elim compares [ inl ordered ↦ absurd ordered.1 | inr like ↦ like.0 ]

module _ (over : StepsOver) (objects : List (Oid × Value)) (apart : AllPairs (λ a b. a ≢ b) over.labels)
    (entries : AreValueEntries objects over.edges over.entries) where
  -- an object whose value compares is a candidate, where an edge with the label's text enters it
  pub candidate : (label : Option Label) (text : List ℕ) (op : Op) (value own : Value) (oid : Oid)
      → IsLabelOf over.labels text label → IsProbed op → Compares own op value → Contains objects (oid, own)
      → (last : Label) → slice_get over.labels last.0 ≡ Some text → (parent : Oid) → Contains over.edges (edge_of parent last oid)
      → IsCandidate over.entries label op value oid
  candidate None text op value own oid none probed compares has last is parent enters = none last is
  candidate (Some label) text op value own oid labelled probed compares has last is parent enters =
      let one = one_label over.labels apart last label text is labelled in
      let entry = (entries.exact (entry_of label own oid)).1 (record {
        live = has;
        atomic = λ complex. probed.no_pattern (complex_compares op value (subst (λ (v : Value). Compares v op value) complex compares));
        entered = (parent, subst (λ (l : Label). Contains over.edges (edge_of parent l oid)) one enters);
      }) in
      (own, entry, compares)

  -- where the condition holds, the comparison that is taken finds an object
  pub probe_met : ((edge : Edge) → Contains over.links edge ↔ Contains over.edges edge)
      → (bound : BoundTree) (named : Oid) (probe : Probe) (label : Option Label) (row : List Oid)
      → CanBeBottom bound named probe → IsLabelOf over.labels probe.label label
      → HoldsOver over.labels over.edges objects row bound.cond
      → Meets over (from_value label probe.op probe.value probe.rest probe.slot) row
  probe_met links bound named probe label row can labelled passed =
      let holds : RowHolds over.labels over.edges objects row can.condition =
      subst (λ (c : Option (CondOf BoundPathTree)). HoldsOver over.labels over.edges objects row c) can.is passed in
      let part = taken_holds over.labels over.edges objects row can.condition probe can.taken holds in
      let fits = part.1 in
      let compared : RowHolds over.labels over.edges objects row (compare (at (path_of probe)) probe.op (constant probe.value)) =
      subst (RowHolds over.labels over.edges objects row) fits.compares part.2 in
      let reached = compared.2.1 in
      let ends : Reaches over.labels over.edges (seq (trees_of (fits.parts ++ step (Plain probe.label) ∷ []))) reached.0 compared.2.0 =
      subst (λ (p : PathTree). Reaches over.labels over.edges p reached.0 compared.2.0) fits.ends reached.2 in
      let last = last_edge over.labels over.edges fits.parts probe.label reached.0 compared.2.0 ends in
      let compares = subst (λ (v : Value). Compares compared.0 probe.op v) compared.3 compared.4 in
      let back : Reaches over.labels over.links probe.rest reached.0 compared.2.0 =
      (reached.2.0, reached.2.1, Walk-within over.edges over.links (λ edge. (links edge).1) reached.0 reached.2.0 compared.2.0 reached.2.2) in
      (reached.0, reached.1, (compared.2.0, back, candidate label probe.label probe.op probe.value compared.0 compared.2.0 labelled fits.probed compares compared.2.2 last.0 last.2 last.1 last.3))
