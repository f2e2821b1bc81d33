-- Changes that differ only in how often and in which order they list edges: what is said of the one is so of the other.
use Rattle.std.proofs.Common.{◌≡◌, ◌≢◌, ℕ, ◌+◌, ◌<◌, ◌≤◌, ◌⊎◌, inl, inr, List, ◌++◌, length, subst, sym, ap, ◌∙◌}
use Rattle.std.specs.List.{All, AllPairs, Contains}
use Rattle.std.proofs.lemmas.List.Elements.{All-weaker, All-contains, All-contains_itself}
use Rattle.oem_changes.specs.Types.{Oid, Edge, Value, Complex, Changes, NEXT_NUMBER, LABELS}
use Rattle.lore_base.specs.Names.{IsName, IsLabel, IsNameTable}
use Rattle.lore_base.specs.Databases.{OemGraph, Database, IsLive, IsSized}
use Rattle.lore_base.specs.ChangeSets.{IsBound, NamesThen, ObjectsThen, EdgesThen, IsLiveThen, IsComplexThen}
use Rattle.lore_base.specs.ChangeSets.{AreEdgesThen, IsReachedThen}
use Rattle.lore_base.specs.ChangeSets.{AreNumberedFrom, IsAtHand, HasChildren, FitsGraph, Fits, IsGraphAfter, IsAfter}
use Rattle.lore_base.specs.ChangeSets.{AreDead, IsOverlay, AreSame}
use Rattle.lore_base.specs.ChangeCauses.{AddsToAtom, HidesChildren, Outgrows}

pub same-back : (a b : Changes) → AreSame a b → AreSame b a
same-back a b same = record {
  made = sym same.made;
  values = sym same.values;
  added = λ edge. ((same.added edge).1, (same.added edge).0);
  removed = λ edge. ((same.removed edge).1, (same.removed edge).0);
  named = sym same.named;
  unnamed = sym same.unnamed;
  labels = sym same.labels;
}

-- what holds of each edge of a list holds of each one of another that has no others
All-among : {X : Type 0} (P Q : X → Type 0) (xs ys : List X) → ((x : X) → P x → Q x)
    → ((x : X) → Contains ys x → Contains xs x) → All P xs → All Q ys
All-among {X} P Q xs ys weaker within all =
    All-weaker (Contains ys) Q (λ x at. weaker x (All-contains P xs x all (within x at))) ys (All-contains_itself ys)

-- names, objects and edges then, by the parts of the changes that they come from
abbrev NamesBy : List (List ℕ × Oid) → List (List ℕ × Oid) → List (List ℕ) → List ℕ × Oid → Type 0
NamesBy names named unnamed entry = Contains named entry
    ⊎ (Contains names entry × (¬ (IsBound named entry.0 ⊎ Contains unnamed entry.0)))

abbrev ObjectsBy : List (Oid × Value) → List (Oid × Value) → List (Oid × Value) → Oid × Value → Type 0
ObjectsBy objects made values object =
    Contains made object ⊎ (Contains values object ⊎ (Contains objects object × (¬ IsLive values object.0)))

module _ (a b : Changes) (same : AreSame a b) where
  pub NamesThen-same : (names : List (List ℕ × Oid)) (entry : List ℕ × Oid) → NamesThen names a entry
      → NamesThen names b entry
  NamesThen-same names entry h =
      subst (λ (unnamed : List (List ℕ)). NamesBy names b.named unnamed entry) (sym same.unnamed)
      (subst (λ (named : List (List ℕ × Oid)). NamesBy names named a.unnamed entry) (sym same.named) h)

  pub ObjectsThen-same : (objects : List (Oid × Value)) (object : Oid × Value) → ObjectsThen objects a object
      → ObjectsThen objects b object
  ObjectsThen-same objects object h =
      subst (λ (values : List (Oid × Value)). ObjectsBy objects b.made values object) (sym same.values)
      (subst (λ (made : List (Oid × Value)). ObjectsBy objects made a.values object) (sym same.made) h)

  pub EdgesThen-same : (edges : List Edge) (edge : Edge) → EdgesThen edges a edge → EdgesThen edges b edge
  EdgesThen-same edges edge h = elim h [
    | inl added ↦ inl ((same.added edge).1 added)
    | inr kept ↦ inr (kept.0, λ gone. kept.1 ((same.removed edge).0 gone))
  ]

  pub IsLiveThen-same : (objects : List (Oid × Value)) (oid : Oid) → IsLiveThen objects a oid → IsLiveThen objects b oid
  IsLiveThen-same objects oid h = (h.0, ObjectsThen-same objects (oid, h.0) h.1)

  pub IsAtHand-same : (before : OemGraph) (oid : Oid) → IsAtHand before a oid → IsAtHand before b oid
  IsAtHand-same before oid h =
      subst (λ (made : List (Oid × Value)). IsLive before.objects oid ⊎ IsLive made oid) (sym same.made) h

  pub IsReachedThen-same : (names : List (List ℕ × Oid)) (between : List Edge) (oid : Oid)
      → IsReachedThen names a between oid → IsReachedThen names b between oid
  IsReachedThen-same names between oid h = record {
    name = h.name;
    start = h.start;
    word = h.word;
    named = NamesThen-same names (h.name, h.start) h.named;
    walked = h.walked;
  }

module _ (a b : Changes) (same : AreSame a b) where
  back : AreSame b a
  back = same-back a b same

  pub AreEdgesThen-same : (edges between : List Edge) → AreEdgesThen edges a between → AreEdgesThen edges b between
  AreEdgesThen-same edges between h = record {
    ascend = h.ascend;
    exact = λ edge. (
      λ at. EdgesThen-same a b same edges edge ((h.exact edge).0 at),
      λ then. (h.exact edge).1 (EdgesThen-same b a back edges edge then),
    );
  }

  pub IsGraphAfter-same : (before after : OemGraph) → IsGraphAfter before a after → IsGraphAfter before b after
  IsGraphAfter-same before after h = record {
    between = h.between;
    linked = AreEdgesThen-same before.edges h.between h.linked;
    names_ascend = h.names_ascend;
    names = λ entry. (
      λ at. NamesThen-same a b same before.names entry ((h.names entry).0 at),
      λ then. (h.names entry).1 (NamesThen-same b a back before.names entry then),
    );
    objects_ascend = h.objects_ascend;
    objects = λ object. (
      λ at. let left = (h.objects object).0 at in (
        ObjectsThen-same a b same before.objects object left.0,
        IsReachedThen-same a b same before.names h.between object.0 left.1,
      ),
      λ left. (h.objects object).1 (
        ObjectsThen-same b a back before.objects object left.0,
        IsReachedThen-same b a back before.names h.between object.0 left.1,
      ),
    );
    edges_ascend = h.edges_ascend;
    edges = λ edge. (
      λ at. let left = (h.edges edge).0 at in
          (left.0, IsReachedThen-same a b same before.names h.between edge.parent left.1),
      λ left. (h.edges edge).1 (left.0, IsReachedThen-same b a back before.names h.between edge.parent left.1),
    );
    next = h.next ∙ ap (λ (made : List (Oid × Value)). before.next + length made) (sym same.made);
  }

  pub IsAfter-same : (before after : Database) → IsAfter before a after → IsAfter before b after
  IsAfter-same before after h = record {
    labels = h.labels ∙ ap (λ (labels : List (List ℕ)). before.labels ++ labels) (sym same.labels);
    graph = IsGraphAfter-same before.graph after.graph h.graph;
    nodes = h.nodes;
    mode = h.mode;
  }

  pub AreDead-same : (before : OemGraph) (dead : List Oid) → AreDead before a dead → AreDead before b dead
  AreDead-same before dead h = record {
    between = h.between;
    linked = AreEdgesThen-same before.edges h.between h.linked;
    ascend = h.ascend;
    vanish = λ oid at. let lost = h.vanish oid at in (
      IsLiveThen-same a b same before.objects oid lost.0,
      λ reached. lost.1
          (IsReachedThen-same b a back before.names h.between oid reached),
    );
    stay = λ oid live. elim (h.stay oid (IsLiveThen-same b a back before.objects oid live)) [
      | inl dead ↦ inl dead
      | inr reached ↦ inr (IsReachedThen-same a b same before.names h.between oid reached)
    ];
  }

  pub IsOverlay-same : (edges between lost fresh : List Edge) → IsOverlay edges a between lost fresh
      → IsOverlay edges b between lost fresh
  IsOverlay-same edges between lost fresh h = record {
    linked = AreEdgesThen-same edges between h.linked;
    lost_ascend = h.lost_ascend;
    lost_exact = h.lost_exact;
    fresh_ascend = h.fresh_ascend;
    fresh_exact = h.fresh_exact;
  }

  pub FitsGraph-same : (before : OemGraph) → FitsGraph before a → FitsGraph before b
  FitsGraph-same before h = record {
    numbered = subst (AreNumberedFrom before.next) (sym same.made) h.numbered;
    room = subst (λ (made : List (Oid × Value)). before.next + length made ≤ NEXT_NUMBER) (sym same.made) h.room;
    made_sized = subst (All (λ object. IsSized object.1)) (sym same.made) h.made_sized;
    values_sized = subst (All (λ object. IsSized object.1)) (sym same.values) h.values_sized;
    values_once = subst (AllPairs (λ a b. a.0 ≢ b.0)) (sym same.values) h.values_once;
    values_live = subst (All (λ object. IsLive before.objects object.0)) (sym same.values) h.values_live;
    values_childless = subst (All (λ object. (object.1 ≡ Complex) ⊎ (¬ HasChildren before.edges object.0)))
        (sym same.values) h.values_childless;
    named_ascend = subst IsNameTable (sym same.named) h.named_ascend;
    named = subst (All (λ entry. IsName entry.0 × IsAtHand before b entry.1)) (sym same.named)
        (All-weaker (λ entry. IsName entry.0 × IsAtHand before a entry.1)
        (λ entry. IsName entry.0 × IsAtHand before b entry.1)
        (λ entry there. (there.0, IsAtHand-same a b same before entry.1 there.1)) a.named h.named);
    unnamed = subst (λ (named : List (List ℕ × Oid)). All
        (λ name. IsBound before.names name × (¬ IsBound named name)) b.unnamed) (sym same.named)
        (subst (All (λ name. IsBound before.names name × (¬ IsBound a.named name))) (sym same.unnamed) h.unnamed);
    added = All-among (λ edge. IsComplexThen before.objects a edge.parent × IsAtHand before a edge.child)
        (λ edge. IsComplexThen before.objects b edge.parent × IsAtHand before b edge.child) a.added b.added
        (λ edge there. (
          ObjectsThen-same a b same before.objects
              (edge.parent, Complex) there.0,
          IsAtHand-same a b same before edge.child there.1,
        ))
        (λ edge. (same.added edge).0) h.added;
    removed = All-among (λ edge. IsAtHand before a edge.parent × IsAtHand before a edge.child)
        (λ edge. IsAtHand before b edge.parent × IsAtHand before b edge.child) a.removed b.removed
        (λ edge there.
        (IsAtHand-same a b same before edge.parent there.0, IsAtHand-same a b same before edge.child there.1))
        (λ edge. (same.removed edge).0) h.removed;
    apart = All-among (λ edge. ¬ Contains a.removed edge) (λ edge. ¬ Contains b.removed edge) a.added b.added
        (λ edge there gone. there ((same.removed edge).0 gone)) (λ edge. (same.added edge).0) h.apart;
  }

  pub Fits-same : (before : Database) → Fits before a → Fits before b
  Fits-same before h = record {
    graph = FitsGraph-same before.graph h.graph;
    labels_new = subst (All (λ text. ¬ Contains before.labels text)) (sym same.labels) h.labels_new;
    labels_distinct = subst (AllPairs (λ a b. a ≢ b)) (sym same.labels) h.labels_distinct;
    labels_formed = subst (All IsLabel) (sym same.labels) h.labels_formed;
    few_labels = subst (λ (labels : List (List ℕ)). length before.labels + length labels ≤ LABELS)
        (sym same.labels) h.few_labels;
    added_labelled = subst
        (λ (labels : List (List ℕ)). All (λ edge. edge.label.0 < length (before.labels ++ labels)) b.added)
        (sym same.labels)
        (All-among (λ edge. edge.label.0 < length (before.labels ++ a.labels))
        (λ edge. edge.label.0 < length (before.labels ++ a.labels)) a.added b.added
        (λ edge there. there) (λ edge. (same.added edge).0) h.added_labelled);
    removed_labelled = subst
        (λ (labels : List (List ℕ)). All (λ edge. edge.label.0 < length (before.labels ++ labels)) b.removed)
        (sym same.labels)
        (All-among (λ edge. edge.label.0 < length (before.labels ++ a.labels))
        (λ edge. edge.label.0 < length (before.labels ++ a.labels)) a.removed b.removed
        (λ edge there. there) (λ edge. (same.removed edge).0) h.removed_labelled);
  }

  pub AddsToAtom-same : (graph : OemGraph) → AddsToAtom graph a → AddsToAtom graph b
  AddsToAtom-same graph h = record {
    edge = h.edge;
    value = h.value;
    added = (same.added h.edge).1 h.added;
    valued = h.valued;
    atomic = h.atomic;
  }

  pub HidesChildren-same : (graph : OemGraph) → HidesChildren graph a → HidesChildren graph b
  HidesChildren-same graph h = record {
    oid = h.oid;
    value = h.value;
    valued = subst (λ (values : List (Oid × Value)). Contains values (h.oid, h.value)) (sym same.values) h.valued;
    atomic = h.atomic;
    parent = h.parent;
  }

  pub Outgrows-same : (graph : OemGraph) (count : OemGraph → ℕ) (limit : ℕ) → Outgrows graph a count limit
      → Outgrows graph b count limit
  Outgrows-same graph count limit h = (h.0, IsGraphAfter-same graph h.0 h.1, h.2)
