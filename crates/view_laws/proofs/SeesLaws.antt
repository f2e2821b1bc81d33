-- Where a change doesn't concern a select, the select sees the same in both databases: the names at which its paths start,
-- the walks of their parts, and, where it compares values, the values of objects that stay.
use Rattle.std.proofs.Common.{◌≡◌, ℕ, ◌<◌, inl, inr, List, [], ◌∷◌, ◌++◌, length, Some, All, sym, ap, subst}
use Rattle.std.specs.List.{Contains}
use Rattle.std.proofs.lemmas.List.Elements.{All-weaker}
use Rattle.view_laws.specs.Types.{Oid, Label, Edge, Value, Delta}
use Rattle.lore_base.specs.Names.{object_of}
use Rattle.lore_base.specs.Databases.{Database, IsLive}
use Rattle.lore_base.specs.Walks.{Walk}
use Rattle.lore_base.specs.Paths.{PathTree, seq, trees_of, Spells}
use Rattle.lore_base.specs.LeastWords.{IsSpelledWalk}
use Rattle.lorel_trees.specs.Trees.{SelectTree}
use Rattle.lorel_ranges.specs.Places.{Place}
use Rattle.lorel_ranges.specs.Texts.{text_places}
use Rattle.lorel_bind.specs.Answers.{HasValue}
use Rattle.live_views.specs.Concerns.{IsStart, HasStepIn, IsStepped, ComparesValues, Concerns}
use Rattle.view_laws.specs.Laws.{IsChange}
use Rattle.lore_base.proofs.NameLaws.{bound_found, found_bound}
use Rattle.lore_base.proofs.ToldLaws.{IsTold, told_same, told_both, told_member, told_bytes, told_oid, told_edge, told_value}
use Rattle.index_traits.proofs.ObjectLaws.{one_value_of}
use Rattle.view_laws.proofs.StepLaws.{spells_stepped, spells_other, FitsToo, fits_more, fits_fewer, walk_labels, walk_over}

-- parts that stand side by side in some path of the text
pub record IsPiece (query : SelectTree) (parts : List PathTree) : Type 0 where
  pub place : Place
  pub front : List PathTree
  pub back : List PathTree
  pub there : Contains (text_places query) place
  pub is : place.parts ≡ front ++ (parts ++ back)

-- names with their objects, and objects with their values, can be told apart
told_pair : {X Y : Type 0} → ((a b : X) → IsTold (a ≡ b)) → ((a b : Y) → IsTold (a ≡ b)) → (a b : X × Y) → IsTold (a ≡ b)
told_pair {X} {Y} first second a b =
    told_same (λ (same : (a.0 ≡ b.0) × (a.1 ≡ b.1)). λ i. (same.0 i, same.1 i))
    (λ is. (ap (λ (pair : X × Y). pair.0) is, ap (λ (pair : X × Y). pair.1) is))
    (told_both (first a.0 b.0) (second a.1 b.1))

told_name : (a b : List ℕ × Oid) → IsTold (a ≡ b)
told_name = told_pair told_bytes told_oid

told_object : (a b : Oid × Value) → IsTold (a ≡ b)
told_object = told_pair told_oid told_value

-- what the select sees in the one database it sees in the other too
pub record Sees (query : SelectTree) (from to : Database) : Type 0 where
  pub names : (name : List ℕ) (oid : Oid) → IsStart query name → object_of from.graph.names name ≡ Some oid
      → object_of to.graph.names name ≡ Some oid
  pub walks : (parts : List PathTree) → IsPiece query parts → (x y : Oid) (word : List Label)
      → IsSpelledWalk from.labels from.graph.edges (seq (trees_of parts)) x y word
      → IsSpelledWalk to.labels to.graph.edges (seq (trees_of parts)) x y word
  pub values : ComparesValues query → (oid : Oid) (value : Value) → IsLive to.graph.objects oid
      → HasValue from oid value → HasValue to oid value

-- ---- steps of a piece are steps of the path
step_left : (labels : List (List ℕ)) (parts further : List PathTree) (label : Label) → HasStepIn labels (trees_of parts) label
    → HasStepIn labels (trees_of (parts ++ further)) label
step_left labels [] further label h = absurd h
step_left labels (part ∷ parts) further label (inl h) = inl h
step_left labels (part ∷ parts) further label (inr h) = inr (step_left labels parts further label h)

step_right : (labels : List (List ℕ)) (front parts : List PathTree) (label : Label) → HasStepIn labels (trees_of parts) label
    → HasStepIn labels (trees_of (front ++ parts)) label
step_right labels [] parts label h = h
step_right labels (part ∷ front) parts label h = inr (step_right labels front parts label h)

piece_stepped : (labels : List (List ℕ)) (query : SelectTree) (parts : List PathTree) → IsPiece query parts → (label : Label)
    → HasStepIn labels (trees_of parts) label → IsStepped labels query label
piece_stepped labels query parts piece label h = (
  piece.place,
  piece.there,
  subst (λ (ps : List PathTree). HasStepIn labels (trees_of ps) label) (sym piece.is)
      (step_right labels piece.front (parts ++ piece.back) label (step_left labels parts piece.back label h)),
)

-- ---- a change that doesn't concern the select
module _ (before after : Database) (delta : Delta) (query : SelectTree) (change : IsChange before after delta)
    (free : Concerns after.labels query delta → ⊥) where
  -- names
  name_stays : (name : List ℕ) (oid : Oid) → IsStart query name → Contains before.graph.names (name, oid) → Contains after.graph.names (name, oid)
  name_stays name oid start there = elim (told_member told_name after.graph.names (name, oid)) [
    | inl stays ↦ stays
    | inr lost ↦ absurd (free (inl (name, start, inl (oid, (change.differs.names_gone (name, oid)).1 (there, lost)))))
  ]

  name_was : (name : List ℕ) (oid : Oid) → IsStart query name → Contains after.graph.names (name, oid) → Contains before.graph.names (name, oid)
  name_was name oid start there = elim (told_member told_name before.graph.names (name, oid)) [
    | inl was ↦ was
    | inr fresh ↦ absurd (free (inl (name, start, inr (oid, (change.differs.names_come (name, oid)).1 (there, fresh)))))
  ]

  -- edges whose labels fit a step
  edge_stays : (edge : Edge) → IsStepped after.labels query edge.label → Contains before.graph.edges edge → Contains after.graph.edges edge
  edge_stays edge stepped there = elim (told_member told_edge after.graph.edges edge) [
    | inl stays ↦ stays
    | inr lost ↦ absurd (free (inr (inl (edge, inl ((change.differs.edges_gone edge).1 (there, lost)), stepped))))
  ]

  edge_was : (edge : Edge) → IsStepped after.labels query edge.label → Contains after.graph.edges edge → Contains before.graph.edges edge
  edge_was edge stepped there = elim (told_member told_edge before.graph.edges edge) [
    | inl was ↦ was
    | inr fresh ↦ absurd (free (inr (inl (edge, inr ((change.differs.edges_come edge).1 (there, fresh)), stepped))))
  ]

  -- walks
  fits_after : (label : Label) → label.0 < length before.labels → FitsToo before.labels after.labels label
  fits_after label low = subst (λ (table : List (List ℕ)). FitsToo before.labels table label) (sym change.labels) (fits_more before.labels change.new_labels label low)

  fits_before : (label : Label) → label.0 < length before.labels → FitsToo after.labels before.labels label
  fits_before label low = subst (λ (table : List (List ℕ)). FitsToo table before.labels label) (sym change.labels) (fits_fewer before.labels change.new_labels label low)

  module _ (parts : List PathTree) (piece : IsPiece query parts) where
    -- each label of a word that the parts spell afterwards fits a step of the text
    word_stepped : (word : List Label) → Spells after.labels (seq (trees_of parts)) word → All (IsStepped after.labels query) word
    word_stepped word spelled =
        All-weaker (HasStepIn after.labels (trees_of parts)) (IsStepped after.labels query) (λ label h. piece_stepped after.labels query parts piece label h) word
        (spells_stepped after.labels (seq (trees_of parts)) word spelled)

    low_walk : (x y : Oid) (word : List Label) → Walk before.graph.edges x word y → All (λ (label : Label). label.0 < length before.labels) word
    low_walk x y word walked = walk_labels (λ (label : Label). label.0 < length before.labels) before.graph.edges change.before_valid.restorable.labelled x word y walked

    walk_stays : (x y : Oid) (word : List Label) → IsSpelledWalk before.labels before.graph.edges (seq (trees_of parts)) x y word
        → IsSpelledWalk after.labels after.graph.edges (seq (trees_of parts)) x y word
    walk_stays x y word h =
        let spelled = spells_other before.labels after.labels (seq (trees_of parts)) word
        (All-weaker (λ (label : Label). label.0 < length before.labels) (FitsToo before.labels after.labels) fits_after word (low_walk x y word h.1)) h.0 in (
          spelled,
          walk_over before.graph.edges after.graph.edges x word y
              (All-weaker (IsStepped after.labels query) (λ label. (edge : Edge) → edge.label ≡ label → Contains before.graph.edges edge → Contains after.graph.edges edge)
              (λ label stepped edge same there. edge_stays edge (subst (IsStepped after.labels query) (sym same) stepped) there) word (word_stepped word spelled))
              h.1,
        )

    walk_was : (x y : Oid) (word : List Label) → IsSpelledWalk after.labels after.graph.edges (seq (trees_of parts)) x y word
        → IsSpelledWalk before.labels before.graph.edges (seq (trees_of parts)) x y word
    walk_was x y word h =
        let walked = walk_over after.graph.edges before.graph.edges x word y
        (All-weaker (IsStepped after.labels query) (λ label. (edge : Edge) → edge.label ≡ label → Contains after.graph.edges edge → Contains before.graph.edges edge)
        (λ label stepped edge same there. edge_was edge (subst (IsStepped after.labels query) (sym same) stepped) there) word (word_stepped word h.0))
        h.1 in (
          spells_other after.labels before.labels (seq (trees_of parts)) word
              (All-weaker (λ (label : Label). label.0 < length before.labels) (FitsToo after.labels before.labels) fits_before word (low_walk x y word walked)) h.0,
          walked,
        )

  -- values
  value_stays : ComparesValues query → (oid : Oid) (value : Value) → IsLive after.graph.objects oid → HasValue before oid value → HasValue after oid value
  value_stays compares oid value live there = elim (told_member told_object after.graph.objects (oid, value)) [
    | inl stays ↦ stays
    | inr lost ↦ elim (told_member told_object before.graph.objects (oid, live.0)) [
      | inl was ↦ subst (HasValue after oid) (one_value_of before.graph.objects change.before_valid.restorable.rooted.well_formed.ordered.objects_ascend oid live.0 value was there) live.1
      | inr fresh ↦ absurd (free (inr (inr (
        compares,
        (
          oid,
          (value, (change.differs.objects_gone (oid, value)).1 (there, lost)),
          (live.0, (change.differs.objects_come (oid, live.0)).1 (live.1, fresh)),
        ),
      ))))
    ]
  ]

  value_was : ComparesValues query → (oid : Oid) (value : Value) → IsLive before.graph.objects oid → HasValue after oid value → HasValue before oid value
  value_was compares oid value live there = elim (told_member told_object before.graph.objects (oid, value)) [
    | inl was ↦ was
    | inr fresh ↦ elim (told_member told_object after.graph.objects (oid, live.0)) [
      | inl stays ↦ subst (HasValue before oid) (one_value_of after.graph.objects change.after_valid.restorable.rooted.well_formed.ordered.objects_ascend oid live.0 value stays there) live.1
      | inr lost ↦ absurd (free (inr (inr (
        compares,
        (
          oid,
          (live.0, (change.differs.objects_gone (oid, live.0)).1 (live.1, lost)),
          (value, (change.differs.objects_come (oid, value)).1 (there, fresh)),
        ),
      ))))
    ]
  ]

  pub sees_after : Sees query before after
  sees_after = record {
    names = λ name oid start is. bound_found after.graph.names name oid change.after_valid.restorable.rooted.well_formed.ordered.names_ascend
        (name_stays name oid start (found_bound before.graph.names name oid is));
    walks = λ parts piece x y word h. walk_stays parts piece x y word h;
    values = value_stays;
  }

  pub sees_before : Sees query after before
  sees_before = record {
    names = λ name oid start is. bound_found before.graph.names name oid change.before_valid.restorable.rooted.well_formed.ordered.names_ascend
        (name_was name oid start (found_bound after.graph.names name oid is));
    walks = λ parts piece x y word h. walk_was parts piece x y word h;
    values = value_was;
  }
