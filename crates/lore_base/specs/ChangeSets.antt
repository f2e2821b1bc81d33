-- Changes of a database: when they fit it, what there is once they are made, and what is left once that which no name
-- walks to has vanished. "Then" means once the changes are made, before anything vanishes.
use Rattle.std.specs.Prelude.{◌≡◌, ◌≢◌, ℕ, ◌+◌, ◌<◌, ◌≤◌, ◌⊎◌, ◌↔◌, List, [], ◌∷◌, ◌++◌, length, All, AllPairs}
use Rattle.std.specs.Prelude.{Contains}
use Rattle.lore_base.specs.Types.{Oid, Label, Edge, Value, Complex, Changes, NEXT_NUMBER, LABELS}
use Rattle.lore_base.specs.Names.{IsName, IsLabel, IsNameTable}
use Rattle.lore_base.specs.Walks.{Walk}
use Rattle.lore_base.specs.Databases.{OemGraph, Database, IsLive, IsSized, AreAscendingObjects, AreAscendingEdges}
use Rattle.lore_base.specs.Deltas.{IsOnlyIn}

-- Names, objects and edges then.

-- the name is bound
abbrev pub IsBound : List (List ℕ × Oid) → List ℕ → Type 0
IsBound names name = (oid : Oid) × Contains names (name, oid)

-- the changes bind the name anew or take it away
abbrev pub IsRenamed : Changes → List ℕ → Type 0
IsRenamed changes name = IsBound changes.named name ⊎ Contains changes.unnamed name

-- names keep their objects, save those that are renamed
abbrev pub NamesThen : List (List ℕ × Oid) → Changes → List ℕ × Oid → Type 0
NamesThen names changes entry =
    Contains changes.named entry ⊎ (Contains names entry × (¬ IsRenamed changes entry.0))

-- objects are made, or given values, or stay as they are
abbrev pub ObjectsThen : List (Oid × Value) → Changes → Oid × Value → Type 0
ObjectsThen objects changes object =
    Contains changes.made object
    ⊎ (Contains changes.values object ⊎ (Contains objects object × (¬ IsLive changes.values object.0)))

-- edges are added, or stay where they aren't removed
abbrev pub EdgesThen : List Edge → Changes → Edge → Type 0
EdgesThen edges changes edge =
    Contains changes.added edge ⊎ (Contains edges edge × (¬ Contains changes.removed edge))

abbrev pub IsLiveThen : List (Oid × Value) → Changes → Oid → Type 0
IsLiveThen objects changes oid = (value : Value) × ObjectsThen objects changes (oid, value)

abbrev pub IsComplexThen : List (Oid × Value) → Changes → Oid → Type 0
IsComplexThen objects changes oid = ObjectsThen objects changes (oid, Complex)

-- the list of the edges then
pub record AreEdgesThen (edges : List Edge) (changes : Changes) (between : List Edge) : Type 0 where
  pub ascend : AreAscendingEdges between
  pub exact : (edge : Edge) → Contains between edge ↔ EdgesThen edges changes edge

-- some name walks to the object then
pub record IsReachedThen (names : List (List ℕ × Oid)) (changes : Changes) (between : List Edge) (oid : Oid) : Type 0 where
  pub name : List ℕ
  pub start : Oid
  pub word : List Label
  pub named : NamesThen names changes (name, start)
  pub walked : Walk between start word oid

-- When changes fit.

-- the objects are numbered one after another, from `next` on
abbrev pub AreNumberedFrom : ℕ → List (Oid × Value) → Type 0
AreNumberedFrom next [] = Unit {0}
AreNumberedFrom next (object ∷ others) = (object.0.0 ≡ next) × AreNumberedFrom (next + 1) others

-- some edge leaves the object
abbrev pub HasChildren : List Edge → Oid → Type 0
HasChildren edges oid = (edge : Edge) × Contains edges edge × (edge.parent ≡ oid)

-- the object is live before, or made
abbrev pub IsAtHand : OemGraph → Changes → Oid → Type 0
IsAtHand before changes oid = IsLive before.objects oid ⊎ IsLive changes.made oid

-- the changes fit the graph: what is made is numbered from the next number on; values go to live objects, each once,
-- and an atomic one to none that an edge leaves; names, and edges from objects that are complex then, lead to objects at
-- hand; what is taken away was bound and isn't bound anew; and no edge is both added and removed
pub record FitsGraph (before : OemGraph) (changes : Changes) : Type 0 where
  pub numbered : AreNumberedFrom before.next changes.made
  pub room : before.next + length changes.made ≤ NEXT_NUMBER
  pub made_sized : All (λ object. IsSized object.1) changes.made
  pub values_sized : All (λ object. IsSized object.1) changes.values
  pub values_once : AllPairs (λ a b. a.0 ≢ b.0) changes.values
  pub values_live : All (λ object. IsLive before.objects object.0) changes.values
  pub values_childless :
      All (λ object. (object.1 ≡ Complex) ⊎ (¬ HasChildren before.edges object.0)) changes.values
  pub named_ascend : IsNameTable changes.named
  pub named : All (λ entry. IsName entry.0 × IsAtHand before changes entry.1) changes.named
  pub unnamed : All (λ name. IsBound before.names name × (¬ IsBound changes.named name)) changes.unnamed
  pub added : All (λ edge. IsComplexThen before.objects changes edge.parent × IsAtHand before changes edge.child)
      changes.added
  pub removed : All (λ edge. IsAtHand before changes edge.parent × IsAtHand before changes edge.child) changes.removed
  pub apart : All (λ edge. ¬ Contains changes.removed edge) changes.added

-- the changes fit the database: they fit its graph, their labels are new to the table, which has room for them, and
-- listed edges have labels of the two
pub record Fits (before : Database) (changes : Changes) : Type 0 where
  pub graph : FitsGraph before.graph changes
  pub labels_new : All (λ text. ¬ Contains before.labels text) changes.labels
  pub labels_distinct : AllPairs (λ a b. a ≢ b) changes.labels
  pub labels_formed : All IsLabel changes.labels
  pub few_labels : length before.labels + length changes.labels ≤ LABELS
  pub added_labelled : All (λ edge. edge.label.0 < length (before.labels ++ changes.labels)) changes.added
  pub removed_labelled : All (λ edge. edge.label.0 < length (before.labels ++ changes.labels)) changes.removed

-- What is left.

-- the graph after the changes: of what there is then, that which some name walks to
pub record IsGraphAfter (before : OemGraph) (changes : Changes) (after : OemGraph) : Type 0 where
  pub between : List Edge
  pub linked : AreEdgesThen before.edges changes between
  pub names_ascend : IsNameTable after.names
  pub names : (entry : List ℕ × Oid) → Contains after.names entry ↔ NamesThen before.names changes entry
  pub objects_ascend : AreAscendingObjects after.objects
  pub objects : (object : Oid × Value) → Contains after.objects object
      ↔ (ObjectsThen before.objects changes object × IsReachedThen before.names changes between object.0)
  pub edges_ascend : AreAscendingEdges after.edges
  pub edges : (edge : Edge) → Contains after.edges edge
      ↔ (Contains between edge × IsReachedThen before.names changes between edge.parent)
  pub next : after.next ≡ before.next + length changes.made

-- the database after the changes: its graph, and behind its labels the new ones
pub record IsAfter (before : Database) (changes : Changes) (after : Database) : Type 0 where
  pub labels : after.labels ≡ before.labels ++ changes.labels
  pub graph : IsGraphAfter before.graph changes after.graph
  pub nodes : after.nodes ≡ before.nodes
  pub mode : after.mode ≡ before.mode

-- the objects that vanish, in ascending order: those live then that no name walks to. Each other one is walked to
pub record AreDead (before : OemGraph) (changes : Changes) (dead : List Oid) : Type 0 where
  pub between : List Edge
  pub linked : AreEdgesThen before.edges changes between
  pub ascend : AllPairs (λ a b. a.0 < b.0) dead
  pub vanish : (oid : Oid) → Contains dead oid
      → IsLiveThen before.objects changes oid × (¬ IsReachedThen before.names changes between oid)
  pub stay : (oid : Oid) → IsLiveThen before.objects changes oid
      → Contains dead oid ⊎ IsReachedThen before.names changes between oid

-- the edges then, with those of before that are lost and those that are fresh
pub record IsOverlay (edges : List Edge) (changes : Changes) (between lost fresh : List Edge) : Type 0 where
  pub linked : AreEdgesThen edges changes between
  pub lost_ascend : AreAscendingEdges lost
  pub lost_exact : (edge : Edge) → Contains lost edge ↔ IsOnlyIn edges between edge
  pub fresh_ascend : AreAscendingEdges fresh
  pub fresh_exact : (edge : Edge) → Contains fresh edge ↔ IsOnlyIn between edges edge

-- the second changes are the first, save how often and in which order they list edges
pub record AreSame (first second : Changes) : Type 0 where
  pub made : second.made ≡ first.made
  pub values : second.values ≡ first.values
  pub added : (edge : Edge) → Contains second.added edge ↔ Contains first.added edge
  pub removed : (edge : Edge) → Contains second.removed edge ↔ Contains first.removed edge
  pub named : second.named ≡ first.named
  pub unnamed : second.unnamed ≡ first.unnamed
  pub labels : second.labels ≡ first.labels
