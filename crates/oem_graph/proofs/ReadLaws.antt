-- What readers of a graph see: an object's edges, and its value.
use Rattle.std.proofs.Common.{◌≡◌, ◌⊎◌, ◌↔◌, ℕ, zero, suc, ◌==◌, ◌++◌, Less, Some, Option, None, List, [], ◌∷◌, map, Contains, sym, ap, ◌∙◌, inl, inr, refl}
use Rattle.std.specs.List.{slice_get}
use Rattle.std.specs.Option.{IfNone}
use Rattle.std.proofs.lemmas.List.Kept.{AllPairs-filter}
use Rattle.slab.specs.Slab.{Slab}
use Rattle.near_links.proofs.AheadLaws.{some_same}
use Rattle.lore_base.specs.Walks.{edge_cmp, out_of}
use Rattle.lore_base.specs.Databases.{AreAscendingObjects, IsLive}
use Rattle.edge_lists.specs.Objects.{object_of}
use Rattle.edge_lists.specs.Runs.{ListsRun}
use Rattle.edge_lists.specs.Views.{edges_of}
use Rattle.edge_lists.proofs.ViewLaws.{edges_lie, edges_ascend}
use Rattle.oem_graph.specs.Types.{Oid, Edge, Value, Out, EdgeRecord, ObjectRecord}
use Rattle.graph_changes.specs.Puts.{with_objects}
use Rattle.graph_changes.specs.Left.{not_dead}
use Rattle.graph_changes.proofs.GivenLaws.{members-with_objects}
use Rattle.edge_layers.proofs.LayerLaws.{same-edges}
use Rattle.graph_changes.proofs.LeftLaws.{members-not_dead, ascend-not_dead}
use Rattle.edge_layers.proofs.TurnLaws.{in_run}

-- an object's list is the run of its edges
pub list-is : (records : Slab EdgeRecord) (oid : Oid) (old new : List Edge) → ListsRun Out records oid old new → new ≡ old ++ out_of oid (edges_of records)
list-is records oid old new run = run.is ∙ ap (λ (l : List Edge). old ++ l) (same-edges run.run (out_of oid (edges_of records)) run.ascends
    (AllPairs-filter (λ a b. edge_cmp a b ≡ Less) (λ (e : Edge). e.parent.0 == oid.0) (edges_of records) (edges_ascend records))
    (λ edge. (
      λ at. (let both = (run.exact edge).0 at in (in_run oid (edges_of records) edge).1 ((edges_lie records edge).1 both.0, both.1)),
      λ at. (let both = (in_run oid (edges_of records) edge).0 at in (run.exact edge).1 ((edges_lie records edge).0 both.0, both.1)),
    )))

-- ---- values as they are once objects are dead and others given
module _ (dead : List Oid) (objects given : List (Oid × Value)) (ascend : AreAscendingObjects objects) (ordered : AreAscendingObjects given) where
  abbrev whole : List (Oid × Value)
  whole = with_objects (not_dead dead objects) given

  members : (o : Oid × Value) → Contains whole o ↔ (Contains given o ⊎ (Contains (not_dead dead objects) o × (IsLive given o.0 → ⊥)))
  members o = members-with_objects (not_dead dead objects) given (ascend-not_dead dead objects ascend) ordered o

  pub given-value : (oid : Oid) (value : Value) → Contains given (oid, value) → Contains (with_objects (not_dead dead objects) given) (oid, value)
  given-value oid value at = (members (oid, value)).1 (inl at)

  pub kept-value : (oid : Oid) (value : Value) → (IsLive given oid → ⊥) → (Contains dead oid → ⊥) → Contains objects (oid, value)
      → Contains (with_objects (not_dead dead objects) given) (oid, value)
  kept-value oid value none lives at = (members (oid, value)).1 (inr ((members-not_dead dead objects (oid, value)).1 (at, lives), none))

  pub value-kept : (oid : Oid) (value : Value) → (IsLive given oid → ⊥) → Contains (with_objects (not_dead dead objects) given) (oid, value)
      → Contains objects (oid, value) × (Contains dead oid → ⊥)
  value-kept oid value none at = elim ((members (oid, value)).0 at) [
    | inl new ↦ absurd (none (value, new))
    | inr old ↦ (members-not_dead dead objects (oid, value)).0 old.0
  ]

-- ---- numbers of objects, as contracts see them and as they are kept
pub object-at : (objects : List ObjectRecord) (i : ℕ) (object : ObjectRecord) → slice_get objects i ≡ Some object
    → Some object.oid ≡ slice_get (map (λ (o : Oid × Value). o.0) (map object_of objects)) i
object-at [] i object at = absurd (cc)
object-at (first ∷ objects) zero object at = ap (λ (o : ObjectRecord). Some o.oid) (some_same (sym at))
object-at (first ∷ objects) (suc i) object at = object-at objects i object at

pub no-object : (objects : List ObjectRecord) (i : ℕ) → slice_get objects i ≡ None → None ≡ slice_get (map (λ (o : Oid × Value). o.0) (map object_of objects)) i
no-object [] i none = refl
no-object (first ∷ objects) zero none = absurd (cc)
no-object (first ∷ objects) (suc i) none = no-object objects i none

pub none_then : {X A B : Type 0} (found : Option X) → IfNone found (A → ⊥) → (B → A) → IfNone found (B → ⊥)
none_then None none back = λ b. none (back b)
none_then (Some x) none back = tt
