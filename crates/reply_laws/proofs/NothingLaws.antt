-- Changes that list nothing lead from a valid database to itself, and nowhere else.
use Rattle.std.proofs.Common.{◌≡◌, ℕ, inl, inr, List, [], refl, sym, arith}
use Rattle.std.specs.List.{Contains}
use Rattle.std.proofs.lemmas.List.{append-nil}
use Rattle.std.proofs.lemmas.List.Elements.{All-contains}
use Rattle.statements.specs.Types.{Oid, Edge, Value, Complex}
use Rattle.lore_base.specs.Databases.{OemGraph, Database, IsLinked, IsReached, IsRooted, IsValid}
use Rattle.lore_base.specs.ChangeSets.{NamesThen, ObjectsThen, AreEdgesThen, IsReachedThen, IsGraphAfter, IsAfter}
use Rattle.lore_base.proofs.MemberLaws.{Contains-none}
use Rattle.lorel_trees.specs.Trees.{StatementTree}
use Rattle.updates.specs.Effects.{no_changes, changes_by}
use Rattle.oem_changes.proofs.DeterminedLaws.{one_database_after}
use Rattle.oem_changes.proofs.ValidLaws.{rooted_graph}

name_stays : (names : List (List ℕ × Oid)) (entry : List ℕ × Oid) → Contains names entry → NamesThen names no_changes entry
name_stays names entry at = inr (
  at,
  λ renamed. elim renamed [
    | inl bound ↦ Contains-none (entry.0, bound.0) bound.1
    | inr gone ↦ Contains-none entry.0 gone
  ],
)

name_was : (names : List (List ℕ × Oid)) (entry : List ℕ × Oid) → NamesThen names no_changes entry → Contains names entry
name_was names entry (inl named) = absurd (Contains-none entry named)
name_was names entry (inr kept) = kept.0

object_stays : (objects : List (Oid × Value)) (object : Oid × Value) → Contains objects object → ObjectsThen objects no_changes object
object_stays objects object at = inr (inr (at, λ live. Contains-none (object.0, live.0) live.1))

object_was : (objects : List (Oid × Value)) (object : Oid × Value) → ObjectsThen objects no_changes object → Contains objects object
object_was objects object (inl made) = absurd (Contains-none object made)
object_was objects object (inr (inl valued)) = absurd (Contains-none object valued)
object_was objects object (inr (inr kept)) = kept.0

module _ (graph : OemGraph) (rooted : IsRooted graph) where
  edges_stay : AreEdgesThen graph.edges no_changes graph.edges
  edges_stay = record {
    ascend = rooted.well_formed.ordered.edges_ascend;
    exact = λ edge. (
      λ at. inr (at, λ gone. Contains-none edge gone),
      λ then. elim then [ inl added ↦ absurd (Contains-none edge added) | inr kept ↦ kept.0 ],
    );
  }

  reached_then : (object : Oid × Value) → Contains graph.objects object → IsReachedThen graph.names no_changes graph.edges object.0
  reached_then object at =
      let reached = All-contains (λ (one : Oid × Value). IsReached graph.names graph.edges one.0) graph.objects object rooted.reached at in
      record {
        name = reached.name;
        start = reached.start;
        word = reached.word;
        named = name_stays graph.names (reached.name, reached.start) reached.named;
        walked = reached.walked;
      }

  parent_then : (edge : Edge) → Contains graph.edges edge → IsReachedThen graph.names no_changes graph.edges edge.parent
  parent_then edge at =
      let linked = All-contains (IsLinked graph.objects) graph.edges edge rooted.well_formed.edges_linked at in
      reached_then (edge.parent, Complex) linked.parent

  graph_stays : IsGraphAfter graph no_changes graph
  graph_stays = record {
    between = graph.edges;
    linked = edges_stay;
    names_ascend = rooted.well_formed.ordered.names_ascend;
    names = λ entry. (name_stays graph.names entry, name_was graph.names entry);
    objects_ascend = rooted.well_formed.ordered.objects_ascend;
    objects = λ object. (
      λ at. (object_stays graph.objects object at, reached_then object at),
      λ then. object_was graph.objects object then.0,
    );
    edges_ascend = rooted.well_formed.ordered.edges_ascend;
    edges = λ edge. (λ at. (at, parent_then edge at), λ then. then.0);
    next = omega arith;
  }

database_stays : (db : Database) → IsValid db → IsAfter db no_changes db
database_stays db valid = record {
  labels = sym (append-nil db.labels);
  graph = graph_stays db.graph (rooted_graph db valid);
  nodes = refl;
  mode = refl;
}

pub nothing_changed : (before after : Database) (statement : StatementTree)
    → IsValid before → IsAfter before (changes_by before.labels before.graph statement []) after → after ≡ before
nothing_changed before after statement valid is = one_database_after before no_changes after before is (database_stays before valid)
