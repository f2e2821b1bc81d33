-- The texts and numbers of a restorable database keep the forms and limits that tokens have.
use Rattle.std.proofs.Common.{ℕ, ◌<◌, ◌≤◌, List, [], length, get_or, Option, All, subst, sym, arith}
use Rattle.std.specs.Prelude.{FitsSigned, pos}
use Rattle.std.specs.Option.{unwrap_or}
use Rattle.std.specs.Int.{w64}
use Rattle.std.proofs.lemmas.Option.{slice_get-get_or}
use Rattle.std.proofs.lemmas.List.Elements.{All-map, All-get_or, All-contains}
use Rattle.dump_laws.specs.Types.{Oid, Edge, Value, Complex}
use Rattle.lore_base.specs.Names.{IsLabel}
use Rattle.lore_base.specs.Databases.{Database, OemGraph, IsLive, IsLinked, IsWellFormed}
use Rattle.lorel_trees.specs.Formed.{IsLocalNumber, IsFormedEdge, IsFormedDump}
use Rattle.dump_text.specs.Dumps.{table_text, spelled_edge, dump_tree}
use Rattle.lore_base.specs.Databases.{IsRestorable}

fits : (number : ℕ) → number ≤ 4294967296 → FitsSigned w64 (pos number)
fits number small = record { sfits = omega arith }

-- the number of a live object
live_local : (graph : OemGraph) → IsWellFormed graph → (oid : Oid) → IsLive graph.objects oid → IsLocalNumber oid.0
live_local graph well oid live =
    let numbered = All-contains (λ (object : Oid × Value). (1 ≤ object.0.0) × (object.0.0 < graph.next)) graph.objects (oid, live.0) well.ordered.objects_numbered live.1 in
    omega (arith, numbered.1, well.ordered.next_numbered.1)

-- a text of the table
pub text_among : (labels : List (List ℕ)) (Is : List ℕ → Type 0) → All Is labels → (edge : Edge) → edge.label.0 < length labels → Is (table_text labels edge.label)
text_among labels Is are edge low =
    subst (λ (found : Option (List ℕ)). Is (unwrap_or found [])) (sym (slice_get-get_or labels edge.label.0 [] low)) (All-get_or Is labels edge.label.0 [] low are)

formed_edge : (db : Database) → IsRestorable db → (edge : Edge) → IsLinked db.graph.objects edge → edge.label.0 < length db.labels → IsFormedEdge (spelled_edge db.labels edge)
formed_edge db is edge linked low =
    let well = is.rooted.well_formed in
    (live_local db.graph well edge.parent (Complex, linked.parent), text_among db.labels IsLabel is.labels_formed edge low, live_local db.graph well edge.child linked.child)

pub formed_dump : (db : Database) → IsRestorable db → IsFormedDump (dump_tree db)
formed_dump db is =
    let graph = db.graph in
    let well = is.rooted.well_formed in
    record {
      version = fits 2 (omega arith);
      next = fits graph.next well.ordered.next_numbered.1;
      nodes = fits db.nodes (omega (arith, is.nodes_limited.1));
      labels = is.labels_formed;
      names = λ i d low. (well.names_formed i d low, live_local graph well _ (well.names_live i d low));
      objects = λ i d low. (let numbered = well.ordered.objects_numbered i d low in omega (arith, numbered.1, well.ordered.next_numbered.1), well.objects_sized i d low);
      edges = All-map IsFormedEdge (spelled_edge db.labels) graph.edges (λ i d low. formed_edge db is (get_or graph.edges i d) (well.edges_linked i d low) (is.labelled i d low));
    }
