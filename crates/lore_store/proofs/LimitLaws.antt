-- Limits on the guide's nodes: which numbers are some, by the nodes of the guide, and that a database is valid with each.
use Rattle.std.proofs.Common.{ℕ, ◌<◌, ◌≤◌, length, arith}
use Rattle.std.proofs.lemmas.List.{length-map}
use Rattle.lore_store.specs.Types.{Mode, NODES}
use Rattle.lore_base.specs.Databases.{Database, IsRestorable, IsValid}
use Rattle.dataguide.specs.Guides.{GuideGraph}
use Rattle.dataguide.specs.Types.{GuideNode}
use Rattle.dataguide.proofs.CountLaws.{nodes_are_counted}
use Rattle.lore_store.specs.Stores.{IsGuided, IsLimit}

module _ (db : Database) (guide : GuideGraph) (guided : IsGuided db.graph guide) (limit : ℕ) where
  -- the guide has no more nodes than a limit
  pub none_above : IsLimit db limit → limit < length guide.nodes → ⊥
  none_above is more =
      let keep = (nodes_are_counted limit db.graph.names db.graph.edges guide guided.stands).0 is.fits in
      omega (arith, keep.few, more, length-map guide.nodes (λ (node : GuideNode). node.set))

  -- a number in range that is not below the number of nodes is one
  pub is_limit : IsValid db → 1 ≤ limit → limit ≤ NODES → (limit < length guide.nodes → ⊥) → IsLimit db limit
  is_limit valid low high above =
      let keep = (nodes_are_counted db.nodes db.graph.names db.graph.edges guide guided.stands).0 valid.fits in
      record {
        low = low;
        high = high;
        fits = (nodes_are_counted limit db.graph.names db.graph.edges guide guided.stands).1 (record {
          few = omega (arith, above, length-map guide.nodes (λ (node : GuideNode). node.set));
          small = keep.small;
        });
      }

-- the database with a limit in range, in a mode
pub restorable_with : (db : Database) (limit : ℕ) (mode : Mode) → IsRestorable db → (1 ≤ limit) × (limit ≤ NODES)
    → IsRestorable (record db { nodes = limit; mode = mode })
restorable_with db limit mode kept limited = record {
  labels_distinct = kept.labels_distinct;
  labels_formed = kept.labels_formed;
  rooted = kept.rooted;
  labelled = kept.labelled;
  few_labels = kept.few_labels;
  few_names = kept.few_names;
  few_objects = kept.few_objects;
  few_edges = kept.few_edges;
  nodes_limited = limited;
}

pub valid_limited : (db : Database) → IsValid db → (limit : ℕ) → IsLimit db limit → IsValid (record db { nodes = limit })
valid_limited db valid limit is = record {
  restorable = restorable_with db limit db.mode valid.restorable (is.low, is.high);
  fits = is.fits;
}
