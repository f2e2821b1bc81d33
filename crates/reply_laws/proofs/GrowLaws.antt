-- What was a database at its time is one later on, with the labels and numbers of then: these only grow.
use Rattle.std.proofs.Common.{◌≡◌, ◌≤◌, List, length, All, refl, ap, arith, length-append}
use Rattle.lore_base.specs.Databases.{Database, IsValid, IsRestorable}
use Rattle.lore_base.specs.ChangeSets.{IsAfter}
use Rattle.lorel_trees.specs.Trees as t
use Rattle.lorel_trees.specs.Trees.{StatementTree}
use Rattle.doem_history.specs.Moments.{Moment, IsInOrder}
use Rattle.statements.specs.Types.{Changes}
use Rattle.statements.specs.Statements.{Fulfils}
use Rattle.lore_db.specs.Types.{Reply}
use Rattle.lore_db.specs.States.{database_at, IsRestore}

-- there are no fewer labels, and the next number is no less
pub record Grows (before after : Database) : Type 0 where
  pub labels : length before.labels ≤ length after.labels
  pub next : before.graph.next ≤ after.graph.next

alike_grows : (before after other : Database) → after ≡ other → length other.labels ≡ length before.labels → other.graph.next ≡ before.graph.next
    → Grows before after
alike_grows before after other same labels next = record {
  labels = omega (arith, ap (λ (db : Database). length db.labels) same, labels);
  next = omega (arith, ap (λ (db : Database). db.graph.next) same, next);
}

changes_grow : (before after : Database) (changes : Changes) → IsAfter before changes after → Grows before after
changes_grow before after changes is = record {
  labels = omega (arith, ap length is.labels, length-append before.labels changes.labels);
  next = omega (arith, is.graph.next);
}

-- all that statements do makes them grow, unless a dump is restored
pub grown : (before : Database) (statement : StatementTree) (reply : Reply) (after : Database) → (IsRestore statement → ⊥)
    → Fulfils before statement reply after → Grows before after
grown before (t.select query) reply after stays does = alike_grows before after before does.0 refl refl
grown before (t.explain query) reply after stays does = alike_grows before after before does.0 refl refl
grown before t.guide reply after stays does = alike_grows before after before does.0 refl refl
grown before (t.browse start labels) reply after stays does = alike_grows before after before does.0 refl refl
grown before (t.sample start labels count) reply after stays does = alike_grows before after before does.0 refl refl
grown before t.dump reply after stays does = alike_grows before after before does.0 refl refl
grown before (t.set_nodes nodes) reply after stays does = alike_grows before after (record before { nodes = does.0.0 }) does.0.2 refl refl
grown before (t.set_plan mode) reply after stays does = alike_grows before after (record before { mode = mode }) does.0 refl refl
grown before (t.restore text) reply after stays does = absurd (stays tt)
grown before (t.history on) reply after stays does = absurd does
grown before (t.select_at given query) reply after stays does = absurd does
grown before (t.changes first last) reply after stays does = absurd does
grown before t.blocks reply after stays does = alike_grows before after before does.0 refl refl
grown before (t.blocks_of query) reply after stays does = alike_grows before after before does.0 refl refl
grown before (t.watch name query) reply after stays does = absurd does
grown before (t.unwatch name) reply after stays does = absurd does
grown before (t.show name) reply after stays does = absurd does
grown before statement reply after stays does = changes_grow before after _ does.0.2

-- a moment that was a database is one with what has grown
pub restorable_later : (before after : Database) (moment : Moment) → Grows before after → IsValid after
    → IsRestorable (database_at before moment) → IsRestorable (database_at after moment)
restorable_later before after moment grows valid is =
    let now = valid.restorable in
    let formed = is.rooted.well_formed in
    let order = formed.ordered in
    record {
      labels_distinct = now.labels_distinct;
      labels_formed = now.labels_formed;
      rooted = record {
        well_formed = record {
          ordered = record {
            names_ascend = order.names_ascend;
            objects_ascend = order.objects_ascend;
            objects_numbered = λ place other within.
                let numbered = order.objects_numbered place other within in
                (numbered.0, omega (arith, numbered.1, grows.next));
            edges_ascend = order.edges_ascend;
            next_numbered = now.rooted.well_formed.ordered.next_numbered;
          };
          names_formed = formed.names_formed;
          names_live = formed.names_live;
          objects_sized = formed.objects_sized;
          edges_linked = formed.edges_linked;
        };
        reached = is.rooted.reached;
      };
      labelled = λ place other within. let labelled = is.labelled place other within in omega (arith, labelled, grows.labels);
      few_labels = now.few_labels;
      few_names = is.few_names;
      few_objects = is.few_objects;
      few_edges = is.few_edges;
      nodes_limited = now.nodes_limited;
    }

pub all_later : (before after : Database) (moments : List Moment) → Grows before after → IsValid after
    → All (λ moment. IsRestorable (database_at before moment)) moments → All (λ moment. IsRestorable (database_at after moment)) moments
all_later before after moments grows valid each = λ place other within. restorable_later before after _ grows valid (each place other within)

-- and each is in order
pub all_ordered : (db : Database) (moments : List Moment) → All (λ moment. IsRestorable (database_at db moment)) moments → All IsInOrder moments
all_ordered db moments each = λ place other within.
    let order = (each place other within).rooted.well_formed.ordered in
    record { names = order.names_ascend; objects = order.objects_ascend; edges = order.edges_ascend }
