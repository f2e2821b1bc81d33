-- The new store: nothing is in it.
use Rattle.std.proofs.Common.{◌≡◌, ◌≢◌, ℕ, List, [], ◌∷◌, sym, subst, arith}
use Rattle.std.specs.List.{All, AllPairs}
use Rattle.std.specs.List.Sorted.{IsStrictlySortedBy}
use Rattle.std.proofs.lemmas.List.Elements.{All-contains}
use Rattle.lore_store.specs.Types.{Auto, START_NODES, Edge}
use Rattle.lore_base.specs.TargetSets.{IsLedTo}
use Rattle.lore_base.specs.GuideLimits.{KeepLimits}
use Rattle.lore_base.specs.declared.edges.Oid.{Oid}
use Rattle.lore_base.specs.Databases.{OemGraph, IsValid, new_database, new_graph}
use Rattle.lore_base.proofs.MemberLaws.{Contains-none, Contains-head}
use Rattle.list_laws.proofs.PairLaws.{AllPairs-nil}
use Rattle.dataguide.specs.Types.{GuideNode}
use Rattle.dataguide.specs.Guides.{GuideGraph, StandsFor, sets_of}
use Rattle.lore_base.specs.PathOrder.{AreInPathOrder, ComesBefore}
use Rattle.index_traits.specs.declared.entries.ValueEntry.{ValueEntry}
use Rattle.index_traits.specs.Entries.{AreLinks, AreValueEntries}
use Rattle.lore_store.specs.declared.indexes.Indexes.{Indexes}
use Rattle.lore_store.specs.Indexes.{AreIndexes}
use Rattle.lore_store.specs.Stores.{IsStored, database_of}

-- without names no set is led to
pub new_fits : (limit : ℕ) (edges : List Edge) (sets : List (List Oid)) → AllPairs (λ a b. a ≢ b) sets → All (IsLedTo [] edges) sets
    → KeepLimits limit sets
new_fits limit edges [] apart led = record { few = omega arith; small = omega arith }
new_fits limit edges (set ∷ sets) apart led =
    absurd (Contains-none _ (All-contains (IsLedTo [] edges) (set ∷ sets) set led (Contains-head set sets)).1.named)

-- the new database is valid
pub new_valid : IsValid new_database
unfolding IsStrictlySortedBy
new_valid = record {
  restorable = record {
    labels_distinct = λ i j d low within. absurd (omega (arith, within));
    labels_formed = λ k d low. absurd (omega (arith, low));
    rooted = record {
      well_formed = record {
        ordered = record {
          names_ascend = tt;
          objects_ascend = λ i j d low within. absurd (omega (arith, within));
          objects_numbered = λ k d low. absurd (omega (arith, low));
          edges_ascend = λ i j d low within. absurd (omega (arith, within));
          next_numbered = (omega arith, omega arith);
        };
        names_formed = λ k d low. absurd (omega (arith, low));
        names_live = λ k d low. absurd (omega (arith, low));
        objects_sized = λ k d low. absurd (omega (arith, low));
        edges_linked = λ k d low. absurd (omega (arith, low));
      };
      reached = λ k d low. absurd (omega (arith, low));
    };
    labelled = λ k d low. absurd (omega (arith, low));
    few_labels = omega arith;
    few_names = omega arith;
    few_objects = omega arith;
    few_edges = omega arith;
    nodes_limited = (omega arith, omega arith);
  };
  fits = new_fits START_NODES [];
}

new_order : (nodes : List GuideNode) → nodes ≡ [] → AreInPathOrder [] [] (sets_of nodes)
new_order nodes none = rw none (record { paths = []; least = tt; ascending = AllPairs-nil ComesBefore })

new_links : (links : List Edge) → links ≡ [] → AreLinks [] links
new_links links none = rw none (record { ascend = λ i j d low within. absurd (omega (arith, within)); exact = λ edge. (λ at. at, λ at. at) })

new_entries : (list : List ValueEntry) → list ≡ [] → AreValueEntries [] [] list
new_entries list none = rw none (record {
  ascend = λ i j d low within. absurd (omega (arith, within));
  exact = λ entry. (λ at. absurd (Contains-none entry at), λ h. absurd (Contains-none _ h.live));
})

pub new_indexes : (kept : Indexes) → kept.links.links ≡ [] → kept.values.entries ≡ [] → AreIndexes new_graph kept
new_indexes kept links entries = record { links = new_links kept.links.links links; values = new_entries kept.values.entries entries }

pub new_stored : (labels : List (List ℕ)) (graph : OemGraph) (kept : Indexes) (guide : GuideGraph)
    → labels ≡ [] → graph ≡ new_graph → AreIndexes new_graph kept → guide.nodes ≡ [] → StandsFor guide [] []
    → IsStored (database_of labels graph START_NODES Auto) kept guide
new_stored labels graph kept guide no_label is indexes nodes stands =
    subst (λ (l : List (List ℕ)). IsStored (database_of l graph START_NODES Auto) kept guide) (sym no_label)
    (subst (λ (g : OemGraph). IsStored (database_of [] g START_NODES Auto) kept guide) (sym is)
    (record {
      valid = new_valid;
      indexes = indexes;
      guided = record { stands = stands; order = new_order guide.nodes nodes };
    }))
