-- How many edges there are behind a plan.
use Rattle.std.proofs.Common.{◌≡◌, ◌↔◌, ◌+◌, not, Less, List, length, Contains, refl, ap, arith}
use Rattle.std.specs.List.{filter}
use Rattle.std.proofs.lemmas.List.Filters.{length-filter_both}
use Rattle.std.proofs.lemmas.List.Kept.{AllPairs-filter}
use Rattle.slab.specs.Slab.{Slab}
use Rattle.lore_base.specs.Walks.{edge_cmp}
use Rattle.lore_base.specs.Databases.{AreAscendingEdges}
use Rattle.lore_base.proofs.MemberLaws.{Contains-filter, unfiltered}
use Rattle.edge_lists.specs.Views.{edges_of, is_there, those_there}
use Rattle.edge_lists.proofs.ViewLaws as views
use Rattle.edge_lists.proofs.ViewLaws.{edges_ascend}
use Rattle.oem_graph.specs.Types.{Edge, EdgeRecord}
use Rattle.graph_changes.specs.Puts.{put_edges}
use Rattle.edge_layers.specs.EdgeTests.{is_listed}
use Rattle.edge_layers.specs.Layers.{staying}
use Rattle.edge_layers.proofs.LayerLaws.{same-edges}
use Rattle.graph_changes.proofs.PutLaws.{length-put_edges}
use Rattle.edge_layers.proofs.SearchLaws.{listed, unlisted}

module _ (records : Slab EdgeRecord) (gone : List Edge) where
  abbrev kept : List Edge
  kept = edges_of records

  -- those of the edges that are there
  pub members-there : (edge : Edge) → Contains (those_there records gone) edge ↔ (Contains gone edge × Contains (edges_of records) edge)
  members-there edge = (
    λ at. (let passed = unfiltered (is_there records) gone edge at in (passed.0, views.unlisted kept edge passed.1)),
    λ both. Contains-filter (is_there records) gone edge both.0 (views.listed kept edge both.1),
  )

  -- what stays and what goes is what there was
  pub length-left : AreAscendingEdges gone → length (staying gone (edges_of records)) + length (those_there records gone) ≡ length (edges_of records)
  length-left ascend =
      let both = length-filter_both (is_listed gone) (λ e. not (is_listed gone e)) (λ e. refl) kept in
      let same : filter (is_listed gone) kept ≡ those_there records gone =
      same-edges (filter (is_listed gone) kept) (those_there records gone)
      (AllPairs-filter (λ a b. edge_cmp a b ≡ Less) (is_listed gone) kept (edges_ascend records))
      (AllPairs-filter (λ a b. edge_cmp a b ≡ Less) (is_there records) gone ascend)
      (λ edge. (
        λ at. (let passed = unfiltered (is_listed gone) kept edge at in (members-there edge).1 (unlisted gone edge passed.1, passed.0)),
        λ at. (let there = (members-there edge).0 at in Contains-filter (is_listed gone) kept edge there.1 (listed gone edge there.0)),
      )) in
      omega (arith, both, ap length same)

  -- so many there are then
  pub length-then : (come : List Edge) → AreAscendingEdges gone
      → length (put_edges (staying gone (edges_of records)) come) + length (those_there records gone) ≡ length (edges_of records) + length come
  length-then come ascend = omega (arith, length-put_edges (staying gone kept) come, length-left ascend)
