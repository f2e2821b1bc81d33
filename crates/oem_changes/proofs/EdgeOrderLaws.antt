-- Edges in ascending order: an order that tells them apart, so lists of the same edges are one.
use Rattle.std.proofs.Common.{◌≡◌, ◌↔◌, List, Less, Equal, arith}
use Rattle.std.specs.List.{Contains}
use Rattle.std.specs.Cmp.{IsTotalOrder}
use Rattle.std.proofs.lemmas.Bool.Decides.{nat_tests}
use Rattle.std.proofs.lemmas.Cmp.{nat_cmp_total, on_total, then_total}
use Rattle.oem_changes.specs.Types.{Edge}
use Rattle.lore_base.specs.Walks.{edge_cmp}
use Rattle.lore_base.specs.Databases.{AreAscendingEdges}
use Rattle.lore_base.proofs.ListLaws.{AllPairs-unique}
use Rattle.list_laws.proofs.AscentLaws.{IsOrder, total_ordered}

pub edge_cmp_total : IsTotalOrder edge_cmp
edge_cmp_total = then_total (on_total (λ e. e.parent.0) nat_cmp_total)
    (then_total (on_total (λ e. e.label.0) nat_cmp_total) (on_total (λ e. e.child.0) nat_cmp_total))

-- edges that compare equal are one
pub equal_edges : (a b : Edge) → edge_cmp a b ≡ Equal → a ≡ b
equal_edges a b level =
    let parent : a.parent.0 ≡ b.parent.0 = grind (arith, nat_tests) in
    let label : a.label.0 ≡ b.label.0 = grind (arith, nat_tests) in
    let child : a.child.0 ≡ b.child.0 = grind (arith, nat_tests) in
    λ i. record { parent = record { 0 = parent i }; label = record { 0 = label i }; child = record { 0 = child i } }

pub edges_ordered : IsOrder (λ a b. edge_cmp a b ≡ Less)
edges_ordered = total_ordered edge_cmp edge_cmp_total equal_edges

-- ascending lists with the same edges are one
pub one_edge_list : (edges others : List Edge) → AreAscendingEdges edges → AreAscendingEdges others
    → ((edge : Edge) → Contains edges edge ↔ Contains others edge) → edges ≡ others
one_edge_list edges others ascend ascend_others same =
    AllPairs-unique (λ a b. edge_cmp a b ≡ Less)
    (λ a b below above. edges_ordered.apart a (edges_ordered.trans a b a below above))
    edges others ascend ascend_others same
