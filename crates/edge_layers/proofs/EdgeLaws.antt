-- Ascending edges: their order, and lists of which one comes behind the other.
use Rattle.std.proofs.Common.{◌≡◌, true, Equal, [], ◌∷◌, arith}
use Rattle.std.specs.Cmp.{IsTotalOrder}
use Rattle.std.proofs.lemmas.Bool.Decides.{nat_tests}
use Rattle.std.proofs.lemmas.Cmp.{nat_cmp_total, on_total, then_total}
use Rattle.edge_layers.specs.Types.{Edge}
use Rattle.edge_layers.specs.EdgeTests.{edge_eq}
use Rattle.lore_base.specs.Walks.{edge_cmp}
use Rattle.lore_base.specs.Databases.{AreAscendingEdges}

pub edge_cmp_total : IsTotalOrder edge_cmp
edge_cmp_total = then_total (on_total (λ e. e.parent.0) nat_cmp_total) (then_total (on_total (λ e. e.label.0) nat_cmp_total) (on_total (λ e. e.child.0) nat_cmp_total))

pub edge_same : (a b : Edge) → edge_eq a b ≡ true → a ≡ b
edge_same a b h =
    let parent : a.parent.0 ≡ b.parent.0 = grind (arith, nat_tests) in
    let label : a.label.0 ≡ b.label.0 = grind (arith, nat_tests) in
    let child : a.child.0 ≡ b.child.0 = grind (arith, nat_tests) in
    λ i. record { parent = record { 0 = parent i }; label = record { 0 = label i }; child = record { 0 = child i } }

pub equal_edges : (a b : Edge) → edge_cmp a b ≡ Equal → a ≡ b
equal_edges a b h = edge_same a b (grind (arith, nat_tests))

pub ascend-one : (edge : Edge) → AreAscendingEdges (edge ∷ [])
ascend-one edge i j d lt len = absurd (omega arith)
