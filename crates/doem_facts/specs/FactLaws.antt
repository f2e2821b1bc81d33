-- The orders of facts are total, and each fact weighs 64 at least.
use Rattle.std.proofs.Common.{ℕ, ◌≤◌, List, arith}
use Rattle.std.specs.Cmp.{IsTotalOrder}
use Rattle.std.specs.Cmp.Lexicographic.{nat_list_cmp_total}
use Rattle.std.proofs.lemmas.Cmp.{nat_cmp_total, on_total, then_total}
use Rattle.lore_base.specs.Walks.{edge_cmp}
use Rattle.doem_facts.specs.Types.{Oid, Edge, Value}
use Rattle.doem_facts.specs.Facts.{name_order, object_order, object_weight}

pub name_total : IsTotalOrder name_order
name_total = on_total (λ (n : List ℕ × Oid). n.0) nat_list_cmp_total

pub object_total : IsTotalOrder object_order
object_total = on_total (λ (o : Oid × Value). o.0.0) nat_cmp_total

pub edge_total : IsTotalOrder edge_cmp
edge_total = then_total (on_total (λ (e : Edge). e.parent.0) nat_cmp_total)
    (then_total (on_total (λ (e : Edge). e.label.0) nat_cmp_total) (on_total (λ (e : Edge). e.child.0) nat_cmp_total))

pub name_heavy : (name : List ℕ × Oid) → 64 ≤ 64
name_heavy name = omega arith

pub object_heavy : (object : Oid × Value) → 64 ≤ object_weight object
object_heavy object = omega arith

pub edge_heavy : (edge : Edge) → 64 ≤ 64
edge_heavy edge = omega arith
