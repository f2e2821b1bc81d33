use Rattle.std.proofs.Common.{true≢false, sym, ◌∙◌}
use Rattle.lore_base.specs.Walks.{oid_of, edge_of}
use Rattle.lore_base.specs.Databases.{IsLinked}
use Rattle.dump_text.proofs.ListLaws.{denied_at, passed_at}
use Rattle.dump_text.proofs.rules.are_linked.Goals as goal

pub returns-then-not-is_linked : goal.returns-then-not-is_linked
returns-then-not-is_linked c =
    denied_at (IsLinked c.args.objects.now) c.args.edges.now c.edges.edge-index (edge_of (oid_of 0) (record { 0 = 0 }) (oid_of 0)) c.edges-test.true
    (λ passes. true≢false (sym (c.is_linked.ensures.1 passes) ∙ c.if-not-is_linked.true))

pub edges-preserved : goal.edges-preserved
edges-preserved c =
    passed_at (IsLinked c.args.objects.now) c.args.edges.now c.edges.edge-index (edge_of (oid_of 0) (record { 0 = 0 }) (oid_of 0)) c.edges-test.true
    (c.is_linked.ensures.0 c.if-not-is_linked.false) c.edges.invariant
