use Rattle.std.proofs.Common.{ℕ, List, true≢false, sym, ◌∙◌}
use Rattle.lore_base.specs.Databases.{IsLive}
use Rattle.dump_text.specs.Types.{Oid}
use Rattle.dump_text.proofs.ListLaws.{denied, passed}
use Rattle.dump_text.proofs.rules.are_named.Goals as goal

pub returns-then-not-is_live : goal.returns-then-not-is_live
returns-then-not-is_live c =
    denied (λ (x : List ℕ × Oid). IsLive c.args.objects.now x.1) c.args.names.now c.names.entry-index c.entry-item.result c.names-test.true c.entry-item.is
    (λ passes. true≢false (sym (c.is_live.ensures.1 passes) ∙ c.if-not-is_live.true))

pub names-preserved : goal.names-preserved
names-preserved c =
    passed (λ (x : List ℕ × Oid). IsLive c.args.objects.now x.1) c.args.names.now c.names.entry-index c.entry-item.result c.names-test.true c.entry-item.is
    (c.is_live.ensures.0 c.if-not-is_live.false) c.names.invariant
