use Rattle.std.proofs.Common.{ℕ, List, subst, true≢false, sym, ◌∙◌}
use Rattle.lore_base.specs.Names.{IsName}
use Rattle.dump_text.specs.Types.{Oid}
use Rattle.dump_text.proofs.ListLaws.{denied, passed}
use Rattle.dump_text.proofs.rules.are_names.Goals as goal

pub returns-then-not-is_name : goal.returns-then-not-is_name
returns-then-not-is_name c =
    denied (λ (x : List ℕ × Oid). IsName x.0) c.args.names.now c.names.entry-index c.entry-item.result c.names-test.true c.entry-item.is
    (λ passes. true≢false (sym (c.is_name.ensures.1 (subst IsName (sym c.as_bytes.ensures) passes)) ∙ c.if-not-is_name.true))

pub names-preserved : goal.names-preserved
names-preserved c =
    passed (λ (x : List ℕ × Oid). IsName x.0) c.args.names.now c.names.entry-index c.entry-item.result c.names-test.true c.entry-item.is
    (subst IsName c.as_bytes.ensures (c.is_name.ensures.0 c.if-not-is_name.false)) c.names.invariant
