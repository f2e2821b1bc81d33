use Rattle.std.proofs.Common.{ℕ, List, All, true≢false, sym, subst, ◌∙◌}
use Rattle.lore_base.specs.Names.{IsName, IsLabel}
use Rattle.lore_base.specs.Databases.{IsSized}
use Rattle.dump_text.specs.Types.{Oid, Value}
use Rattle.dump_text.specs.Rules.{AreFormed}
use Rattle.dump_text.proofs.ListLaws.{told_false}
use Rattle.dump_text.proofs.rules.are_formed.Goals as goal

pub returns-then-not-are_labels : goal.returns-then-not-are_labels
returns-then-not-are_labels c =
    told_false (λ (formed : AreFormed c.args.tree.now). true≢false
    (sym (c.are_labels.ensures.1 (subst (All IsLabel) (sym c.as_slice-labels.ensures) formed.labels)) ∙ c.if-not-are_labels.true))

pub returns-then-not-are_names : goal.returns-then-not-are_names
returns-then-not-are_names c =
    told_false (λ (formed : AreFormed c.args.tree.now). true≢false
    (sym (c.are_names.ensures.1 (subst (All (λ (e : List ℕ × Oid). IsName e.0)) (sym c.as_slice-names.ensures) formed.names)) ∙ c.if-not-are_names.true))

pub returns : goal.returns
returns c = (
  λ yes. record {
    labels = subst (All IsLabel) c.as_slice-labels.ensures (c.are_labels.ensures.0 c.if-not-are_labels.false);
    names = subst (All (λ (e : List ℕ × Oid). IsName e.0)) c.as_slice-names.ensures (c.are_names.ensures.0 c.if-not-are_names.false);
    values = subst (All (λ (o : Oid × Value). IsSized o.1)) c.as_slice-objects.ensures (c.are_sized.ensures.0 yes);
  },
  λ formed. c.are_sized.ensures.1 (subst (All (λ (o : Oid × Value). IsSized o.1)) (sym c.as_slice-objects.ensures) formed.values),
)
