use Rattle.std.proofs.Common.{List, [], ◌∷◌, ◌++◌, ap, ◌∙◌}
use Rattle.std.specs.Int.{w64}
use Rattle.std.proofs.lemmas.Int.{to_z-of_z}
use Rattle.lore_base.specs.declared.edges.Oid.{Oid}
use Rattle.lore_base.specs.declared.values.Value.{Value}
use Rattle.lore_base.specs.declared.values.Value.TheVariants.{Whole}
use Rattle.session_tests.proofs.reads.given.Goals as goal

pub returns : goal.returns
returns c =
    let given : Oid × Value = (c.args.oid, Whole c.args.number) in
    let pushed = rw (to_z-of_z w64 c.args.number c.ranges.number) at c.in_ok-push.ensures.ok in
    let values = pushed ∙ ap (λ (l : List (Oid × Value)). l ++ given ∷ []) c.new-changes.ensures.values in
    λ i. record {
      made = c.new-changes.ensures.made i;
      values = values i;
      added = c.new-changes.ensures.added i;
      removed = c.new-changes.ensures.removed i;
      named = c.new-changes.ensures.named i;
      unnamed = c.new-changes.ensures.unnamed i;
      labels = c.new-changes.ensures.labels i;
    }
