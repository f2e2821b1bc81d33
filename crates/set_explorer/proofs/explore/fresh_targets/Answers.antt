use Rattle.std.proofs.Common.{◌≡◌, ◌∷◌, ◌++◌, [], List, map, sym, ap, ◌∙◌, append_assoc, arith}
use Rattle.std.proofs.lemmas.List.{map_push, append-nil}
use Rattle.set_explorer.specs.Types.{Oid, Label, Origin, Fresh}
use Rattle.set_explorer.proofs.FoundSteps.{none-left}
use Rattle.set_explorer.proofs.explore.fresh_targets.Goals as goal

abbrev as_fresh : Label × List Oid → Label × Origin
as_fresh step = (step.0, Fresh step.1)

pub row-preserved : goal.row-preserved
row-preserved c = record {
  targets = c.in_ok-push.ensures.items
      ∙ ap (λ (l : List (Label × Origin)). l ++ (c.in-Some.label, Fresh c.in-Some.set) ∷ []) c.row.invariant.targets
      ∙ sym (map_push as_fresh c.row.yielded (c.in-Some.label, c.in-Some.set));
  whole = append_assoc c.row.yielded ((c.in-Some.label, c.in-Some.set) ∷ []) c.next.new.self.rest.items
      ∙ sym (ap (λ l. c.row.yielded ++ l) c.in-Some.ensures.steps.0) ∙ c.row.invariant.whole;
}

pub returns : goal.returns
returns c =
    let done : c.row.yielded ≡ c.args.row.items = sym (append-nil c.row.yielded)
    ∙ ap (λ l. c.row.yielded ++ l) (none-left c.row.label-iterator.rest.items
    (omega (arith, c.in-None.ensures.steps.0, c.row.label-iterator.rest.ok.0))) ∙ c.row.invariant.whole in
    c.row.invariant.targets ∙ ap (map as_fresh) done
