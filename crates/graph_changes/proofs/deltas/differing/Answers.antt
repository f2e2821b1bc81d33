use Rattle.std.proofs.Common.{◌≡◌, [], ◌∷◌, ◌++◌, map, sym, ap, ◌∙◌, subst, append_assoc, arith}
use Rattle.std.proofs.lemmas.List.{append-nil, nil_from_length}
use Rattle.edge_lists.specs.Objects.{object_of}
use Rattle.graph_changes.specs.Differing.{AreDiffering}
use Rattle.edge_layers.proofs.LayerLaws.{none_there}
use Rattle.graph_changes.proofs.EmptyLaws.{differing-all}
use Rattle.graph_changes.proofs.DeltaLaws.{differing-none, differing-more}
use Rattle.graph_changes.proofs.deltas.differing.Goals as goal

pub returns-then-is_empty : goal.returns-then-is_empty
returns-then-is_empty c = differing-all (map object_of c.args.objects.now) c.args.given
    (ap (map object_of) (none_there c.args.objects.now c.is_empty.result c.is_empty.ensures c.if-is_empty.true))

pub given-init : goal.given-init
given-init c = record {
  whole = c.into_iter-object-iterator.ensures.into_iter_gives.0 ∙ c.into_items-object-items.ensures;
  come = rw c.new-come.ensures (differing-none (map object_of c.args.objects.now));
}

pub given-preserved : goal.given-preserved
given-preserved c = record {
  whole = append_assoc c.given.yielded (c.in-Some.object ∷ []) c.next.new.self.rest.items
      ∙ sym (ap (λ l. c.given.yielded ++ l) c.in-Some.ensures.steps.0) ∙ c.given.invariant.whole;
  come = differing-more (map object_of c.args.objects.now) c.given.yielded c.given.come c.push_new.new.come c.in-Some.object c.given.invariant.come c.in_ok-push_new.ensures;
}

pub returns : goal.returns
returns c =
    let done : c.given.yielded ≡ c.args.given = sym (append-nil c.given.yielded)
    ∙ ap (λ l. c.given.yielded ++ l) (sym (nil_from_length c.given.object-iterator.rest.items (omega (arith, c.in-None.ensures.steps.0, c.given.object-iterator.rest.ok.0))))
    ∙ c.given.invariant.whole in
    subst (λ l. AreDiffering (map object_of c.args.objects.now) l c.given.come) done c.given.invariant.come
