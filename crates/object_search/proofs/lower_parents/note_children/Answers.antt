use Rattle.std.proofs.Common.{inr, length, refl, sym, ap, ◌∙◌, subst}
use Rattle.std.proofs.lemmas.List.Elements.{Contains-get_or}
use Rattle.object_search.specs.LowerParents.{AreLed}
use Rattle.object_search.proofs.LowerParentLaws.{noted_more}
use Rattle.object_search.proofs.lower_parents.note_children.Goals as goal
use Rattle.object_search.proofs.lower_parents.note_children.Goals.{then-edge, else-edge}

pub edges-preserved : goal.edges-preserved
edges-preserved c =
    let edges = c.args.edges.now in
    let first = c.args.first.0 in
    elim c.if-edge.branch [
      | then-edge w ↦ record {
        count = ap (λ (v : _). length v.items) w.noted-is ∙ w.note.ensures.count ∙ c.edges.invariant.count;
        led = λ starts are. subst (λ (v : _). AreLed starts edges first v.items) (sym w.noted-is)
            (noted_more starts edges first _ _ _ (inr (_, Contains-get_or edges c.edges.edge-index _ c.edges-test.true, refl, w.if-edge.true))
            w.note.ensures.each (c.edges.invariant.led starts are));
      }
      | else-edge w ↦ record {
        count = ap (λ (v : _). length v.items) w.noted-is ∙ c.edges.invariant.count;
        led = λ starts are. subst (λ (v : _). AreLed starts edges first v.items) (sym w.noted-is) (c.edges.invariant.led starts are);
      }
    ]
