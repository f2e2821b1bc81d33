use Rattle.std.proofs.Common.{◌↔◌, ℕ, List, [], ◌++◌, ap, subst}
use Rattle.std.specs.List.{Contains}
use Rattle.lorel_ranges.specs.Views.{texts}
use Rattle.live_views.specs.Types.{Edge}
use Rattle.live_views.specs.inside.Touched.{turned, IsTextAmong}
use Rattle.live_views.proofs.labels.label_texts.Goals as goal

pub returns : goal.returns
returns c = λ text.
    let found = texts c.add_edges-2.new.self.found.items in
    let table = c.args.labels.now ++ c.as_slice.result.now in
    let gone = c.as_slice-2.result.now in
    let all = c.in_ok-add_edges-2.ensures ([] ++ gone) (c.in_ok-add_edges.ensures [] (c.in_ok-texts.ensures table)) in
    subst (λ (labels : List (List ℕ)). Contains found text ↔ IsTextAmong labels (turned c.args.delta.now) text)
    (ap (λ (l : List (List ℕ)). c.args.labels.now ++ l) c.as_slice.ensures)
    (subst (λ (edges : List Edge). Contains found text ↔ IsTextAmong table edges text) (λ i. c.as_slice-2.ensures i ++ c.as_slice-3.ensures i) (all.exact text))
