use Rattle.std.proofs.Common.{◌++◌, List, get_or, ap, ◌∙◌}
use Rattle.list_laws.proofs.OrderLaws.{less_from_cmp}
use Rattle.set_explorer.specs.Types.{Label}
use Rattle.set_explorer.specs.inside.Gains.{labels_in}
use Rattle.set_explorer.proofs.GainLaws.{same-label, in-rows}
use Rattle.set_explorer.proofs.gains.labels_of.Goals as goal

pub returns-clause-ascend : goal.returns-clause-ascend
returns-clause-ascend c = λ i j d less within.
    less_from_cmp (get_or c.sort_set.new.self i d).0 (get_or c.sort_set.new.self j d).0
    (c.sort_set.ensures.ascend i j d less within)

pub returns-clause-members : goal.returns-clause-members
returns-clause-members c =
    let edges = labels_in c.args.edges.now in
    let row = labels_in c.args.row.now in
    in-rows c.sort_set.new.self c.push_labels-2.new.labels edges row
    (c.in_ok-push_labels-2.ensures
    ∙ ap (λ (l : List Label). l ++ row) (c.in_ok-push_labels.ensures ∙ ap (λ (l : List Label). l ++ edges) c.new-labels.ensures))
    (c.sort_set.ensures.members same-label)
