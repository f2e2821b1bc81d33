use Rattle.std.proofs.Common.{List, ◌++◌, sym, ap, ◌∙◌}
use Rattle.std.proofs.lemmas.List.{append-nil}
use Rattle.edge_layers.specs.Types.{Edge}
use Rattle.edge_layers.proofs.LayerLaws.{none_there}
use Rattle.edge_layers.proofs.layers.append_run.Goals as goal

pub returns-then-is_empty-clause-ok : goal.returns-then-is_empty-clause-ok
returns-then-is_empty-clause-ok c =
    let none = none_there c.args.run.now c.is_empty.result c.is_empty.ensures c.if-is_empty.true in
    sym (append-nil c.args.buf.now) ∙ ap (λ (l : List Edge). c.args.buf.now ++ l) (sym none)
