use Rattle.std.proofs.Common.{◌++◌, List, ap, ◌∙◌}
use Rattle.std.proofs.lemmas.Result.{on_ok_weaker}
use Rattle.lore_base.specs.Walks.{out_of}
use Rattle.object_search.specs.Types.{Edge}
use Rattle.object_search.proofs.sorted_edges.SortedEdges.push_run.Goals as goal

pub returns : goal.returns
returns c =
    let run = c.run_of.ensures ∙ ap (out_of c.args.oid) c.self.view_is in
    on_ok_weaker c.append.result (λ is. is ∙ ap (λ (l : List Edge). c.args.buf.now ++ l) run) c.append.ensures.ok
