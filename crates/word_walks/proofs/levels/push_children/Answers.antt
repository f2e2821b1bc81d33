use Rattle.std.proofs.Common.{◌≡◌, ◌++◌, List, ap, ◌∙◌}
use Rattle.std.proofs.lemmas.Result.{on_ok_weaker}
use Rattle.lore_base.specs.Walks.{out_of}
use Rattle.word_walks.specs.Types.{Edge}
use Rattle.word_walks.proofs.LevelLaws.{ends_out}
use Rattle.word_walks.proofs.levels.push_children.Goals as goal

pub returns-clause-gains : goal.returns-clause-gains
returns-clause-gains g c =
    let edges = g.A.Adjacent.edges c.args.graph.now in
    let read : c.as_slice.result.now ≡ out_of c.args.oid edges =
    c.as_slice.ensures ∙ c.in_ok-out_edges.ensures.edges ∙ ap (λ (l : List Edge). l ++ out_of c.args.oid edges) c.cut.ensures in
    on_ok_weaker c.push_ends.result (ends_out edges c.as_slice.result.now c.args.oid c.args.label c.args.next.now c.push_ends.new.next read) c.push_ends.ensures
