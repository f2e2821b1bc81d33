use Rattle.std.proofs.Common.{◌≡◌, ◌++◌, List, ap, ◌∙◌}
use Rattle.std.proofs.lemmas.Result.{on_ok_weaker}
use Rattle.lore_base.specs.Walks.{out_of}
use Rattle.oem_reach.specs.Types.{Edge}
use Rattle.oem_reach.specs.inside.Doubts.{old_of}
use Rattle.oem_reach.proofs.OldLaws.{old_out}
use Rattle.oem_reach.proofs.old_arcs.OldArcsOutArcsSteps.push_out.Goals as goal

pub returns-clause-edges : goal.returns-clause-edges
returns-clause-edges g c =
    let edges = g.A.Adjacent.edges c.args.self.now.graph.now in
    let fresh = c.args.self.now.fresh in
    let out = out_of c.args.oid edges in
    let read : c.as_slice.result.now ≡ out = c.as_slice.ensures ∙ c.in_ok-out_edges.ensures.edges ∙ ap (λ (l : List Edge). l ++ out) c.new-read.ensures in
    on_ok_weaker c.push_old.result
    (λ is. is ∙ ap (λ (l : List Edge). c.args.buf.now ++ old_of fresh l) read ∙ ap (λ (l : List Edge). c.args.buf.now ++ l) (old_out fresh edges c.args.oid))
    c.push_old.ensures
