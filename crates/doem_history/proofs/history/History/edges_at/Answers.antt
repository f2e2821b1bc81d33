use Rattle.std.proofs.Common.{◌≡◌, ◌+◌, ap, subst, arith}
use Rattle.lore_base.specs.Walks.{edge_cmp, out_of}
use Rattle.doem_history.specs.Histories.{KeptHistory, facts_at, ordered}
use Rattle.doem_history.proofs.ViewLaws.{out_told, out_ascends}
use Rattle.doem_history.proofs.NewestLaws.{same_edge}
use Rattle.doem_history.proofs.history.History.edges_at.Goals as goal

pub returns-in_err-edges-clause-ascend : goal.returns-in_err-edges-clause-ascend
returns-in_err-edges-clause-ascend c = out_ascends c.args.oid (facts_at c.args.moment c.args.self.now.edges.runs)

pub returns-clause-ascend : goal.returns-clause-ascend
returns-clause-ascend c = out_ascends c.args.oid (facts_at c.args.moment c.args.self.now.edges.runs)

pub returns-clause-edges : goal.returns-clause-edges
returns-clause-edges c =
    let last = ap (λ (h : KeptHistory). h.last) c.self.view_is in
    let within = c.requires in
    subst (λ (h : KeptHistory). c.sort_set.new.self ≡ out_of c.args.oid (ordered edge_cmp (facts_at c.args.moment h.edges.runs))) c.self.view_is
    (out_told (c.self.inside.last + 1) c.args.moment c.self.inside.edges.runs c.args.oid c.in_ok-edges.edges c.sort_set.new.self c.self.invariant.edges.facts (omega arith)
    c.in_ok-edges.ensures c.sort_set.ensures.ascend (c.sort_set.ensures.members same_edge))
