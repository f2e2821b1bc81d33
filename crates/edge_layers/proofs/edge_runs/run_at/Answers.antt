use Rattle.edge_layers.proofs.CutLaws.{cut_ascends, run-cut}
use Rattle.edge_layers.proofs.edge_runs.run_at.Goals as goal

pub end_below-requires : goal.end_below-requires
end_below-requires c =
    let cut = c.in_ok-before.ensures.cases in
    (cut_ascends c.args.edges.now _ _ _ cut.1 cut.2 c.requires).0

pub begin_above-requires : goal.begin_above-requires
begin_above-requires c =
    let cut = c.in_ok-before.ensures.cases in
    let cut_again = c.in_ok-run.ensures.cases in
    (cut_ascends _ _ _ _ cut_again.1 cut_again.2 (cut_ascends c.args.edges.now _ _ _ cut.1 cut.2 c.requires).1).1

pub leave-requires : goal.leave-requires
leave-requires c =
    let cut = c.in_ok-before.ensures.cases in
    let cut_again = c.in_ok-run.ensures.cases in
    (cut_ascends _ _ _ _ cut_again.1 cut_again.2 (cut_ascends c.args.edges.now _ _ _ cut.1 cut.2 c.requires).1).0

pub returns-then-leave : goal.returns-then-leave
returns-then-leave c =
    let cut = c.in_ok-before.ensures.cases in
    let cut_again = c.in_ok-run.ensures.cases in
    run-cut c.args.edges.now _ _ _ _ _ _ c.args.oid cut.1 cut.2 cut_again.1 cut_again.2
    c.if-end_below.ensures c.if-begin_above.ensures c.if-leave.ensures
