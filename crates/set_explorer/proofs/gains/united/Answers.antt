use Rattle.std.proofs.Common.{◌∙◌}
use Rattle.std.proofs.lemmas.List.Elements.{All-contains}
use Rattle.set_explorer.specs.PlannedNodes.{origin_set}
use Rattle.set_explorer.specs.inside.Gains.{IsThere}
use Rattle.set_explorer.proofs.GainLaws.{union-step, union-kept, union-none, node-ascends}
use Rattle.set_explorer.proofs.gains.united.Goals as goal

pub node_or_grown-requires-clause-ascend : goal.node_or_grown-requires-clause-ascend
node_or_grown-requires-clause-ascend c =
    node-ascends c.args.kept.now c.args.edges.now c.args.row.now c.args.label c.requires.edges c.requires.row
    c.next_by-node.result c.next_by-node.ensures.found c.requires.there

pub returns-in-Some-clause-set : goal.returns-in-Some-clause-set
returns-in-Some-clause-set c =
    union-step c.args.kept.now c.args.edges.now c.args.row.now c.args.label c.requires.edges c.requires.row
    c.next_by-node.result c.next_by-node.ensures.found c.next_by-node.ensures.none c.in-Some.step.now
    c.in-Some.ensures.found (origin_set c.args.kept.now c.in_ok-target-in-Some.target) c.in_ok-target-in-Some.ensures.set

pub returns-in-Some-node-clause-there : goal.returns-in-Some-node-clause-there
returns-in-Some-node-clause-there c =
    (All-contains (IsThere c.args.kept.now) c.args.edges.now (c.args.label, c.in-Some-node.node) c.requires.there
    c.in-Some-node.ensures.found).0

pub returns-in-Some-node-clause-set : goal.returns-in-Some-node-clause-set
returns-in-Some-node-clause-set c =
    let found = c.in-Some-node.ensures.found in
    union-kept c.args.kept.now c.args.edges.now c.args.row.now c.args.label c.requires.edges c.requires.row
    c.in-Some-node.node found c.in-None.ensures.none
    (All-contains (IsThere c.args.kept.now) c.args.edges.now (c.args.label, c.in-Some-node.node) c.requires.there
    found).1

pub returns-in-None-node-clause-set : goal.returns-in-None-node-clause-set
returns-in-None-node-clause-set c =
    union-none c.args.kept.now c.args.edges.now c.args.row.now c.args.label c.requires.edges c.requires.row
    c.in-None-node.ensures.none c.in-None.ensures.none c.from_ascending-none.result
    (c.from_ascending-none.ensures ∙ c.new.ensures)
