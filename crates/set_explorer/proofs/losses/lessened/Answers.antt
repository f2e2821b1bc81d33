use Rattle.set_explorer.proofs.GainLaws.{node-within}
use Rattle.set_explorer.proofs.LossLaws.{past-some, past-none}
use Rattle.set_explorer.proofs.losses.lessened.Goals as goal

pub kept_without-requires : goal.kept_without-requires
kept_without-requires c =
    node-within c.args.kept.now c.args.edges.now c.args.come.now c.args.label c.requires.edges c.requires.come
    c.next_by-node.result c.next_by-node.ensures.found c.requires.there

pub returns-in-Some : goal.returns-in-Some
returns-in-Some c =
    past-some c.args.kept.now c.args.edges.now c.args.come.now c.args.label c.args.others.now c.requires.edges c.requires.come
    c.next_by-node.result c.next_by-node.ensures.found c.next_by-node.ensures.none c.in_ok-left.left c.in_ok-left.ensures
    c.in-Some.step.now c.in_ok-set.set c.in-Some.ensures.found c.in_ok-set.ensures

pub returns : goal.returns
returns c =
    past-none c.args.kept.now c.args.edges.now c.args.come.now c.args.label c.args.others.now c.requires.edges c.requires.come
    c.next_by-node.result c.next_by-node.ensures.found c.next_by-node.ensures.none c.in_ok-left.left c.in_ok-left.ensures
    c.in_default.ensures.none
