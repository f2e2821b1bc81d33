use Rattle.guide_query.proofs.PathLaws.{child_is}
use Rattle.guide_query.proofs.path_nodes.child_by.Goals as goal

pub returns-in-Some : goal.returns-in-Some
returns-in-Some c = λ names edges set is has.
    child_is c.args.guide.now c.args.labels.now names edges is c.args.node set c.in-Some.label c.args.text.now
    c.child.result has c.in-Some.ensures.found c.child.ensures.found c.child.ensures.none
