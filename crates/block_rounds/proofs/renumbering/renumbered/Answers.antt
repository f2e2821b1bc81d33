use Rattle.std.proofs.Common.{◌<◌, length, get_or, arith, None, refl}
use Rattle.indexmap.specs.IndexMap.{get}
use Rattle.block_rounds.specs.Given.{pair_eq}
use Rattle.block_rounds.proofs.RenumberLaws.{AreGivenBelow-more}
use Rattle.block_rounds.proofs.renumbering.renumbered.Goals as goal

pub nodes-preserved : goal.nodes-preserved
nodes-preserved c =
    let numbers = c.args.numbers.now in
    let marks = c.args.marks.now in
    let low : get_or numbers c.nodes.node 0 < length c.nodes.heads.items = omega (arith, c.requires.numbered.numbered c.nodes.node 0 c.nodes-test.true, c.nodes.invariant.grown) in
    AreGivenBelow-more numbers marks c.args.heads.now.items c.nodes.node (get_or numbers c.nodes.node 0) (get_or marks c.nodes.node None)
    (get pair_eq c.nodes.fresh) (get pair_eq c.given_number.new.fresh) c.nodes.heads.items c.given_number.new.heads.items c.nodes.next.items c.push.new.self.items c.in_ok-given.given
    c.nodes-test.true refl refl low c.nodes.invariant c.in_ok-given.ensures.kept c.in_ok-given.ensures.heads c.in_ok-given.ensures.fresh c.in_ok-given.ensures.given
    c.in_ok-push.ensures.items

pub returns-clause-still : goal.returns-clause-still
returns-clause-still c few node within = c.nodes.invariant.still few node (omega (arith, within, c.requires.marks))
