use Rattle.std.proofs.Common.{ℕ, List, [], get_or, take, sym, subst}
use Rattle.std.proofs.lemmas.List.{take_more, take_all}
use Rattle.block_haste.proofs.ExchangeLaws.{AreMovesFrom, moves-none, moves-more}
use Rattle.block_haste.proofs.exchanging.moves_from.Goals as goal

pub nodes-init : goal.nodes-init
nodes-init c =
    subst (λ (m : List (ℕ × ℕ)). AreMovesFrom c.args.numbers.now c.args.from c.args.to [] m) (sym c.new-moves.ensures.items)
    (moves-none c.args.numbers.now c.args.from c.args.to)

pub nodes-preserved : goal.nodes-preserved
nodes-preserved c =
    let list = c.args.list.now in
    let i = c.nodes.node-index in
    let node = get_or list i 0 in
    subst (λ (l : List ℕ). AreMovesFrom c.args.numbers.now c.args.from c.args.to l c.push_move.new.moves.items)
    (sym (take_more list i 0 c.nodes-test.true))
    (moves-more c.args.numbers.now c.args.from c.args.to (take i list) node c.nodes.moves.items c.push_move.new.moves.items
    c.in_ok-push_move.ensures c.nodes.invariant)

pub returns : goal.returns
returns c =
    subst (λ (l : List ℕ). AreMovesFrom c.args.numbers.now c.args.from c.args.to l c.nodes.moves.items)
    (take_all c.nodes.node-index c.args.list.now c.nodes-test.false) c.nodes.invariant
