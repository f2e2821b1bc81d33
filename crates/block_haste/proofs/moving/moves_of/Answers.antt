use Rattle.std.proofs.Common.{◌≡◌, ◌≤◌, ℕ, ◌+◌, ◌∷◌, ◌++◌, [], List, length, get_or, take, subst, sym, arith}
use Rattle.std.proofs.lemmas.List.{take_more, take_all}
use Rattle.indexmap.specs.IndexMap.{get}
use Rattle.block_rounds.specs.Given.{pair_eq}
use Rattle.block_haste.specs.inside.Hastening.{AreMovesBy}
use Rattle.block_haste.proofs.MoveLaws.{AreMovesBy-more}
use Rattle.block_haste.proofs.moving.moves_of.Goals as goal

pub nodes-preserved : goal.nodes-preserved
nodes-preserved c =
    let touched = c.args.touched.now in
    let node = get_or touched c.nodes.node-index 0 in
    record {
      moves = AreMovesBy-more (get pair_eq c.nodes.fresh) (get pair_eq c.part_of.new.fresh) (take c.nodes.node-index touched) (take (c.nodes.node-index + 1) touched)
          c.args.numbers.now c.args.marks.now c.nodes.moves.items c.push.new.self.items node c.in_ok-given.given
          c.in_ok-given.ensures.kept (take_more touched c.nodes.node-index 0 c.nodes-test.true) c.in_ok-push.ensures.items c.in_ok-given.ensures.given c.nodes.invariant.moves;
      grown = omega (arith, c.nodes.invariant.grown, c.in_ok-given.ensures.grown);
    }

pub returns-clause-moves : goal.returns-clause-moves
returns-clause-moves c =
    let touched = c.args.touched.now in
    let whole : take c.nodes.node-index touched ≡ touched = take_all c.nodes.node-index touched c.nodes-test.false in (
      get pair_eq c.nodes.fresh,
      subst (λ (t : List ℕ). AreMovesBy (get pair_eq c.nodes.fresh) t c.args.numbers.now c.args.marks.now c.nodes.moves.items) whole c.nodes.invariant.moves,
    )
