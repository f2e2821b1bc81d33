use Rattle.std.proofs.Common.{ℕ, List, length, get_or, refl, sym, subst, arith}
use Rattle.block_haste.specs.inside.Listed.{AreNumbersBelow}
use Rattle.block_haste.proofs.StartLaws.{numbers_none, numbers_more}
use Rattle.block_haste.proofs.starting.numbered.Goals as goal

pub nodes-init : goal.nodes-init
nodes-init c =
    subst (λ (p : List (ℕ × ℕ)). AreNumbersBelow 0 c.args.numbers.now p) (sym c.in_ok-pairs.ensures.items) (numbers_none c.args.numbers.now)

pub nodes-preserved : goal.nodes-preserved
nodes-preserved c =
    numbers_more c.args.numbers.now c.nodes.node (get_or c.args.numbers.now c.nodes.node 0) c.nodes.pairs.items c.push.new.self.items
    refl c.in_ok-push.ensures.items c.nodes.invariant

pub returns : goal.returns
returns c =
    subst (λ (n : ℕ). AreNumbersBelow n c.args.numbers.now c.nodes.pairs.items) (omega (arith, c.nodes-test.false, c.nodes.auto.node-end))
    c.nodes.invariant
