use Rattle.std.proofs.Common.{ℕ, List, length, get_or, refl, sym, subst, arith}
use Rattle.block_haste.specs.inside.Listed.{ArePairsBelow}
use Rattle.block_haste.proofs.ListedLaws.{pairs-none, pairs-more}
use Rattle.block_haste.proofs.graph.out_pairs.Goals as goal

pub edges-init : goal.edges-init
edges-init c =
    subst (λ (p : List (ℕ × ℕ)). ArePairsBelow 0 c.args.edges.now p) (sym c.in_ok-pairs.ensures.items) (pairs-none c.args.edges.now)

pub edges-preserved : goal.edges-preserved
edges-preserved c =
    pairs-more c.args.edges.now c.edges.place (get_or c.args.edges.now c.edges.place (0, 0, 0)).0 c.edges.pairs.items c.push.new.self.items
    refl c.in_ok-push.ensures.items c.edges.invariant

pub returns : goal.returns
returns c =
    subst (λ (n : ℕ). ArePairsBelow n c.args.edges.now c.edges.pairs.items) (omega (arith, c.edges-test.false, c.edges.auto.place-end))
    c.edges.invariant
