use Rattle.std.proofs.Common.{ℕ, ◌<◌, List, All, sym, subst}
use Rattle.std.proofs.lemmas.List.Elements.{All-push}
use Rattle.block_haste.proofs.StartLaws.{below_more}
use Rattle.block_haste.proofs.starting.all_below.Goals as goal

pub nodes-preserved : goal.nodes-preserved
nodes-preserved c =
    let nodes = c.nodes.nodes.items in
    let pushed = c.in_ok-push.ensures.items in
    record {
      every = below_more c.nodes.node nodes c.push.new.self.items pushed c.nodes.invariant.every;
      within = subst (λ (l : List ℕ). All (λ node. node < c.args.count) l) (sym pushed)
          (All-push (λ node. node < c.args.count) nodes c.nodes.node c.nodes.invariant.within c.nodes-test.true);
    }
