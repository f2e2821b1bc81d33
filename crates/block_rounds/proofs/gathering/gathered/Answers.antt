use Rattle.std.proofs.Common.{◌<◌, [], length, take, sym, ap, ◌∙◌, subst, arith, length-set}
use Rattle.std.proofs.lemmas.List.{take_all, length-replicate}
use Rattle.list_laws.proofs.PartLaws.{take_more_read}
use Rattle.block_rounds.specs.Gathered.{AreGathered}
use Rattle.block_rounds.proofs.GatherLaws.{AreGathered-none, AreGathered-more}
use Rattle.block_rounds.proofs.gathering.gathered.Goals as goal

pub pairs-init : goal.pairs-init
pairs-init g c = record {
  every = ap length c.in_ok-lists.ensures ∙ length-replicate c.args.count [];
  items = AreGathered-none c.in_ok-lists.lists.items c.args.count c.in_ok-lists.ensures;
}

pub pairs-preserved : goal.pairs-preserved
pairs-preserved g c =
    let pairs = c.args.pairs.now in
    let i = c.pairs.pair-index in
    let pair = c.pair-item.result in
    let lists = c.pairs.lists.items in
    let low : pair.0 < c.args.count = subst (λ p. p.0 < c.args.count) (sym c.pair-item.is) (c.requires i pair c.pairs-test.true) in
    record {
      every = ap length c.in_ok-push_at.ensures ∙ length-set lists pair.0 _ ∙ c.pairs.invariant.every;
      items = subst (λ l. AreGathered l c.push_at.new.lists.items)
          (sym (take_more_read pairs i pair c.pairs-test.true c.pair-item.is))
          (AreGathered-more (take i pairs) pair lists c.push_at.new.lists.items (omega (arith, low, c.pairs.invariant.every))
          c.in_ok-push_at.ensures c.pairs.invariant.items);
    }

pub returns-clause-items : goal.returns-clause-items
returns-clause-items g c =
    subst (λ l. AreGathered l c.pairs.lists.items) (take_all c.pairs.pair-index c.args.pairs.now c.pairs-test.false)
    c.pairs.invariant.items
