use Rattle.std.proofs.Common.{sym}
use Rattle.indexmap.specs.IndexMap.{get}
use Rattle.block_rounds.specs.Given.{pair_eq}
use Rattle.block_rounds.proofs.RenumberLaws.{Keeps-updated}
use Rattle.block_haste.proofs.moving.give.Goals as goal

pub returns-in_ok-insert-in-None-clause-kept : goal.returns-in_ok-insert-in-None-clause-kept
returns-in_ok-insert-in-None-clause-kept c =
    Keeps-updated (get pair_eq c.args.fresh.now) (get pair_eq c.insert.new.self) (c.args.number, c.in-Some.mark) c.args.next
    c.in_ok-insert-in-None.ensures.updates.0 (sym c.in-None.ensures.value)
