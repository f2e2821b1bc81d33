use Rattle.block_haste.specs.inside.Hastening.{AreInLists, AreExchanged}
use Rattle.block_haste.proofs.exchanging.exchange_all.Given as goal

abbrev pub invariant-parts : goal.invariant-parts
invariant-parts l = record {
  exchanged : AreExchanged l.fn.numbers.items l.fn.changed.items l.numbers.items l.changed.items;
  lists : AreInLists l.lists.items l.numbers.items;
}
