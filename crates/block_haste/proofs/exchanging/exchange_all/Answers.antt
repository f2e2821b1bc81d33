use Rattle.std.proofs.Common.{ℕ, ◌<◌, length, All, sym, subst}
use Rattle.block_haste.proofs.ExchangeLaws.{AreExchanged-none, AreExchanged-then}
use Rattle.block_haste.proofs.exchanging.exchange_all.Goals as goal

pub parts-init : goal.parts-init
parts-init c = record {
  exchanged = AreExchanged-none c.args.numbers.now.items c.args.changed.now.items c.requires.within;
  lists = c.requires.lists;
}

pub exchange-requires-clause-within : goal.exchange-requires-clause-within
exchange-requires-clause-within c =
    subst (λ (n : ℕ). All (λ node. node < n) c.parts.changed.items) (sym c.parts.invariant.exchanged.every)
    c.parts.invariant.exchanged.within

pub parts-preserved : goal.parts-preserved
parts-preserved c = record {
  exchanged = AreExchanged-then c.args.numbers.now.items c.args.changed.now.items c.parts.numbers.items c.parts.changed.items
      c.exchange.new.numbers.items c.exchange.new.changed.items c.parts.invariant.exchanged c.in_ok-exchange.ensures.exchanged;
  lists = c.in_ok-exchange.ensures.lists;
}
