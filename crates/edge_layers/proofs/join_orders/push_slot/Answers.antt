use Rattle.std.proofs.Common.{◌≡◌, ℕ, ◌-◌, ◌<◌, length, refl, subst, arith}
use Rattle.std.proofs.lemmas.List.{get_or_read}
use Rattle.edge_layers.specs.Types.{Edge}
use Rattle.edge_layers.specs.inside.Chains.{label_of, slot_among, ArePutFrom}
use Rattle.edge_layers.proofs.ChainLaws.{slot_start, slot_more, leads_back}
use Rattle.edge_layers.proofs.join_orders.push_slot.Goals as goal

any : Edge
any = record { parent = record { 0 = 0 }; label = record { 0 = 0 }; child = record { 0 = 0 } }

pub chain-init : goal.chain-init
chain-init c =
    let heads = c.args.chains.now.heads.items in
    let back = c.args.chains.now.back.items in
    let given = c.requires.chains in
    let first = given.1.first c.args.slot c.requires.slot in
    let begins = get_or_read heads c.args.slot _ c.requires.slot c.index-above.ensures 0 in
    record {
      within = omega (arith, begins, first.within, given.1.linked.long);
      put = λ edges chains old. slot_start edges heads back chains c.args.slot _ c.args.places.now.items c.requires.slot begins old;
    }

pub chain-smaller : goal.chain-smaller
chain-smaller c =
    let back = c.args.chains.now.back.items in
    let given = c.requires.chains in
    let lt : c.chain.above - 1 < length back = omega (arith, c.chain.invariant.within) in
    let on = get_or_read back (c.chain.above - 1) _ lt c.index-above-in-chain.ensures 0 in
    omega (arith, on, leads_back given.0 c.args.chains.now.heads.items back any given.1 (c.chain.above - 1) lt)

pub chain-preserved : goal.chain-preserved
chain-preserved c =
    let heads = c.args.chains.now.heads.items in
    let back = c.args.chains.now.back.items in
    let given = c.requires.chains in
    let lt : c.chain.above - 1 < length back = omega (arith, c.chain.invariant.within) in
    let some : 0 < c.chain.above = omega arith in
    let on = get_or_read back (c.chain.above - 1) _ lt c.index-above-in-chain.ensures 0 in
    record {
      within = omega (arith, on, leads_back given.0 heads back any given.1 (c.chain.above - 1) lt, lt);
      put = λ edges chains old.
          slot_more edges heads back chains any c.args.slot c.chain.above (c.chain.above - 1) _ c.chain.places.items c.push.new.self.items
          some refl c.in_ok-push.ensures.items on (c.chain.invariant.put edges chains old);
    }

pub returns : goal.returns
returns c edges chains old =
    let first : c.chain.above ≡ 0 = omega arith in
    subst (λ (n : ℕ). ArePutFrom (slot_among (length c.args.chains.now.heads.items) label_of) edges c.args.slot n c.chain.places.items) first
    (c.chain.invariant.put edges chains old).put
