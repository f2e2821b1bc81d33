use Rattle.std.proofs.Common.{◌≡◌, ℕ, ◌+◌, ◌-◌, ◌<◌, length, get_or, subst, arith}
use Rattle.std.proofs.Math.Nat.{mod-lt}
use Rattle.edge_layers.specs.Types.{Edge}
use Rattle.edge_layers.specs.inside.Chains.{label_of, slot_among, ArePutFrom}
use Rattle.edge_layers.proofs.ChainLaws.{put_start, put_all}
use Rattle.edge_layers.proofs.join_orders.places_backward.Goals as goal

any : Edge
any = record { parent = record { 0 = 0 }; label = record { 0 = 0 }; child = record { 0 = 0 } }

pub slots-init : goal.slots-init
slots-init c =
    let heads = c.in_ok-chains.chains.heads in
    let wide : c.len-slot.result ≡ length heads.items = omega (arith, c.len-slot.ensures, heads.ok.0) in
    record {
      put = put_start (slot_among (length heads.items) label_of) c.args.edges.now c.len-slot.result c.in_ok-places.places.items c.in_ok-places.ensures.items
          (λ k d lt.
          let low : slot_among (length heads.items) label_of (get_or c.args.edges.now k d) < length heads.items
          = mod-lt (label_of (get_or c.args.edges.now k d)) (c.in_ok-chains.ensures.some (omega (arith, lt))) in
          omega (arith, low, wide));
      within = omega (arith, wide);
    }

pub push_slot-requires-clause-chains : goal.push_slot-requires-clause-chains
push_slot-requires-clause-chains c = (c.args.edges.now, c.in_ok-chains.ensures)

pub slots-preserved : goal.slots-preserved
slots-preserved c =
    let heads = c.in_ok-chains.chains.heads.items in
    let one : c.slots.slot ≡ c.slots.slot - 1 + 1 = omega arith in
    record {
      put = c.in_ok-push_slot.ensures c.args.edges.now c.in_ok-chains.ensures
          (subst (λ (n : ℕ). ArePutFrom (slot_among (length heads) label_of) c.args.edges.now n 0 c.slots.places.items) one c.slots.invariant.put);
      within = omega (arith, c.slots.invariant.within);
    }

pub returns : goal.returns
returns c =
    let heads = c.in_ok-chains.chains.heads.items in
    put_all (slot_among (length heads) label_of) c.args.edges.now any c.slots.slot c.slots.places.items (omega arith) c.slots.invariant.put
