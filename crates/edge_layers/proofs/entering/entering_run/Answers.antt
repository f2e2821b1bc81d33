use Rattle.std.proofs.Common.{◌≡◌, ◌-◌, ◌%◌, ◌<◌, length, refl, arith}
use Rattle.std.proofs.lemmas.List.{get_or_read}
use Rattle.std.proofs.Math.Nat.{mod-lt}
use Rattle.edge_layers.specs.Types.{Edge}
use Rattle.edge_layers.proofs.ChainLaws.{some_there, run_start, run_more, run_none, run_whole}
use Rattle.edge_layers.proofs.EdgeLaws.{edge_same}
use Rattle.edge_layers.proofs.LayerLaws.{none_there}
use Rattle.edge_layers.proofs.entering.entering_run.Goals as goal

any : Edge
any = record { parent = record { 0 = 0 }; label = record { 0 = 0 }; child = record { 0 = 0 } }

pub returns-then-is_empty : goal.returns-then-is_empty
returns-then-is_empty c = run_none c.args.edges.now c.new-run.result c.args.oid (none_there c.args.edges.now c.is_empty.result c.is_empty.ensures c.if-is_empty.true) c.new-run.ensures

pub chain-init : goal.chain-init
chain-init c =
    let heads = c.args.chains.now.heads in
    let back = c.args.chains.now.back.items in
    let lt : 0 < length c.args.edges.now = some_there (length c.args.edges.now) c.is_empty.result c.is_empty.ensures c.if-is_empty.false in
    let wide : c.len.result ≡ length heads.items = omega (arith, c.len.ensures, heads.ok.0) in
    let low : c.args.oid.0 % c.len.result < length heads.items = omega (arith, mod-lt c.args.oid.0 (c.requires.some lt), wide) in
    run_start c.args.edges.now c.args.oid heads.items back c.requires c.len.result _ c.new-run.result lt wide
    (get_or_read heads.items (c.args.oid.0 % c.len.result) _ low c.index-above.ensures 0) c.new-run.ensures

pub chain-smaller : goal.chain-smaller
chain-smaller c =
    let back = c.args.chains.now.back.items in
    let lt : c.chain.above - 1 < length back = omega (arith, c.chain.invariant.within, c.requires.linked.long) in
    let on = get_or_read back (c.chain.above - 1) _ lt c.index-above-in-chain.ensures 0 in
    omega (arith, on, (c.requires.linked.each (c.chain.above - 1) any (omega (arith, lt, c.requires.linked.long))).within)

pub chain-preserved : goal.chain-preserved
chain-preserved c =
    let heads = c.args.chains.now.heads.items in
    let back = c.args.chains.now.back.items in
    let lt : c.chain.above - 1 < length back = omega (arith, c.chain.invariant.within, c.requires.linked.long) in
    let on = get_or_read back (c.chain.above - 1) _ lt c.index-above-in-chain.ensures 0 in
    run_more c.args.edges.now c.args.oid heads back c.requires c.chain.above (c.chain.above - 1) _ _
    c.chain.run c.push_entering.new.run (omega arith) refl c.in_ok-push_entering.ensures.enters c.in_ok-push_entering.ensures.other on
    c.chain.invariant

pub returns : goal.returns
returns c =
    run_whole c.args.edges.now c.chain.run c.sort_set.new.self c.args.oid (length c.args.chains.now.heads.items) c.chain.above (omega arith) c.chain.invariant
    c.sort_set.ensures.ascend (c.sort_set.ensures.members edge_same)
