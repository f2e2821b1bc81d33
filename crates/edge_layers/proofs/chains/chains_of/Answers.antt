use Rattle.std.proofs.Common.{ℕ, ◌+◌, ◌%◌, ◌<◌, ◌≡◌, [], ◌∷◌, ◌++◌, length, get_or, ap, ◌∙◌, subst, arith, length-set}
use Rattle.std.proofs.lemmas.List.{length-replicate, get_or_read}
use Rattle.std.proofs.Math.Nat.{mod-lt}
use Rattle.edge_layers.specs.inside.Chains.{slot_among, AreHeads, AreBack}
use Rattle.edge_layers.proofs.ChainLaws.{heads_none, back_none, chain_step, chains_made}
use Rattle.edge_layers.proofs.chains.chains_of.Goals as goal

pub edges-init : goal.edges-init
edges-init g c =
    let slot_of = slot_among c.args.count g.K.Key.key_of in
    let zeros = c.in_ok-heads.ensures.items_if_clones_equal (λ y same. same) in
    record {
      first = heads_none slot_of c.args.edges.now c.args.count c.in_ok-heads.heads.items zeros;
      back = back_none slot_of c.args.edges.now c.in_ok-back.back.items c.in_ok-back.ensures.items;
      wide = ap length zeros ∙ length-replicate c.args.count 0;
      within = omega arith;
    }

pub edges-preserved : goal.edges-preserved
edges-preserved g c =
    let lt = c.edges-test.true in
    let some : 0 < c.args.count = c.requires (omega (arith, lt)) in
    let slot = c.key.result % c.args.count in
    let heads = c.edges.heads.items in
    let back = c.edges.back.items in
    let low : slot < length heads = omega (arith, mod-lt c.key.result some, c.edges.invariant.wide) in
    let pushed : c.push.new.self.items ≡ back ++ get_or heads slot 0 ∷ []
    = c.in_ok-push.ensures.items ∙ ap (λ (n : ℕ). back ++ n ∷ []) (get_or_read heads slot _ low c.index.ensures 0) in
    let step = chain_step g.K.Key.key_of c.args.edges.now c.args.count c.edges.place c.key.result _ lt c.key.ensures heads back c.push.new.self.items some
    c.edges.invariant.wide pushed c.edges.invariant.first c.edges.invariant.back in
    record {
      first = step.0;
      back = step.1;
      wide = length-set heads slot (c.edges.place + 1) ∙ c.edges.invariant.wide;
      within = omega (arith, lt);
    }

pub returns : goal.returns
returns g c =
    let slot_of = slot_among c.args.count g.K.Key.key_of in
    let all : c.edges.place ≡ length c.args.edges.now = omega (arith, c.edges.invariant.within, c.edges-test.false) in
    chains_made g.K.Key.key_of c.args.edges.now c.args.count c.edges.heads.items c.edges.back.items c.requires c.edges.invariant.wide
    (subst (λ (n : ℕ). AreHeads slot_of c.args.edges.now c.edges.heads.items n) all c.edges.invariant.first)
    (subst (λ (n : ℕ). AreBack slot_of c.args.edges.now c.edges.back.items n) all c.edges.invariant.back)
