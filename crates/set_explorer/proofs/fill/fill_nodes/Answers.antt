use Rattle.std.proofs.Common.{◌≡◌, ◌++◌, sym, ap, ◌∙◌, arith}
use Rattle.std.proofs.lemmas.List.{append-nil}
use Rattle.std.specs.Prelude.{vec_capacity}
use Rattle.set_explorer.specs.PlannedNodes.{nodes_then}
use Rattle.set_explorer.proofs.FoundSteps.{none-left}
use Rattle.set_explorer.proofs.FillLaws.{filling-start, filling-more, origin-there, count-now, filled-count}
use Rattle.set_explorer.proofs.fill.fill_nodes.Goals as goal

pub nodes-init : goal.nodes-init
nodes-init c =
    filling-start c.args.old.items c.args.nodes.items c.into_iter-planned-iterator.result.rest.items c.args.room.items
    (vec_capacity c.args.room) c.args.by_hash.items (vec_capacity c.args.by_hash)
    c.into_iter-planned-iterator.ensures.into_iter_gives.0 c.requires

pub nodes-preserved : goal.nodes-preserved
nodes-preserved c =
    let count = filled-count c.args.old.items c.args.nodes.items c.nodes.yielded c.nodes.planned-iterator.rest.items
    c.nodes.old.items
    c.nodes.room.items (vec_capacity c.nodes.room) c.nodes.by_hash.items (vec_capacity c.nodes.by_hash)
    c.nodes.invariant in
    rw (c.push_reserved-in-nodes.ensures.capacity, c.push_reserved.ensures.capacity)
    (filling-more c.args.old.items c.args.nodes.items c.nodes.yielded c.nodes.planned-iterator.rest.items
    c.next.new.self.rest.items c.nodes.old.items c.nodes.room.items (vec_capacity c.nodes.room) c.nodes.by_hash.items
    (vec_capacity c.nodes.by_hash) c.nodes.invariant c.in-Some.planned c.in-Some.ensures.steps.0
    c.take_set-set.new.old.items c.push_reserved-in-nodes.new.self.items c.push_reserved.new.self.items
    c.take_set-set.result
    c.hash64.result c.len.result c.take_set-set.ensures.set c.hash64.ensures
    (omega (arith, c.len.ensures, c.nodes.room.ok.0)) c.push_reserved-in-nodes.ensures.items
    c.push_reserved.ensures.items
    c.take_set-set.ensures.len c.take_set-set.ensures.others)

pub take_set-set-requires : goal.take_set-set-requires
take_set-set-requires c =
    origin-there c.args.old.items c.args.nodes.items c.nodes.yielded c.nodes.planned-iterator.rest.items
    c.next.new.self.rest.items c.nodes.old.items c.nodes.room.items (vec_capacity c.nodes.room) c.nodes.by_hash.items
    (vec_capacity c.nodes.by_hash) c.nodes.invariant c.in-Some.planned c.in-Some.ensures.steps.0

pub push_reserved-requires : goal.push_reserved-requires
push_reserved-requires c =
    let more = count-now c.args.old.items c.args.nodes.items c.nodes.yielded c.nodes.planned-iterator.rest.items
    c.next.new.self.rest.items c.nodes.old.items c.nodes.room.items (vec_capacity c.nodes.room) c.nodes.by_hash.items
    (vec_capacity c.nodes.by_hash) c.nodes.invariant c.in-Some.planned c.in-Some.ensures.steps.0 in
    omega (arith, more, c.nodes.invariant.hashes_count, c.nodes.invariant.hashes_fit, c.nodes.by_hash.ok.0)

pub returns-clause-nodes : goal.returns-clause-nodes
returns-clause-nodes c =
    let done : c.nodes.yielded ≡ c.args.nodes.items = sym (append-nil c.nodes.yielded)
    ∙ ap (λ l. c.nodes.yielded ++ l) (none-left c.nodes.planned-iterator.rest.items
    (omega (arith, c.in-None.ensures.steps.0, c.nodes.planned-iterator.rest.ok.0))) ∙ c.nodes.invariant.whole in
    c.nodes.invariant.filled ∙ ap (nodes_then c.args.old.items) done
