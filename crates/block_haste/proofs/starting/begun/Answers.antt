use Rattle.std.proofs.Common.{◌≡◌, ◌<◌, ℕ, length, replicate, All, Contains, subst, arith}
use Rattle.block_haste.proofs.StartLaws.{IsHastening-begun}
use Rattle.block_haste.proofs.starting.begun.Goals as goal

pub all_changed-requires : goal.all_changed-requires
all_changed-requires c =
    let same : length c.args.graph.now.rows.now ≡ c.len.result = omega (arith, c.len.ensures, c.args.parts.numbers.ok.0, c.requires.numbered.every) in
    subst (λ (n : ℕ). All (λ edge. edge.0 < n) c.args.graph.now.edges.items) same c.requires.graph.parents

pub returns-in-Ok : goal.returns-in-Ok
returns-in-Ok c =
    let graph = c.args.graph.now in
    let parts = c.args.parts in
    let numbers = parts.numbers.items in
    let tags = c.in-Ok.tags.items in
    let changed = c.in-Ok.changed.items in
    let count : c.len.result ≡ length numbers = omega (arith, c.len.ensures, parts.numbers.ok.0) in
    let lists = c.requires.lists in
    IsHastening-begun graph.rows.now graph.kinds.now graph.edges.items tags numbers parts.origins.items c.in-Ok.tally lists.0 parts.lists.items changed
    parts.marks.items c.requires.coarse c.requires.numbered (subst (λ (n : ℕ). tags ≡ replicate n 0) count c.in-Ok.ensures.tags) c.in-Ok.ensures.tally
    lists.1 lists.2 (subst (λ (n : ℕ). (node : ℕ) → node < n → Contains changed node) count c.in-Ok.ensures.every)
    (subst (λ (n : ℕ). All (λ node. node < n) changed) count c.in-Ok.ensures.within) c.requires.marks
