use Rattle.std.proofs.Common.{length, ap, arith}
use Rattle.lore_base.specs.Databases.{new_graph}
use Rattle.lore_store.specs.declared.indexes.Indexes.{Indexes}
use Rattle.lore_store.proofs.IndexLaws.{fits_indexes}
use Rattle.lore_store.proofs.indexes.fill.Goals as goal

pub commit_indexes-requires-clause-fits : goal.commit_indexes-requires-clause-fits
commit_indexes-requires-clause-fits g c =
    let same = ap length c.requires.edges in
    let kept : Indexes = record { links = c.reserve_indexes.new.links; values = c.reserve_indexes.new.values } in
    fits_indexes new_graph c.args.graph.now.graph kept c.in_ok-plan.plan (c.reserve_indexes.ensures.same new_graph c.requires.kept) c.in_ok-plan.ensures
    c.requires.rooted (omega (arith, same, c.requires.few))

pub returns-in-Ok : goal.returns-in-Ok
returns-in-Ok g c =
    c.commit_indexes.ensures new_graph c.args.graph.now.graph (c.reserve_indexes.ensures.same new_graph c.requires.kept) c.in_ok-plan.ensures
