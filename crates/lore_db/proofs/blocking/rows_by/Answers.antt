use Rattle.std.proofs.Common.{◌∙◌}
use Rattle.one_index.specs.BlockReaches.{TellsReached}
use Rattle.statements.specs.Blocks.{named_graph}
use Rattle.statements.proofs.BlockLaws.{sound_graph}
use Rattle.statements.proofs.ViewLaws.{paths_told}
use Rattle.lore_db.proofs.blocking.rows_by.Goals as goal

pub select_by-requires-clause-tells : goal.select_by-requires-clause-tells
select_by-requires-clause-tells g c =
    let db = c.args.store.now.db in
    let told = c.new-paths.result in
    paths_told db (TellsReached told) told.labels (c.new-paths.ensures.labels ∙ c.labels.ensures)
    (c.new-paths.ensures.tells (named_graph db) (sound_graph db c.requires.valid) c.requires.blocks)
