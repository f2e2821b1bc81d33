use Rattle.std.proofs.Common.{◌∙◌, [], sym}
use Rattle.std.proofs.lemmas.List.{append-nil}
use Rattle.std.proofs.lemmas.Result.{on_ok_weaker, on_err_weaker}
use Rattle.lore_base.specs.Paths.{path_tree}
use Rattle.lore_base.proofs.TargetLaws.{ListsInOrder-same}
use Rattle.set_walk.specs.SetPaths.{IsReachedBySets}
use Rattle.one_index.specs.Blocks.{IsMember, HasEdge}
use Rattle.one_index.specs.BlockReaches.{BlocksOver, TellsReached}
use Rattle.one_index.proofs.WalkLaws.{told-as-seen}
use Rattle.one_index.proofs.block_paths.BlockPathsPaths.select.Goals as goal

pub returns-clause-objects : goal.returns-clause-objects
returns-clause-objects c =
    let blocks = c.self.inside.blocks.now in
    let labels = c.self.inside.labels.now in
    let path = path_tree c.args.path.now in
    let named = c.args.named in
    let start = c.block_of-start.result in
    let told : BlocksOver = record { blocks = blocks; labels = labels } in
    on_ok_weaker c.select_by_sets.result
    (λ more. (
      more.0,
      more.1,
      ListsInOrder-same (IsReachedBySets labels (HasEdge blocks) (IsMember blocks) path start)
          (TellsReached c.args.self.now path named) more.0
          (told-as-seen told c.args.self.now path named start c.self.view_is c.block_of-start.ensures.found
          c.block_of-start.ensures.only c.block_of-start.ensures.none) more.2,
    ))
    c.select_by_sets.ensures.objects

pub returns-clause-err : goal.returns-clause-err
returns-clause-err c =
    on_err_weaker c.select_by_sets.result (λ same. ([], same ∙ sym (append-nil c.args.buf.now))) c.select_by_sets.ensures.err
