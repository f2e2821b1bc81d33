-- The lines of the blocks of a graph are determined, and exist.
use Rattle.std.proofs.Common.{ℕ, List, [], ◌∷◌, ◌++◌, length, map, refl, sym, ap, ◌∙◌}
use Rattle.one_index.specs.declared.blocks.Block.{Block}
use Rattle.one_index.proofs.OneBlocks.{one_list}
use Rattle.one_index.proofs.SomeBlocks.{blocks_exist}
use Rattle.block_lines.specs.BlockLines.{block_line, block_count_line}
use Rattle.block_lines.specs.LineLaws.{HasOneListOfLines, LinesExist}

abbrev all_lines : List Block → List (List ℕ)
all_lines blocks = map block_line blocks ++ block_count_line (length blocks) ∷ []

pub one_list_of_lines : HasOneListOfLines
one_list_of_lines graph lines others first second =
    first.are ∙ ap all_lines (one_list graph first.blocks second.blocks first.of_graph second.of_graph) ∙ sym second.are

pub lines_exist : LinesExist
lines_exist graph sound =
    let found = blocks_exist graph sound in
    (all_lines found.0, record { blocks = found.0; of_graph = found.1; are = refl })
