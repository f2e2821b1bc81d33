use Rattle.std.proofs.Common.{[], ◌∷◌, ◌++◌, ap, ◌∙◌}
use Rattle.block_lines.specs.BlockLines.{block_count_line}
use Rattle.block_lines.proofs.lines.block_lines.Goals as goal

pub returns : goal.returns
returns c graph are =
    let last = c.in_ok-last_line.ensures ∙ ap block_count_line c.len.ensures in
    record {
      blocks = c.args.blocks.now;
      of_graph = are;
      are = c.in_ok-push.ensures.ok ∙ (λ i. c.in_ok-lines.ensures i ++ last i ∷ []);
    }
