use Rattle.std.proofs.Common.{◌≡◌, map, take}
use Rattle.block_lines.specs.BlockLines.{block_line}
use Rattle.block_lines.proofs.lines.lines_of.Given as goal

abbrev pub invariant-numbers : goal.invariant-numbers
invariant-numbers l = l.lines ≡ map block_line (take l.number l.blocks)
