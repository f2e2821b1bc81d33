use Rattle.std.proofs.Common.{ℕ, List, ◌++◌, take}
use Rattle.std.specs.Prelude.{codes}
use Rattle.std.specs.List.{flat_map}
use Rattle.lore_base.specs.Pieces.{Takes}
use Rattle.reply_texts.proofs.texts.put_lines.Given as goal

abbrev pub invariant-lines : goal.invariant-lines
invariant-lines g l = Takes (g.O.Out.state l.fn.out)
    (flat_map (λ (line : List ℕ). line ++ codes "\n") (take l.line-index l.lines))
    (g.O.Out.state l.out)
