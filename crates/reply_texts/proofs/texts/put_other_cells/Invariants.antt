use Rattle.std.proofs.Common.{◌++◌, take}
use Rattle.std.specs.Prelude.{codes}
use Rattle.std.specs.List.{flat_map}
use Rattle.lore_base.specs.Pieces.{Takes}
use Rattle.reply_texts.specs.Texts.{cell_text}
use Rattle.reply_texts.proofs.texts.put_other_cells.Given as goal

abbrev pub invariant-cells : goal.invariant-cells
invariant-cells g l = Takes (g.O.Out.state l.fn.out)
    (flat_map (λ other. codes " | " ++ cell_text l.labels (g.V.ValueOf.objects l.values) other) (take l.cell-index l.cells))
    (g.O.Out.state l.out)
