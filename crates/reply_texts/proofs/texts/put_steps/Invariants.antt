use Rattle.std.proofs.Common.{take}
use Rattle.std.specs.List.{flat_map}
use Rattle.reply_texts.specs.Texts.{step_text}
use Rattle.lore_base.specs.Pieces.{Takes}
use Rattle.reply_texts.proofs.texts.put_steps.Given as goal

abbrev pub invariant-steps : goal.invariant-steps
invariant-steps g l = Takes (g.O.Out.state l.fn.out)
    (flat_map (step_text l.labels) (take l.label-index l.word))
    (g.O.Out.state l.out)
