use Rattle.std.proofs.Common.{IfOk, IfSome, sym, subst}
use Rattle.std.specs.Option.{option_copied}
use Rattle.lorel_bound.specs.declared.conditions.BoundOperand.{BoundOperand}
use Rattle.lorel_bound.specs.Bound.{bound_operand}
use Rattle.lorel_bound.specs.Conditions.{compare}
use Rattle.member_clues.specs.inside.Reading.{within, IsClueBy}
use Rattle.member_clues.proofs.sides.clue_of.Goals as goal

pub returns-in-At : goal.returns-in-At
returns-in-At c =
    subst (λ (o : BoundOperand). IfOk c.clue_of_side.result (λ found. IfSome found
    (IsClueBy c.args.labels.now (within (option_copied c.args.through) (compare (bound_operand o) c.args.op (bound_operand c.args.given.now)))))) (sym c.in-At.is)
    c.clue_of_side.ensures
