use Rattle.std.proofs.Common.{subst}
use Rattle.std.specs.Option.{option_copied}
use Rattle.lorel_bound.specs.Bound.{bound_operand}
use Rattle.member_clues.specs.inside.Reading.{IsShort}
use Rattle.member_clues.proofs.MadeLaws.{clue_reached}
use Rattle.member_clues.proofs.sides.clue_of_side.Goals as goal

pub clue_of_path-requires-clause-path : goal.clue_of_path-requires-clause-path
clue_of_path-requires-clause-path c = subst IsShort c.in-Some.ensures.own c.requires.through

pub clue_of_path-requires-clause-outside : goal.clue_of_path-requires-clause-outside
clue_of_path-requires-clause-outside c = c.is_given_outside.ensures c.if-not-is_given_outside.false

pub clue_of_path-requires-in-None-clause-outside : goal.clue_of_path-requires-in-None-clause-outside
clue_of_path-requires-in-None-clause-outside c = c.is_given_outside.ensures c.if-not-is_given_outside.false

pub returns-in-Some : goal.returns-in-Some
returns-in-Some c =
    clue_reached c.args.labels.now (option_copied c.args.through) c.in-Some.first.now c.args.path.now c.args.op (bound_operand c.args.given.now)
    c.clue_of_path.result c.in-Some.ensures.own c.in-Some.ensures.itself (c.is_given_outside.ensures c.if-not-is_given_outside.false) c.clue_of_path.ensures
