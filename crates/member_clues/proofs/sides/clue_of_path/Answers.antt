use Rattle.std.proofs.Common.{refl}
use Rattle.std.specs.Option.{option_copied}
use Rattle.lorel_bound.specs.Bound.{bound_operand}
use Rattle.member_clues.proofs.MadeLaws.{label_found, clue_of}
use Rattle.member_clues.proofs.sides.clue_of_path.Goals as goal

pub returns : goal.returns
returns c = λ whole follows.
    clue_of c.args.labels.now whole (option_copied c.args.through) _ _ c.args.path.now.start c.args.path.now.rest (bound_operand c.args.given.now)
    c.in-Some-last_label.text.now refl c.in-Some.ensures c.in_ok-through.ensures c.in_ok-way.ensures c.in_ok-given.ensures c.requires.probed c.in-Some-last_label.ensures.some
    (label_found c.args.labels.now c.in-Some-last_label.text.now c.find-label.result c.find-label.ensures.found c.find-label.ensures.none)
    c.requires.outside follows
