use Rattle.std.proofs.Common.{Option, IfSome, All, sym, subst}
use Rattle.std.proofs.lemmas.List.Elements.{All-push}
use Rattle.std.specs.Option.{option_copied}
use Rattle.lorel_bound.specs.Bound.{bound_operand}
use Rattle.lorel_bound.specs.Conditions.{compare}
use Rattle.member_clues.specs.declared.clues.Clue.{Clue}
use Rattle.member_clues.specs.Clues.{IsClueOf}
use Rattle.member_clues.specs.inside.Reading.{within, IsClueBy}
use Rattle.member_clues.proofs.sides.push_clue.Goals as goal

pub returns-in_default : goal.returns-in_default
returns-in_default c = λ whole follows all. all

pub returns : goal.returns
returns c = λ whole follows all.
    let labels = c.args.labels.now in
    let asked = within (option_copied c.args.through) (compare (bound_operand c.args.sought.now) c.args.op (bound_operand c.args.given.now)) in
    let own : IsClueBy labels asked c.in-Some.clue = subst (λ (o : Option Clue). IfSome o (IsClueBy labels asked)) c.in-Some.is c.in_ok-clue.ensures in
    subst (All (IsClueOf labels whole)) (sym c.in_ok-push.ensures.items)
    (All-push (IsClueOf labels whole) c.args.clues.now.items c.in-Some.clue all (own whole follows))
