use Rattle.std.proofs.Common.{sym}
use Rattle.member_clues.proofs.choosing.clue_by_value.Goals as goal

pub returns-clause-member : goal.returns-clause-member
returns-clause-member g c =
    let at = c.in-Some.ensures.lookup.3 in
    (c.place_of_fewest.result, at.0, sym (at.1 c.in-Some.clue.now))

pub returns-clause-given : goal.returns-clause-given
returns-clause-given g c = c.is_end_given.ensures c.if-not-is_end_given.false
