use Rattle.std.proofs.Common.{true≢false, sym, ◌∙◌}
use Rattle.indexmap.specs.IndexMap.{get}
use Rattle.least_words.specs.MachineWords.{same_oid}
use Rattle.least_words.proofs.EndLaws.{AreEnds-kept, AreEnds-put}
use Rattle.least_words.proofs.least.put_end.Goals as goal

pub returns-then-not-has : goal.returns-then-not-has
returns-then-not-has c places are =
    AreEnds-kept places c.args.place (get same_oid c.args.ends.now) (λ at. true≢false (sym (c.has.ensures.1 at) ∙ c.if-not-has.true)) are

pub returns : goal.returns
returns c places are =
    AreEnds-put places c.args.place (get same_oid c.args.ends.now) (get same_oid c.insert.new.self) (c.has.ensures.0 c.if-not-has.false)
    c.in_ok-insert.ensures.updates.0 are
