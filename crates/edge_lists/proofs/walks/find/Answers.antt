use Rattle.std.proofs.Common.{[], ◌∙◌}
use Rattle.edge_lists.specs.Types.{Out}
use Rattle.edge_lists.proofs.ChangeLaws.{next_is, none_waits, not_there}
use Rattle.edge_lists.proofs.ProbeLaws.{none_among}
use Rattle.edge_lists.proofs.walks.find.Goals as goal

pub spot_of-spot-requires-clause-chained : goal.spot_of-spot-requires-clause-chained
spot_of-spot-requires-clause-chained c = ([], c.requires.chained, none_among Out c.args.records.now c.args.edge.now [], c.requires.start)

pub returns-clause-none : goal.returns-clause-none
returns-clause-none c = not_there c.key_of-key.result c.spot_of-spot.result.next c.args.records.now c.args.edge.now c.key_of-key.ensures.none
    (λ key lies. c.spot_of-spot.ensures.next ∙ next_is Out c.args.objects.now c.args.records.now [] c.requires.chained c.args.edge.now key (lies, none_waits key)
    c.spot_of-spot.result.place (c.spot_of-spot.ensures.place [] c.requires.chained (none_among Out c.args.records.now c.args.edge.now []) c.requires.start))
