use Rattle.std.proofs.Common.{refl}
use Rattle.plan_ops.specs.inside.Offers.{Keep}
use Rattle.plan_ops.proofs.TurnLaws.{replaced_in_place}
use Rattle.plan_ops.proofs.partial_rows.keep_last.Goals as goal

pub returns : goal.returns
returns c =
    let last = c.in-Some.last.now in
    replaced_in_place c.args.next Keep c.args.partials.now.len c.args.partials.now.items _ last last.row c.args.partials.now.ok.0 c.requires c.in-Some.ensures.value refl refl
