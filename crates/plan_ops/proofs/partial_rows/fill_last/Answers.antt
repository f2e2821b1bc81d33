use Rattle.std.proofs.Common.{set, refl}
use Rattle.plan_ops.specs.inside.Offers.{One}
use Rattle.plan_ops.proofs.TurnLaws.{replaced_in_place}
use Rattle.plan_ops.proofs.partial_rows.fill_last.Goals as goal

pub returns : goal.returns
returns c =
    let old = c.args.partials.now.items in
    let last = c.in-Some.last.now in
    replaced_in_place c.args.next (One c.args.slot c.args.oid) c.args.partials.now.len old _ last (set last.row c.args.slot c.args.oid) c.args.partials.now.ok.0 c.requires.some c.in-Some.ensures.value
    (rw c.set.ensures.oid refl) refl
