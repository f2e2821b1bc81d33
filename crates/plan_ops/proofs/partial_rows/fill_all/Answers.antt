use Rattle.std.proofs.Common.{length, set, refl, sym, arith}
use Rattle.std.proofs.lemmas.List.{length-map}
use Rattle.plan_ops.specs.inside.Offers.{Fill}
use Rattle.plan_ops.proofs.TurnLaws.{replaced_by, filled_in}
use Rattle.plan_ops.proofs.partial_rows.fill_all.Goals as goal

pub returns-clause-ok : goal.returns-clause-ok
returns-clause-ok c =
    let last = c.in-Some.field-0 in
    let oids = c.args.oids.now in
    replaced_by c.args.next (Fill c.args.slot oids) _ _ c.pop.new.self.items _ c.pop.result last (length oids) c.reserve.ensures.items c.pop.ensures.items c.in-Some.is
    (filled_in c.args.next c.args.slot last.row oids oids c.pop.new.self.items _ refl c.push_filled.ensures)
    (sym (length-map oids (set last.row c.args.slot))) (omega arith)

pub push_filled-requires-clause-room : goal.push_filled-requires-clause-room
push_filled-requires-clause-room c =
    omega (arith, c.in_ok-reserve.ensures.ok, c.pop.ensures.capacity, c.in-Some.ensures.cases)
