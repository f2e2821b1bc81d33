use Rattle.std.proofs.Common.{FitsSigned, w64, rules}
use Rattle.std.proofs.lemmas.Int.{to_z-of_z}
use Rattle.std.proofs.lemmas.Result.{on_ok_weaker}
use Rattle.join_tables.proofs.NumberLaws.{taken_number, without_number}
use Rattle.join_tables.proofs.numbers.push_numbered.Goals as goal

pub returns-in-Some : goal.returns-in-Some
returns-in-Some g c =
    let fits : FitsSigned w64 c.in-Some.number = search rules in
    on_ok_weaker c.push.result
    (taken_number (g.G.ValueOf.objects c.args.graph.now) c.args.oid c.number_at.result c.in-Some.number _ c.args.found.now c.push.new.self c.in-Some.is
    (to_z-of_z w64 c.in-Some.number fits)
    c.number_at.ensures) c.push.ensures.ok

pub returns-in-None : goal.returns-in-None
returns-in-None g c =
    without_number (g.G.ValueOf.objects c.args.graph.now) c.args.oid c.number_at.result c.args.found.now c.in-None.is c.number_at.ensures
