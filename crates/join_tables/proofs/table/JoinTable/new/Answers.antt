use Rattle.std.proofs.Common.{ℤ, List, Option, IfSome, subst}
use Rattle.join_tables.specs.Types.{Oid}
use Rattle.join_tables.specs.Tables.{IsTableBy}
use Rattle.join_tables.proofs.TableLaws.{table_same}
use Rattle.join_tables.proofs.table.JoinTable.new.Goals as goal

pub returns-in-Some : goal.returns-in-Some
returns-in-Some g c =
    let links = g.K.Links.edges c.args.links.now in
    let entries = g.V.Values.entries c.args.values.now in
    let word = c.args.word.now in
    table_same links entries word c.in-Some.rows c.sorted.result c.sorted.ensures
    (subst (λ (found : Option (List (ℤ × Oid))). IfSome found (IsTableBy links entries word)) c.in-Some.is c.in_ok-rows.ensures)
