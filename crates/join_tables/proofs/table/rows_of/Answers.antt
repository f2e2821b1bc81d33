use Rattle.std.proofs.Common.{sym}
use Rattle.join_tables.proofs.TableLaws.{table_by}
use Rattle.join_tables.proofs.table.rows_of.Goals as goal

pub returns : goal.returns
returns g c =
    table_by (g.K.Links.edges c.args.links.now) (g.V.Values.entries c.args.values.now) c.args.word.now c.in-Some.label.now c.in_ok-ends.ends c.leading_to.result
    (sym c.in-Some.ensures.value) c.in_ok-ends.ensures c.leading_to.ensures
