use Rattle.std.proofs.Common.{ℤ, List, nat_eq, subst, sym, rules}
use Rattle.std.specs.Ordering.{ordering_index}
use Rattle.std.proofs.lemmas.List.{take_rest}
use Rattle.std.proofs.lemmas.List.Sorted.{IsPartitionPoint-from_clause}
use Rattle.std.proofs.lemmas.Result.{on_ok_weaker}
use Rattle.join_tables.specs.Types.{Oid}
use Rattle.join_tables.specs.inside.Runs.{IsFromNumber, TakesRun, side_of}
use Rattle.join_tables.proofs.RunLaws.{rows_rise, rows_parted, from_number, taken_from}
use Rattle.join_tables.proofs.table.push_run.Goals as goal

pub push_front-requires : goal.push_front-requires
push_front-requires c =
    let rows = c.args.rows.now in
    let number = c.args.number.now in
    let start = c.partition_point-start.result in
    let rise = rows_rise number rows c.requires in
    let point = IsPartitionPoint-from_clause (λ row. nat_eq (ordering_index (side_of number row)) 0) rows start c.partition_point-start.ensures.partitioned
    (rows_parted number rows rise) (λ a r q k. search rules) in
    subst (IsFromNumber number) (sym (take_rest rows start)) (from_number number rows start rise point)

pub returns : goal.returns
returns c =
    let rows = c.args.rows.now in
    let number = c.args.number.now in
    let start = c.partition_point-start.result in
    let rise = rows_rise number rows c.requires in
    let point = IsPartitionPoint-from_clause (λ row. nat_eq (ordering_index (side_of number row)) 0) rows start c.partition_point-start.ensures.partitioned
    (rows_parted number rows rise) (λ a r q k. search rules) in
    on_ok_weaker c.push_front.result (λ run few. taken_from number rows start c.args.oids.now c.push_front.new.oids point
    (subst (λ (l : List (ℤ × Oid)). TakesRun l number c.args.oids.now c.push_front.new.oids) (take_rest rows start) (run few))) c.push_front.ensures
