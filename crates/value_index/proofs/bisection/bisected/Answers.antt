use Rattle.std.proofs.Common.{◌≡◌, ◌≢◌, ◌<◌, ◌≤◌, false, Equal, List, length, get_or, nat_eq, drop, take, ap, subst, ◌∙◌, arith, rules}
use Rattle.std.specs.Ordering.{ordering_index}
use Rattle.std.proofs.lemmas.List.{take_rest, take-take, length-take-le}
use Rattle.std.proofs.lemmas.List.Sorted.{IsPartitionPoint-from_clause}
use Rattle.value_index.specs.Types.{Entry}
use Rattle.value_index.specs.inside.Runs.{side_in}
use Rattle.value_index.proofs.RunLaws.{parted_before, parted_in, run_is, sides_rise, front-parted, reached, end_fails}
use Rattle.value_index.proofs.bisection.bisected.Goals as goal

pub returns : goal.returns
returns c =
    let entries = c.args.entries.now in
    let start = c.partition_point-start.result in
    let len = c.partition_point-len.result in
    let side = side_in c.args.values.now c.args.kind c.args.label c.args.op c.args.value.now in
    let rise = sides_rise c.args.values.now c.args.kind c.args.label c.args.op c.args.value.now entries c.requires.ascend in
    let low = IsPartitionPoint-from_clause (λ e. nat_eq (ordering_index (side e)) 0) entries start
    c.partition_point-start.ensures.partitioned (parted_before side entries rise) (λ a r q k. search rules) in
    let rest = take_rest entries start in
    let whole = drop start entries in
    let near = c.reach.result in
    let bound : near ≤ length whole = subst (λ (l : List Entry). near ≤ length l) rest c.reach.ensures.bound in
    let end : near < length whole → (d : Entry) → side (get_or whole near d) ≢ Equal =
    subst (λ (l : List Entry). near < length l → (d : Entry) → side (get_or l near d) ≢ Equal) rest c.reach.ensures.end in
    let in_run = λ (e : Entry). nat_eq (ordering_index (side e)) 1 in
    let fails : near < length whole → (d : Entry) → in_run (get_or whole near d) ≡ false = λ lt d. end_fails side (get_or whole near d) (end lt d) in
    let whole_parted = parted_in side entries rise start low.1 in
    let parted = rw rest at c.partition_point-len.ensures in
    let point = IsPartitionPoint-from_clause in_run (take near whole) len
    parted.partitioned (front-parted in_run whole whole_parted near bound fails) (λ a r q k. search rules) in
    let few : len ≤ near = omega (arith, parted.bound, length-take-le near whole bound) in
    let high = reached in_run whole whole_parted near bound fails len few point in
    ap (λ (l : List Entry). take len (take near l)) rest ∙ take-take len near whole few ∙ run_is side entries start len low high
