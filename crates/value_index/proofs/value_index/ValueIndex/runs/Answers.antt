use Rattle.std.proofs.Common.{ap}
use Rattle.value_index.specs.Types.{Wholes, Texts, Flags, Readings, FlagReadings}
use Rattle.value_orders.specs.Orders.{orders_of}
use Rattle.value_index.proofs.IndexLaws.{found_runs, few_runs, run_seen}
use Rattle.value_index.proofs.value_index.ValueIndex.runs.Goals as goal

pub returns-clause-found : goal.returns-clause-found
returns-clause-found c =
    let at = c.self.inside in
    found_runs (orders_of at.values.items at.wholes.items at.chars.items at.flags.items at.readings.items at.flag_readings.items)
    c.self.invariant _ (ap (λ v. v.entries) c.self.view_is) c.args.label c.args.op c.requires.op c.args.value.now
    c.run_of.result.now c.run_of-2.result.now c.run_of-3.result.now c.run_of-4.result.now c.run_of-5.result.now (record {
      wholes_run = run_seen Wholes c.args.label c.args.op c.args.value.now _ _ _ _ _ c.as_slice-values.ensures.value c.as_slice.ensures c.run_of.ensures;
      chars_run = run_seen Texts c.args.label c.args.op c.args.value.now _ _ _ _ _ c.as_slice-values.ensures.value c.as_slice-2.ensures c.run_of-2.ensures;
      flags_run = run_seen Flags c.args.label c.args.op c.args.value.now _ _ _ _ _ c.as_slice-values.ensures.value c.as_slice-3.ensures c.run_of-3.ensures;
      readings_run = run_seen Readings c.args.label c.args.op c.args.value.now _ _ _ _ _ c.as_slice-values.ensures.value c.as_slice-readings.ensures c.run_of-4.ensures;
      flag_readings_run = run_seen FlagReadings c.args.label c.args.op c.args.value.now _ _ _ _ _ c.as_slice-values.ensures.value c.as_slice-flag_readings.ensures c.run_of-5.ensures;
    })

pub returns-clause-few : goal.returns-clause-few
returns-clause-few c =
    let at = c.self.inside in
    few_runs (orders_of at.values.items at.wholes.items at.chars.items at.flags.items at.readings.items at.flag_readings.items)
    c.self.invariant _ (ap (λ v. v.entries) c.self.view_is) c.args.label c.args.op c.args.value.now _ (returns-clause-found c)
