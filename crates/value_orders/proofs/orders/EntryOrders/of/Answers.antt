use Rattle.value_orders.specs.Types.{Wholes, Flags, Readings, FlagReadings}
use Rattle.value_orders.proofs.SortLaws.{theirs-held}
use Rattle.value_orders.proofs.RankLaws.{rank-ascend, rank-members, whole_ranks, flag_ranks, reading_ranks, flag_reading_ranks}
use Rattle.value_orders.proofs.SplitLaws.{five-same, five-orders}
use Rattle.value_orders.proofs.orders.EntryOrders.of.Goals as goal

pub invariant_of-result : goal.invariant_of-result
invariant_of-result c =
    let entries = c.args.entries.now in
    let objects = c.in_ok-values.ensures.ascend in
    let held = c.in_ok-values.ensures.held in
    let theirs = theirs-held entries _ objects held in
    let dealt = c.in_ok-dealt.ensures in
    record {
      objects_ascend = objects;
      wholes_ascend = rank-ascend Wholes entries _ (dealt Wholes) _ c.in_ok-wholes.ensures _ theirs;
      chars_ascend = c.in_ok-chars.ensures.ascend _ theirs;
      flags_ascend = rank-ascend Flags entries _ (dealt Flags) _ c.in_ok-flags.ensures _ theirs;
      readings_ascend = rank-ascend Readings entries _ (dealt Readings) _ c.in_ok-readings.ensures _ theirs;
      flag_readings_ascend = rank-ascend FlagReadings entries _ (dealt FlagReadings) _ c.in_ok-flag_readings.ensures _ theirs;
      are = five-orders entries c.requires.ascend c.requires.atomic _ objects held _ _ _ _ _
          (rank-members Wholes entries _ (dealt Wholes) _ c.in_ok-wholes.ensures whole_ranks) c.in_ok-chars.ensures.members
          (rank-members Flags entries _ (dealt Flags) _ c.in_ok-flags.ensures flag_ranks)
          (rank-members Readings entries _ (dealt Readings) _ c.in_ok-readings.ensures reading_ranks)
          (rank-members FlagReadings entries _ (dealt FlagReadings) _ c.in_ok-flag_readings.ensures flag_reading_ranks);
    }

pub returns : goal.returns
returns c =
    let entries = c.args.entries.now in
    let dealt = c.in_ok-dealt.ensures in
    five-same entries c.requires.ascend c.requires.atomic _ c.in_ok-values.ensures.ascend c.in_ok-values.ensures.held _ _ _ _ _
    (rank-members Wholes entries _ (dealt Wholes) _ c.in_ok-wholes.ensures whole_ranks) c.in_ok-chars.ensures.members
    (rank-members Flags entries _ (dealt Flags) _ c.in_ok-flags.ensures flag_ranks)
    (rank-members Readings entries _ (dealt Readings) _ c.in_ok-readings.ensures reading_ranks)
    (rank-members FlagReadings entries _ (dealt FlagReadings) _ c.in_ok-flag_readings.ensures flag_reading_ranks)
