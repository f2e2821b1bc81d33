use Rattle.std.proofs.Common.{◌≡◌, ◌+◌, ◌≤◌, ◌++◌, length, map, reverse, set, take, vec_len}
use Rattle.std.specs.Prelude.{vec_capacity}
use Rattle.plan_ops.specs.inside.Offers.{partial_at}
use Rattle.plan_ops.proofs.partial_rows.push_filled.Given as goal

abbrev pub invariant-oids : goal.invariant-oids
invariant-oids l =
    record {
      whole : l.partials.items ++ map (partial_at l.next) (map (set l.row l.slot) (reverse (take l.left l.oids)))
          ≡ l.fn.partials.items ++ map (partial_at l.next) (map (set l.row l.slot) (reverse l.oids));
      room : vec_len l.partials + l.left ≤ vec_capacity l.partials;
      within : l.left ≤ length l.oids;
    }

abbrev pub decreases-oids : goal.decreases-oids
decreases-oids l = l.left
