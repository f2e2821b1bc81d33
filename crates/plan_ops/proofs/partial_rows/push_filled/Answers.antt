use Rattle.std.proofs.Common.{◌≡◌, ℕ, ◌+◌, ◌-◌, List, [], ◌∷◌, ◌++◌, get_or, map, reverse, take, set, arith, ap, ◌∙◌}
use Rattle.lore_base.specs.Walks.{oid_of}
use Rattle.plan_ops.specs.Types.{Oid}
use Rattle.plan_ops.specs.inside.Offers.{partial_at}
use Rattle.plan_ops.proofs.TurnLaws.{filled_more}
use Rattle.plan_ops.proofs.partial_rows.push_filled.Goals as goal

pub oids-preserved : goal.oids-preserved
oids-preserved c =
    let place = c.oids.left - 1 in
    let oids = c.args.oids.now in
    let same : place + 1 ≡ c.oids.left = omega (arith, c.oids-test.true) in
    record {
      whole = filled_more c.args.next c.args.slot c.args.row.now oids c.oids.partials.items c.push.new.partials.items place (oid_of 0)
          (omega (arith, c.oids.invariant.within, c.oids-test.true))
          (c.push.ensures.items ∙ ap (λ (r : List Oid). c.oids.partials.items ++ partial_at c.args.next r ∷ [])
          (c.set.ensures.oid ∙ ap (λ (r : List Oid). set r c.args.slot (get_or oids place (oid_of 0))) c.copy-filled.ensures))
          ∙ ap (λ (n : ℕ). c.oids.partials.items ++ map (partial_at c.args.next) (map (set c.args.row.now c.args.slot) (reverse (take n oids)))) same
          ∙ c.oids.invariant.whole;
      room = omega (arith, c.oids.invariant.room, c.push.ensures.len, c.push.ensures.capacity);
      within = omega (arith, c.oids.invariant.within);
    }
