use Rattle.std.proofs.Common.{◌<◌, ◌≤◌, length, map, arith, ◌∙◌}
use Rattle.std.proofs.lemmas.Result.{err_from_is_err_and}
use Rattle.plan_ops.specs.Rows.{IsToCome}
use Rattle.plan_ops.specs.inside.Ready.{ready_tree}
use Rattle.plan_ops.proofs.TurnLaws.{turns, took, eight_there, quiet_behind, kept_fills, gives_before, same_before, none_before, hinted_same, hinted_less, hinted_there, read_last, empty_last}
use Rattle.plan_ops.proofs.machine.next_row.Goals as goal

pub partials-preserved : goal.partials-preserved
partials-preserved g c =
    let over = g.S.Offers.over c.args.sources.now in
    let plan = map ready_tree c.args.ready.now in
    let at = read_last c.as_slice.result.now c.partials.partials.items c.in-Some.last.now c.in-Some.ensures.value c.as_slice.ensures.value in
    let within : c.in-Some.last.now.step < length c.args.ready.now = omega arith in
    let turn = turns over c.args.ready.now c.partials.partials.items c.replace_last.new.partials.items c.in-Some.last.now c.in_ok-offer.offer
    c.partials.invariant.machine at within c.in_ok-offer.ensures.rows c.in_ok-replace_last.ensures.ok in
    record {
      machine = turn.machine;
      kept = c.taken.ensures.kept;
      told = c.narrowed_offer.ensures.told;
      same = same_before (IsToCome over plan c.args.partials.now.items) (IsToCome over plan c.partials.partials.items) (IsToCome over plan c.replace_last.new.partials.items)
          c.partials.invariant.same turn.same;
      lighter = omega (arith, turn.lighter, c.partials.invariant.lighter);
      quiet = λ nothing.
          let before = c.partials.invariant.quiet nothing in
          let behind = quiet_behind over c.args.ready.now c.partials.partials.items c.in-Some.last.now before.1 at in
          (c.in_ok-offer.ensures.quiet behind ∙ c.in_ok-found.ensures.quiet behind ∙ before.0, turn.quiet before.1);
    }

pub partials-smaller : goal.partials-smaller
partials-smaller g c =
    let over = g.S.Offers.over c.args.sources.now in
    let at = read_last c.as_slice.result.now c.partials.partials.items c.in-Some.last.now c.in-Some.ensures.value c.as_slice.ensures.value in
    let within : c.in-Some.last.now.step < length c.args.ready.now = omega arith in
    let turn = turns over c.args.ready.now c.partials.partials.items c.replace_last.new.partials.items c.in-Some.last.now c.in_ok-offer.offer
    c.partials.invariant.machine at within c.in_ok-offer.ensures.rows c.in_ok-replace_last.ensures.ok in
    turn.lighter

pub taken-requires-clause-at : goal.taken-requires-clause-at
taken-requires-clause-at g c = omega arith

pub taken-requires-clause-room : goal.taken-requires-clause-room
taken-requires-clause-room g c =
    let within : c.in-Some.last.now.step < length c.args.ready.now = omega arith in
    omega (arith, within, c.partials.invariant.kept.long)

pub taken-requires-clause-eight : goal.taken-requires-clause-eight
taken-requires-clause-eight g c =
    let over = g.S.Offers.over c.args.sources.now in
    let plan = map ready_tree c.args.ready.now in
    let at = read_last c.as_slice.result.now c.partials.partials.items c.in-Some.last.now c.in-Some.ensures.value c.as_slice.ensures.value in
    eight_there over plan c.partials.partials.items c.in-Some.last.now c.partials.invariant.machine at

pub taken-requires-clause-in_order : goal.taken-requires-clause-in_order
taken-requires-clause-in_order g c = c.partials.invariant.machine.in_order

pub taken-requires-clause-can : goal.taken-requires-clause-can
taken-requires-clause-can g c = c.partials.invariant.machine.can

pub taken-requires-clause-kept : goal.taken-requires-clause-kept
taken-requires-clause-kept g c = c.partials.invariant.kept

pub narrowed_offer-requires-clause-at : goal.narrowed_offer-requires-clause-at
narrowed_offer-requires-clause-at g c = omega arith

pub narrowed_offer-requires-clause-eight : goal.narrowed_offer-requires-clause-eight
narrowed_offer-requires-clause-eight g c =
    let over = g.S.Offers.over c.args.sources.now in
    let plan = map ready_tree c.args.ready.now in
    let at = read_last c.as_slice.result.now c.partials.partials.items c.in-Some.last.now c.in-Some.ensures.value c.as_slice.ensures.value in
    eight_there over plan c.partials.partials.items c.in-Some.last.now c.partials.invariant.machine at

pub narrowed_offer-requires-clause-in_order : goal.narrowed_offer-requires-clause-in_order
narrowed_offer-requires-clause-in_order g c = c.partials.invariant.machine.in_order

pub narrowed_offer-requires-clause-offer : goal.narrowed_offer-requires-clause-offer
narrowed_offer-requires-clause-offer g c = c.in_ok-found.ensures.rows

pub narrowed_offer-requires-clause-hinted : goal.narrowed_offer-requires-clause-hinted
narrowed_offer-requires-clause-hinted g c =
    let over = g.S.Offers.over c.args.sources.now in
    let plan = map ready_tree c.args.ready.now in
    let at = read_last c.as_slice.result.now c.partials.partials.items c.in-Some.last.now c.in-Some.ensures.value c.as_slice.ensures.value in
    hinted_there over (g.S.Hints.hints c.args.sources.now) plan c.args.partials.now.items c.partials.partials.items c.in-Some.last.now
    c.partials.invariant.same c.requires.hinted at

pub replace_last-requires-clause-slot : goal.replace_last-requires-clause-slot
replace_last-requires-clause-slot g c =
    let over = g.S.Offers.over c.args.sources.now in
    let within : c.in-Some.last.now.step < length c.args.ready.now = omega arith in
    kept_fills over c.args.ready.now c.in-Some.last.now.step c.in-Some.last.now.row c.in_ok-offer.offer within c.in_ok-offer.ensures.rows

pub returns-then-at-ready-clause-machine : goal.returns-then-at-ready-clause-machine
returns-then-at-ready-clause-machine g c =
    let over = g.S.Offers.over c.args.sources.now in
    let at = read_last c.as_slice.result.now c.partials.partials.items c.in-Some.last.now c.in-Some.ensures.value c.as_slice.ensures.value in
    let past : length c.args.ready.now ≤ c.in-Some.last.now.step = omega arith in
    let whole = took over c.args.ready.now c.partials.partials.items c.take_last.new.partials.items c.in-Some.last.now c.take_last.result
    c.partials.invariant.machine at past c.take_last.ensures in
    whole.machine

pub returns-then-at-ready-clause-row : goal.returns-then-at-ready-clause-row
returns-then-at-ready-clause-row g c =
    let over = g.S.Offers.over c.args.sources.now in
    let plan = map ready_tree c.args.ready.now in
    let at = read_last c.as_slice.result.now c.partials.partials.items c.in-Some.last.now c.in-Some.ensures.value c.as_slice.ensures.value in
    let past : length c.args.ready.now ≤ c.in-Some.last.now.step = omega arith in
    let whole = took over c.args.ready.now c.partials.partials.items c.take_last.new.partials.items c.in-Some.last.now c.take_last.result
    c.partials.invariant.machine at past c.take_last.ensures in
    gives_before (IsToCome over plan c.args.partials.now.items) (IsToCome over plan c.partials.partials.items) (IsToCome over plan c.take_last.new.partials.items)
    c.take_last.result c.partials.invariant.same whole.gives

pub returns-then-at-ready-clause-fewer : goal.returns-then-at-ready-clause-fewer
returns-then-at-ready-clause-fewer g c =
    let over = g.S.Offers.over c.args.sources.now in
    let at = read_last c.as_slice.result.now c.partials.partials.items c.in-Some.last.now c.in-Some.ensures.value c.as_slice.ensures.value in
    let past : length c.args.ready.now ≤ c.in-Some.last.now.step = omega arith in
    let whole = took over c.args.ready.now c.partials.partials.items c.take_last.new.partials.items c.in-Some.last.now c.take_last.result
    c.partials.invariant.machine at past c.take_last.ensures in
    omega (arith, whole.lighter, c.partials.invariant.lighter)

pub returns-then-at-ready-clause-quiet : goal.returns-then-at-ready-clause-quiet
returns-then-at-ready-clause-quiet g c =
    let over = g.S.Offers.over c.args.sources.now in
    let at = read_last c.as_slice.result.now c.partials.partials.items c.in-Some.last.now c.in-Some.ensures.value c.as_slice.ensures.value in
    let past : length c.args.ready.now ≤ c.in-Some.last.now.step = omega arith in
    let whole = took over c.args.ready.now c.partials.partials.items c.take_last.new.partials.items c.in-Some.last.now c.take_last.result
    c.partials.invariant.machine at past c.take_last.ensures in
    λ nothing. let before = c.partials.invariant.quiet nothing in (before.0, whole.quiet before.1)

pub returns-in_err-found-clause-machine : goal.returns-in_err-found-clause-machine
returns-in_err-found-clause-machine g c =
    c.partials.invariant.machine

pub returns-in_err-found-clause-err : goal.returns-in_err-found-clause-err
returns-in_err-found-clause-err g c =
    let p = err_from_is_err_and c.from_residual.result c.from_residual.ensures.1 in
    rw p.1 c.partials.invariant.same

pub returns-in_err-found-clause-row : goal.returns-in_err-found-clause-row
returns-in_err-found-clause-row g c =
    let p = err_from_is_err_and c.from_residual.result c.from_residual.ensures.1 in
    rw p.1 tt

pub returns-in_err-found-clause-fewer : goal.returns-in_err-found-clause-fewer
returns-in_err-found-clause-fewer g c =
    let p = err_from_is_err_and c.from_residual.result c.from_residual.ensures.1 in
    rw p.1 tt

pub returns-in_err-found-clause-quiet : goal.returns-in_err-found-clause-quiet
returns-in_err-found-clause-quiet g c =
    let p = err_from_is_err_and c.from_residual.result c.from_residual.ensures.1 in
    λ nothing. (rw p.1 tt, (c.partials.invariant.quiet nothing).1)

pub returns-in_err-offer-clause-machine : goal.returns-in_err-offer-clause-machine
returns-in_err-offer-clause-machine g c =
    c.partials.invariant.machine

pub returns-in_err-offer-clause-err : goal.returns-in_err-offer-clause-err
returns-in_err-offer-clause-err g c =
    let p = err_from_is_err_and c.from_residual-in_err-offer.result c.from_residual-in_err-offer.ensures.1 in
    rw p.1 c.partials.invariant.same

pub returns-in_err-offer-clause-row : goal.returns-in_err-offer-clause-row
returns-in_err-offer-clause-row g c =
    let p = err_from_is_err_and c.from_residual-in_err-offer.result c.from_residual-in_err-offer.ensures.1 in
    rw p.1 tt

pub returns-in_err-offer-clause-fewer : goal.returns-in_err-offer-clause-fewer
returns-in_err-offer-clause-fewer g c =
    let p = err_from_is_err_and c.from_residual-in_err-offer.result c.from_residual-in_err-offer.ensures.1 in
    rw p.1 tt

pub returns-in_err-offer-clause-quiet : goal.returns-in_err-offer-clause-quiet
returns-in_err-offer-clause-quiet g c =
    let p = err_from_is_err_and c.from_residual-in_err-offer.result c.from_residual-in_err-offer.ensures.1 in
    λ nothing. (rw p.1 tt, (c.partials.invariant.quiet nothing).1)

pub returns-in_err-replace_last-clause-machine : goal.returns-in_err-replace_last-clause-machine
returns-in_err-replace_last-clause-machine g c =
    rw c.in_err-replace_last.ensures.err c.partials.invariant.machine

pub returns-in_err-replace_last-clause-err : goal.returns-in_err-replace_last-clause-err
returns-in_err-replace_last-clause-err g c =
    let p = err_from_is_err_and c.from_residual-in_err-replace_last.result c.from_residual-in_err-replace_last.ensures.1 in
    rw (p.1, c.in_err-replace_last.ensures.err) c.partials.invariant.same

pub returns-in_err-replace_last-clause-row : goal.returns-in_err-replace_last-clause-row
returns-in_err-replace_last-clause-row g c =
    let p = err_from_is_err_and c.from_residual-in_err-replace_last.result c.from_residual-in_err-replace_last.ensures.1 in
    rw p.1 tt

pub returns-in_err-replace_last-clause-fewer : goal.returns-in_err-replace_last-clause-fewer
returns-in_err-replace_last-clause-fewer g c =
    let p = err_from_is_err_and c.from_residual-in_err-replace_last.result c.from_residual-in_err-replace_last.ensures.1 in
    rw p.1 tt

pub returns-in_err-replace_last-clause-quiet : goal.returns-in_err-replace_last-clause-quiet
returns-in_err-replace_last-clause-quiet g c =
    let p = err_from_is_err_and c.from_residual-in_err-replace_last.result c.from_residual-in_err-replace_last.ensures.1 in
    λ nothing. (rw p.1 tt, rw c.in_err-replace_last.ensures.err (c.partials.invariant.quiet nothing).1)

pub returns-clause-machine : goal.returns-clause-machine
returns-clause-machine g c =
    c.partials.invariant.machine

pub returns-clause-row : goal.returns-clause-row
returns-clause-row g c =
    let over = g.S.Offers.over c.args.sources.now in
    let plan = map ready_tree c.args.ready.now in
    none_before over plan c.partials.partials.items (IsToCome over plan c.args.partials.now.items) c.partials.invariant.same
    (empty_last c.as_slice.result.now c.partials.partials.items c.in_default.ensures.value c.as_slice.ensures.value)

pub returns-clause-quiet : goal.returns-clause-quiet
returns-clause-quiet g c =
    c.partials.invariant.quiet

pub returns-then-at-ready-clause-hinted : goal.returns-then-at-ready-clause-hinted
returns-then-at-ready-clause-hinted g c =
    let over = g.S.Offers.over c.args.sources.now in
    let plan = map ready_tree c.args.ready.now in
    let at = read_last c.as_slice.result.now c.partials.partials.items c.in-Some.last.now c.in-Some.ensures.value c.as_slice.ensures.value in
    let past : length c.args.ready.now ≤ c.in-Some.last.now.step = omega arith in
    let whole = took over c.args.ready.now c.partials.partials.items c.take_last.new.partials.items c.in-Some.last.now c.take_last.result
    c.partials.invariant.machine at past c.take_last.ensures in
    hinted_less over (g.S.Hints.hints c.args.sources.now) plan c.partials.partials.items c.take_last.new.partials.items c.take_last.result whole.gives
    (hinted_same over (g.S.Hints.hints c.args.sources.now) plan c.args.partials.now.items c.partials.partials.items c.partials.invariant.same c.requires.hinted)

pub returns-in_err-found-clause-hinted : goal.returns-in_err-found-clause-hinted
returns-in_err-found-clause-hinted g c =
    let over = g.S.Offers.over c.args.sources.now in
    let plan = map ready_tree c.args.ready.now in
    hinted_same over (g.S.Hints.hints c.args.sources.now) plan c.args.partials.now.items c.partials.partials.items c.partials.invariant.same c.requires.hinted

pub returns-in_err-offer-clause-hinted : goal.returns-in_err-offer-clause-hinted
returns-in_err-offer-clause-hinted g c =
    let over = g.S.Offers.over c.args.sources.now in
    let plan = map ready_tree c.args.ready.now in
    hinted_same over (g.S.Hints.hints c.args.sources.now) plan c.args.partials.now.items c.partials.partials.items c.partials.invariant.same c.requires.hinted

pub returns-in_err-replace_last-clause-hinted : goal.returns-in_err-replace_last-clause-hinted
returns-in_err-replace_last-clause-hinted g c =
    let over = g.S.Offers.over c.args.sources.now in
    let plan = map ready_tree c.args.ready.now in
    rw c.in_err-replace_last.ensures.err (hinted_same over (g.S.Hints.hints c.args.sources.now) plan c.args.partials.now.items c.partials.partials.items c.partials.invariant.same c.requires.hinted)

pub returns-clause-hinted : goal.returns-clause-hinted
returns-clause-hinted g c =
    let over = g.S.Offers.over c.args.sources.now in
    let plan = map ready_tree c.args.ready.now in
    hinted_same over (g.S.Hints.hints c.args.sources.now) plan c.args.partials.now.items c.partials.partials.items c.partials.invariant.same c.requires.hinted

pub returns-then-at-ready-clause-kept : goal.returns-then-at-ready-clause-kept
returns-then-at-ready-clause-kept g c = c.partials.invariant.kept

pub returns-in_err-found-clause-kept : goal.returns-in_err-found-clause-kept
returns-in_err-found-clause-kept g c = c.taken.ensures.kept

pub returns-in_err-offer-clause-kept : goal.returns-in_err-offer-clause-kept
returns-in_err-offer-clause-kept g c = c.taken.ensures.kept

pub returns-in_err-replace_last-clause-kept : goal.returns-in_err-replace_last-clause-kept
returns-in_err-replace_last-clause-kept g c = c.taken.ensures.kept

pub returns-clause-kept : goal.returns-clause-kept
returns-clause-kept g c = c.partials.invariant.kept
