use Rattle.std.proofs.Common.{◌≡◌, [], List, All, length, take, drop, ◌++◌, subst, sym, ap, ◌∙◌, arith}
use Rattle.std.specs.List.{AllZip}
use Rattle.answers.specs.Types.{Oid}
use Rattle.answers.specs.inside.Finding.{Finds}
use Rattle.answers.specs.inside.Showing.{RowsShown, IsMadeReady, IsReadyWithin, ReadsSome, IsNoted, AreNow}
use Rattle.answers.specs.declared.ready_cells.ReadyCell.{ReadyCell}
use Rattle.answers.proofs.ReadLaws.{put_whole}
use Rattle.answers.proofs.NoteLaws.{noted_at, of_one, none_moved, now_none_waits}
use Rattle.answers.proofs.shown_rows.ShownRows.read_waiting.Goals as goal

pub invariant_of-self : goal.invariant_of-self
invariant_of-self g c = c.self.invariant

pub returns-in_err-order-clause-select : goal.returns-in_err-order-clause-select
returns-in_err-order-clause-select g c =
    of_one c.self.inside.labels.now (g.A.Adjacent.edges c.self.inside.graph.now) c.self.inside.bound.now c.self.inside.waiting.items c.order.new.rows.items
    c.self.inside.found c.self.inside.found c.args.self.now c.self.view_is

pub note_each-requires : goal.note_each-requires
note_each-requires g c = subst (All (IsReadyWithin {A = g.row.A.Denot})) (sym c.as_mut_slice.ensures.value) c.self.invariant.1

pub invariant_of-self-in_err-cut : goal.invariant_of-self-in_err-cut
invariant_of-self-in_err-cut g c =
    let whole = put_whole c.self.inside.cells.items c.note_each.new.cells c.self.inside.cells.len (omega (arith, c.self.inside.cells.ok.0))
    (c.note_each.ensures.same ∙ c.as_mut_slice.ensures.value) in (
      subst (AllZip (IsMadeReady {A = g.row.A.Denot} c.self.inside.labels.now (g.A.Adjacent.edges c.self.inside.graph.now) c.self.inside.bound.now.ranges)
          c.self.inside.bound.now.cells) (sym whole) c.self.invariant.0,
      subst (All (IsReadyWithin {A = g.row.A.Denot})) (sym whole) c.self.invariant.1,
      c.self.invariant.2,
    )

pub returns-in_err-cut-clause-select : goal.returns-in_err-cut-clause-select
returns-in_err-cut-clause-select g c =
    of_one c.self.inside.labels.now (g.A.Adjacent.edges c.self.inside.graph.now) c.self.inside.bound.now c.self.inside.waiting.items c.order.new.rows.items
    c.self.inside.found c.note_each.new.found c.args.self.now c.self.view_is

pub invariant_of-self-2 : goal.invariant_of-self-2
invariant_of-self-2 g c =
    let whole = put_whole c.self.inside.cells.items c.note_each.new.cells c.self.inside.cells.len (omega (arith, c.self.inside.cells.ok.0))
    (c.note_each.ensures.same ∙ c.as_mut_slice.ensures.value) in (
      subst (AllZip (IsMadeReady {A = g.row.A.Denot} c.self.inside.labels.now (g.A.Adjacent.edges c.self.inside.graph.now) c.self.inside.bound.now.ranges)
          c.self.inside.bound.now.cells) (sym whole) c.self.invariant.0,
      subst (All (IsReadyWithin {A = g.row.A.Denot})) (sym whole) c.self.invariant.1,
      c.self.invariant.2,
    )

pub returns-clause-select : goal.returns-clause-select
returns-clause-select g c =
    of_one c.self.inside.labels.now (g.A.Adjacent.edges c.self.inside.graph.now) c.self.inside.bound.now c.self.inside.waiting.items c.clear.new.self.items
    c.self.inside.found c.note_each.new.found c.args.self.now c.self.view_is

pub returns-clause-rows : goal.returns-clause-rows
returns-clause-rows g c =
    let labels = c.self.inside.labels.now in
    let edges = g.A.Adjacent.edges c.self.inside.graph.now in
    let bound = c.self.inside.bound.now in
    let finds : Finds (ReadsSome c.self.inside.cells.items c.order.new.rows.items) c.self.inside.found c.note_each.new.found c.in_ok-cut.cut =
    subst (λ (rows : List (List Oid)). Finds (ReadsSome c.self.inside.cells.items rows) c.self.inside.found c.note_each.new.found c.in_ok-cut.cut)
    c.as_slice-2.ensures.value
    (subst (λ (cells : List (ReadyCell g.row.A.Denot)). Finds (ReadsSome cells c.as_slice-2.result.now) c.self.inside.found c.note_each.new.found c.in_ok-cut.cut)
    c.as_mut_slice.ensures.value c.in_ok-cut.ensures.found) in
    subst (λ (shown : RowsShown). AreNow (IsNoted shown) (IsNoted (noted_at labels edges bound c.clear.new.self.items c.note_each.new.found)) c.in_ok-cut.cut)
    c.self.view_is
    (subst (λ (rows : List (List Oid)). AreNow (IsNoted (noted_at labels edges bound c.self.inside.waiting.items c.self.inside.found))
    (IsNoted (noted_at labels edges bound rows c.note_each.new.found)) c.in_ok-cut.cut) (sym c.clear.ensures.items)
    (now_none_waits labels edges bound c.self.inside.cells.items c.self.invariant.0 c.self.inside.waiting.items c.self.inside.found c.note_each.new.found
    c.in_ok-cut.cut c.order.new.rows.items c.order.ensures finds))

pub returns-clause-none : goal.returns-clause-none
returns-clause-none g c = c.clear.ensures.items

pub returns-clause-quiet : goal.returns-clause-quiet
returns-clause-quiet g c none =
    c.in_ok-cut.ensures.quiet (c.as_slice-2.ensures.value
    ∙ none_moved c.self.inside.waiting.items c.order.new.rows.items c.order.ensures (ap (λ (shown : RowsShown). shown.waiting) c.self.view_is ∙ none))
