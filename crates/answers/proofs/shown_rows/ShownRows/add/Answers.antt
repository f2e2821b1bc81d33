use Rattle.std.proofs.Common.{◌≡◌, ◌↔◌, [], ◌∷◌, ◌++◌, List, All, Bool, true, false, true≢false, length, take, drop, Some, IfOk, subst, sym, refl, ap, ◌∙◌, arith}
use Rattle.std.specs.Prelude.{◌⊎◌}
use Rattle.std.specs.List.{AllZip}
use Rattle.std.proofs.lemmas.Result.{IfOk-weaker, on_ok_weaker}
use Rattle.lorel_bound.specs.SlotRows.{IsObjectCell}
use Rattle.answers.specs.Types.{Oid, Cell}
use Rattle.answers.specs.inside.Finding.{Finds}
use Rattle.answers.specs.inside.Showing.{RowsShown, IsMadeReady, IsReadyObject, IsReadyWithin, ReadsRow, ShowsNext, IsNoted, AreNow}
use Rattle.answers.specs.declared.ready_cells.ReadyCell.{ReadyCell}
use Rattle.answers.proofs.ReadLaws.{put_whole, made_objects}
use Rattle.answers.proofs.NoteLaws.{noted_at, of_one, of_one_trans, noted_more, now_read, now_all, now_alike}
use Rattle.answers.proofs.shown_rows.ShownRows.add.Goals as goal

pub note-requires : goal.note-requires
note-requires g c = subst (All (IsReadyWithin {A = g.row.A.Denot})) (sym c.as_mut_slice.ensures.value) c.self.invariant.1

pub invariant_of-self : goal.invariant_of-self
invariant_of-self g c =
    let whole = put_whole c.self.inside.cells.items c.note.new.cells c.self.inside.cells.len (omega (arith, c.self.inside.cells.ok.0))
    (c.note.ensures.same ∙ c.as_mut_slice.ensures.value) in (
      subst (AllZip (IsMadeReady {A = g.row.A.Denot} c.self.inside.labels.now (g.A.Adjacent.edges c.self.inside.graph.now) c.self.inside.bound.now.ranges)
          c.self.inside.bound.now.cells) (sym whole) c.self.invariant.0,
      subst (All (IsReadyWithin {A = g.row.A.Denot})) (sym whole) c.self.invariant.1,
      c.self.invariant.2,
    )

pub returns-then-not-self-clause-select : goal.returns-then-not-self-clause-select
returns-then-not-self-clause-select g c =
    of_one c.self.inside.labels.now (g.A.Adjacent.edges c.self.inside.graph.now) c.self.inside.bound.now c.self.inside.waiting.items c.self.inside.waiting.items
    c.self.inside.found c.note.new.found c.args.self.now c.self.view_is

pub returns-then-not-self-clause-rows : goal.returns-then-not-self-clause-rows
returns-then-not-self-clause-rows g c =
    let labels = c.self.inside.labels.now in
    let edges = g.A.Adjacent.edges c.self.inside.graph.now in
    let bound = c.self.inside.bound.now in
    let waiting = c.self.inside.waiting.items in
    subst (λ (shown : RowsShown). IfOk c.note.result (AreNow (λ own. IsNoted shown own ⊎ ShowsNext shown c.args.row own)
    (IsNoted (noted_at labels edges bound waiting c.note.new.found)))) c.self.view_is
    (IfOk-weaker c.note.result (Finds (λ own. ReadsRow c.args.row c.as_mut_slice.result.now (Some own)) c.self.inside.found c.note.new.found)
    (AreNow (λ own. IsNoted (noted_at labels edges bound waiting c.self.inside.found) own ⊎ ShowsNext (noted_at labels edges bound waiting c.self.inside.found) c.args.row own)
    (IsNoted (noted_at labels edges bound waiting c.note.new.found)))
    (λ cut finds. now_read labels edges bound c.self.inside.cells.items c.self.invariant.0 waiting c.self.inside.found c.note.new.found cut c.args.row
    (subst (λ (cells : List (ReadyCell g.row.A.Denot)). Finds (λ own. ReadsRow c.args.row cells (Some own)) c.self.inside.found c.note.new.found cut)
    c.as_mut_slice.ensures.value finds))
    c.note.ensures.found)

pub returns-then-not-self-clause-quiet : goal.returns-then-not-self-clause-quiet
returns-then-not-self-clause-quiet g c objects =
    let own = subst (λ (shown : RowsShown). All IsObjectCell shown.bound.cells) (sym c.self.view_is) objects in
    let ready = made_objects c.self.inside.labels.now (g.A.Adjacent.edges c.self.inside.graph.now) c.self.inside.bound.now.ranges c.self.inside.bound.now.cells
    c.self.inside.cells.items c.self.invariant.0 own in
    on_ok_weaker {P = c.note.new.steps ≡ c.args.steps.now}
    {Q = (c.note.new.steps ≡ c.args.steps.now) × (c.self.inside.waiting.items ≡ c.args.self.now.waiting)} c.note.result (λ same. (same, ap (λ (shown : RowsShown). shown.waiting) c.self.view_is))
    (c.note.ensures.quiet (subst (All (IsReadyObject {A = g.row.A.Denot})) (sym c.as_mut_slice.ensures.value) ready))

pub invariant_of-self-in_err-push : goal.invariant_of-self-in_err-push
invariant_of-self-in_err-push g c = c.self.invariant

pub returns-in_err-push-clause-select : goal.returns-in_err-push-clause-select
returns-in_err-push-clause-select g c =
    of_one c.self.inside.labels.now (g.A.Adjacent.edges c.self.inside.graph.now) c.self.inside.bound.now c.self.inside.waiting.items c.push.new.self.items
    c.self.inside.found c.self.inside.found c.args.self.now c.self.view_is

pub invariant_of-self-then-len-lt-WAITING : goal.invariant_of-self-then-len-lt-WAITING
invariant_of-self-then-len-lt-WAITING g c = c.self.invariant

pub returns-then-len-lt-WAITING-clause-select : goal.returns-then-len-lt-WAITING-clause-select
returns-then-len-lt-WAITING-clause-select g c =
    of_one c.self.inside.labels.now (g.A.Adjacent.edges c.self.inside.graph.now) c.self.inside.bound.now c.self.inside.waiting.items c.push.new.self.items
    c.self.inside.found c.self.inside.found c.args.self.now c.self.view_is

pub returns-then-len-lt-WAITING-clause-rows : goal.returns-then-len-lt-WAITING-clause-rows
returns-then-len-lt-WAITING-clause-rows g c =
    let labels = c.self.inside.labels.now in
    let edges = g.A.Adjacent.edges c.self.inside.graph.now in
    let bound = c.self.inside.bound.now in
    let found = c.self.inside.found in
    now_all (λ own. IsNoted c.args.self.now own ⊎ ShowsNext c.args.self.now c.args.row own) (IsNoted (noted_at labels edges bound c.push.new.self.items found))
    (noted_more labels edges bound c.self.inside.waiting.items c.push.new.self.items found c.args.row c.args.self.now c.self.view_is c.in_ok-push.ensures.items)

pub returns-then-len-lt-WAITING-clause-quiet : goal.returns-then-len-lt-WAITING-clause-quiet
returns-then-len-lt-WAITING-clause-quiet g c objects =
    absurd (true≢false (sym c.if-not-self.false
    ∙ c.self.invariant.2 (subst (λ (shown : RowsShown). All IsObjectCell shown.bound.cells) (sym c.self.view_is) objects)))

pub invariant_of-self-2 : goal.invariant_of-self-2
invariant_of-self-2 g c = c.self.invariant

pub returns-clause-select : goal.returns-clause-select
returns-clause-select g c =
    let labels = c.self.inside.labels.now in
    let edges = g.A.Adjacent.edges c.self.inside.graph.now in
    let bound = c.self.inside.bound.now in
    of_one_trans c.args.self.now (noted_at labels edges bound c.push.new.self.items c.self.inside.found) c.read_waiting.new.self
    (of_one labels edges bound c.self.inside.waiting.items c.push.new.self.items c.self.inside.found c.self.inside.found c.args.self.now c.self.view_is)
    c.read_waiting.ensures.select

pub returns-clause-rows : goal.returns-clause-rows
returns-clause-rows g c =
    let labels = c.self.inside.labels.now in
    let edges = g.A.Adjacent.edges c.self.inside.graph.now in
    let bound = c.self.inside.bound.now in
    let found = c.self.inside.found in
    let Mid : List Cell → Type 0 = IsNoted (noted_at labels edges bound c.push.new.self.items found) in
    let Wanted : List Cell → Type 0 = λ own. IsNoted c.args.self.now own ⊎ ShowsNext c.args.self.now c.args.row own in
    IfOk-weaker c.read_waiting.result (AreNow Mid (IsNoted c.read_waiting.new.self)) (AreNow Wanted (IsNoted c.read_waiting.new.self))
    (λ cut. now_alike Mid Wanted (IsNoted c.read_waiting.new.self) cut
    (noted_more labels edges bound c.self.inside.waiting.items c.push.new.self.items found c.args.row c.args.self.now c.self.view_is c.in_ok-push.ensures.items))
    c.read_waiting.ensures.rows

pub returns-clause-quiet : goal.returns-clause-quiet
returns-clause-quiet g c objects =
    absurd (true≢false (sym c.if-not-self.false
    ∙ c.self.invariant.2 (subst (λ (shown : RowsShown). All IsObjectCell shown.bound.cells) (sym c.self.view_is) objects)))
