use Rattle.std.proofs.Common.{◌≡◌, ◌≤◌, ◌+◌, Bool, false, [], List, All, length, take, subst, sym, refl, ap, ◌∙◌, arith}
use Rattle.std.proofs.lemmas.List.{take_all}
use Rattle.answers.specs.Types.{Oid}
use Rattle.answers.specs.inside.Finding.{Finds}
use Rattle.answers.specs.inside.Showing.{IsReadyWithin, ReadsSome}
use Rattle.answers.proofs.NoteLaws.{finds_none, reads_none, turn_finds, turn_cut}
use Rattle.answers.proofs.shown_rows.note_each.Goals as goal

pub rows-init : goal.rows-init
rows-init g c = record {
  same = refl;
  found = finds_none (ReadsSome c.args.cells.now []) c.args.found.now (reads_none c.args.cells.now);
  quiet = λ none. refl;
}

pub note-requires : goal.note-requires
note-requires g c = subst (All (IsReadyWithin {A = g.row.A.Denot})) (sym c.rows.invariant.same) c.requires

pub returns-in_err-note-clause-same : goal.returns-in_err-note-clause-same
returns-in_err-note-clause-same g c = c.note.ensures.same ∙ c.rows.invariant.same

pub returns-then-branch-clause-same : goal.returns-then-branch-clause-same
returns-then-branch-clause-same g c = c.note.ensures.same ∙ c.rows.invariant.same

pub returns-then-branch-clause-found : goal.returns-then-branch-clause-found
returns-then-branch-clause-found g c =
    turn_cut c.args.cells.now c.rows.cells c.rows.invariant.same c.args.rows.now c.rows.row-index c.row-item.result c.rows-test.true c.row-item.is
    c.args.found.now c.rows.found c.note.new.found c.in_ok-note.field-0 c.rows.invariant.found c.in_ok-note.ensures.found c.if-branch.true

pub returns-then-branch-clause-quiet : goal.returns-then-branch-clause-quiet
returns-then-branch-clause-quiet g c none = absurd (omega (arith, c.rows-test.true, ap (λ (rows : List (List Oid)). length rows) none))

pub rows-preserved : goal.rows-preserved
rows-preserved g c = record {
  same = c.note.ensures.same ∙ c.rows.invariant.same;
  found = subst (λ (cut : Bool). Finds (ReadsSome c.args.cells.now (take (c.rows.row-index + 1) c.args.rows.now)) c.args.found.now c.note.new.found cut) c.if-branch.false
      (turn_finds c.args.cells.now c.rows.cells c.rows.invariant.same c.args.rows.now c.rows.row-index c.row-item.result c.rows-test.true c.row-item.is
      c.args.found.now c.rows.found c.note.new.found c.in_ok-note.field-0 c.rows.invariant.found c.in_ok-note.ensures.found);
  quiet = λ none. absurd (omega (arith, c.rows-test.true, ap (λ (rows : List (List Oid)). length rows) none));
}

pub returns-clause-found : goal.returns-clause-found
returns-clause-found g c =
    subst (λ (rows : List (List Oid)). Finds (ReadsSome c.args.cells.now rows) c.args.found.now c.rows.found false)
    (take_all c.rows.row-index c.args.rows.now c.rows-test.false) c.rows.invariant.found
