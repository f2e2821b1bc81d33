use Rattle.std.proofs.Common.{◌≡◌, Bool, List, Option, Some, subst}
use Rattle.std.proofs.lemmas.Result.{IfOk-weaker}
use Rattle.answers.specs.Types.{Cell}
use Rattle.answers.specs.inside.Finding.{Finds}
use Rattle.answers.specs.inside.Showing.{ReadsRow}
use Rattle.answers.proofs.NoteLaws.{finds_shown, finds_none, none_read}
use Rattle.answers.proofs.shown_rows.note.Goals as goal

pub returns-in-Some-clause-found : goal.returns-in-Some-clause-found
returns-in-Some-clause-found g c =
    let shown : ReadsRow c.args.row.now c.args.cells.now (Some c.in-Some.shown) =
    subst (λ (row : Option (List Cell)). ReadsRow c.args.row.now c.args.cells.now row) c.in-Some.is c.in_ok-shown.ensures.row in
    IfOk-weaker c.add.result (Finds (λ found. found ≡ c.in-Some.shown) c.args.found.now c.add.new.self)
    (Finds (λ own. ReadsRow c.args.row.now c.args.cells.now (Some own)) c.args.found.now c.add.new.self)
    (λ cut. finds_shown c.args.cells.now c.args.row.now c.in-Some.shown c.args.found.now c.add.new.self cut shown) c.add.ensures

pub returns-in-None-clause-found : goal.returns-in-None-clause-found
returns-in-None-clause-found g c =
    finds_none (λ own. ReadsRow c.args.row.now c.args.cells.now (Some own)) c.args.found.now
    (λ own. none_read c.args.cells.now c.args.row.now own
    (subst (λ (row : Option (List Cell)). ReadsRow c.args.row.now c.args.cells.now row) c.in-None.is c.in_ok-shown.ensures.row))
