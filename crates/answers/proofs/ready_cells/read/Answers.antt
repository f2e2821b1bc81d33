use Rattle.std.proofs.Common.{Some, None, subst}
use Rattle.answers.specs.inside.Showing.{IsReadyObject, IsReadyWithin}
use Rattle.answers.proofs.ReadLaws.{reads_object, reads_word, same_put}
use Rattle.answers.proofs.ready_cells.read.Goals as goal

pub object-requires : goal.object-requires
object-requires g c = subst (IsReadyWithin {A = g.row.A.Denot}) c.in-Object.is c.requires

pub returns-in-Object-clause-cell : goal.returns-in-Object-clause-cell
returns-in-Object-clause-cell g c = reads_object c.args.row.now c.args.cell.now c.in-Object.start c.object.result c.in-Object.is c.object.ensures

pub returns-in-Some-clause-same : goal.returns-in-Some-clause-same
returns-in-Some-clause-same g c = same_put c.args.cell.now c.in-Word.words c.word.new.self c.in-Word.is c.word.ensures.same

pub returns-in-Some-clause-cell : goal.returns-in-Some-clause-cell
returns-in-Some-clause-cell g c =
    reads_word c.args.row.now c.args.cell.now c.in-Word.words c.in_ok-word-in-Word.field-0 (Some c.in-Some.word) c.in-Word.is c.in-Some.is c.in_ok-word-in-Word.ensures.word

pub returns-in-Some-clause-quiet : goal.returns-in-Some-clause-quiet
returns-in-Some-clause-quiet g c object = absurd (subst (IsReadyObject {A = g.row.A.Denot}) c.in-Word.is object)

pub returns-in-None-clause-same : goal.returns-in-None-clause-same
returns-in-None-clause-same g c = same_put c.args.cell.now c.in-Word.words c.word.new.self c.in-Word.is c.word.ensures.same

pub returns-in-None-clause-cell : goal.returns-in-None-clause-cell
returns-in-None-clause-cell g c =
    reads_word c.args.row.now c.args.cell.now c.in-Word.words c.in_ok-word-in-Word.field-0 None c.in-Word.is c.in-None.is c.in_ok-word-in-Word.ensures.word

pub returns-in-None-clause-quiet : goal.returns-in-None-clause-quiet
returns-in-None-clause-quiet g c object = absurd (subst (IsReadyObject {A = g.row.A.Denot}) c.in-Word.is object)

pub returns-in_err-word-in-Word-clause-same : goal.returns-in_err-word-in-Word-clause-same
returns-in_err-word-in-Word-clause-same g c = same_put c.args.cell.now c.in-Word.words c.word.new.self c.in-Word.is c.word.ensures.same
