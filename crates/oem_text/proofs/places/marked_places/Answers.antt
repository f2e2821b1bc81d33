use Rattle.std.proofs.Common.{ℕ, ◌<◌, List, [], length, take, sym, subst, arith}
use Rattle.oem_text.specs.Literals.{Body}
use Rattle.oem_text.specs.inside.Views.{bodies_of}
use Rattle.oem_text.specs.inside.Places.{AreMarks}
use Rattle.oem_text.proofs.LinkLaws.{literals_more, literals_taken, literals_all}
use Rattle.oem_text.proofs.MarkLaws.{marks_none, places_of_marks, double_of_marks}
use Rattle.oem_text.proofs.places.marked_places.Goals as goal

pub literals-init : goal.literals-init
literals-init c = subst (λ (l : List (ℕ × ℕ)). AreMarks [] l) (sym c.new-marks.ensures) marks_none

pub literals-preserved : goal.literals-preserved
literals-preserved c =
    let literals = c.args.literals.now in
    let i = c.literals.place in
    let low : i < length literals = omega arith in
    subst (λ (l : List Body). AreMarks l c.add_mark.new.marks) (sym (literals_more literals i c.index-literals-place.result low c.index-literals-place.is))
    (c.in_ok-add_mark.ensures (take i (bodies_of literals)) c.literals.invariant (literals_taken literals i low))

pub returns-in_default-clause-none : goal.returns-in_default-clause-none
returns-in_default-clause-none c =
    let literals = c.args.literals.now in
    let all = subst (λ (l : List Body). AreMarks l c.literals.marks) (literals_all literals c.literals.place (omega arith)) c.literals.invariant in
    double_of_marks (bodies_of literals) c.literals.marks all c.in_default.ensures.none

pub returns-clause-some : goal.returns-clause-some
returns-clause-some c =
    let literals = c.args.literals.now in
    let all = subst (λ (l : List Body). AreMarks l c.literals.marks) (literals_all literals c.literals.place (omega arith)) c.literals.invariant in
    places_of_marks (bodies_of literals) c.literals.marks c.in-Some.places all c.in-Some.ensures.some c.in-Some.ensures.ascend
