use Rattle.std.proofs.Common.{◌≡◌, ◌≢◌, Some, IfSome, IfNone, subst}
use Rattle.std.specs.List.{slice_get}
use Rattle.oem_text.specs.Types.{Label}
use Rattle.oem_text.specs.Layouts.{NumberedTexts}
use Rattle.oem_text.proofs.NumberLaws.{found_known, none_known, none_come}
use Rattle.oem_text.proofs.label_numbers.LabelNumbers.find_at.Goals as goal

pub returns-in_default-clause-none : goal.returns-in_default-clause-none
returns-in_default-clause-none c =
    let numbers = c.args.self.now in
    none_come c.come_at.result numbers.known numbers.come c.args.text.now
    (subst (λ (n : NumberedTexts). (label : Label) → slice_get n.known label.0 ≢ Some c.args.text.now) c.self.view_is c.in_default.ensures.none)
    c.come_at.ensures.none

pub returns-in_default-come_at-clause-found : goal.returns-in_default-come_at-clause-found
returns-in_default-come_at-clause-found c =
    let numbers = c.args.self.now in
    found_known c.find.result numbers.known numbers.come c.args.text.now
    (subst (λ (n : NumberedTexts). IfSome c.find.result (λ (label : Label). slice_get n.known label.0 ≡ Some c.args.text.now)) c.self.view_is
    c.find.ensures.found)

pub returns-in_default-come_at-clause-none : goal.returns-in_default-come_at-clause-none
returns-in_default-come_at-clause-none c =
    let numbers = c.args.self.now in
    none_known c.find.result numbers.known numbers.come c.args.text.now
    (subst (λ (n : NumberedTexts). IfNone c.find.result ((label : Label) → slice_get n.known label.0 ≢ Some c.args.text.now)) c.self.view_is
    c.find.ensures.none)
    c.in_default-come_at.ensures.none
