use Rattle.std.proofs.Common.{◌≡◌, List, [], Contains, ◌∙◌, subst, arith}
use Rattle.std.proofs.lemmas.List.{nil_from_length}
use Rattle.lore_base.proofs.MemberLaws.{Contains-none}
use Rattle.set_explorer.specs.Types.{Oid}
use Rattle.set_explorer.proofs.GainLaws.{row-once}
use Rattle.set_explorer.proofs.losses.some_step.Goals as goal

pub returns-in_default-clause-none : goal.returns-in_default-clause-none
returns-in_default-clause-none c = λ oid leads. c.in_default.ensures.none leads.0 leads.1

pub returns-then-len-eq0-clause-none : goal.returns-then-len-eq0-clause-none
returns-then-len-eq0-clause-none c = λ oid leads.
    let step = c.in-Some.step.now in
    let empty : step ≡ [] = nil_from_length step (omega (arith, c.len.ensures, c.if-len-eq0.true)) in
    let same = row-once c.args.row.now c.args.label leads.0 step c.requires leads.1 c.in-Some.ensures.found in
    Contains-none oid (subst (λ (l : List Oid). Contains l oid) (same ∙ empty) leads.2)
