use Rattle.std.proofs.Common.{◌≡◌, ◌≤◌, List, Option, sym, ap, subst, ◌∙◌, arith}
use Rattle.std.specs.Prelude.{Contains, IfSome, IfNone}
use Rattle.lore_base.specs.Databases.{IsLive}
use Rattle.doem_history.specs.Moments.{Moment}
use Rattle.doem_history.specs.Histories.{moment_at}
use Rattle.statements.specs.Types.{Oid, Value}
use Rattle.lore_db.specs.States.{objects_at}
use Rattle.lore_db.proofs.MomentLaws.{objects_of_moment}
use Rattle.lore_db.proofs.db.Db.past_value.Goals as goal

pub returns-clause-found : goal.returns-clause-found
returns-clause-found c =
    let h = c.in_ok-history.history.now in
    let past = c.if-moment-last.false in
    let last = c.last.ensures.last in
    let within : c.args.moment ≤ h.last = omega (arith, past, last) in
    let told : objects_at c.args.self.now.state.history c.args.moment ≡ (moment_at h c.args.moment).objects =
    ap (λ (o : Option (List Moment)). objects_at o c.args.moment) c.in_ok-history.ensures.some ∙ objects_of_moment h c.args.moment within in
    subst (λ (objects : List (Oid × Value)). IfSome c.value_at.result (λ value. Contains objects (c.args.oid, value.now))) (sym told) c.value_at.ensures.found

pub returns-clause-none : goal.returns-clause-none
returns-clause-none c =
    let h = c.in_ok-history.history.now in
    let past = c.if-moment-last.false in
    let last = c.last.ensures.last in
    let within : c.args.moment ≤ h.last = omega (arith, past, last) in
    let told : objects_at c.args.self.now.state.history c.args.moment ≡ (moment_at h c.args.moment).objects =
    ap (λ (o : Option (List Moment)). objects_at o c.args.moment) c.in_ok-history.ensures.some ∙ objects_of_moment h c.args.moment within in
    subst (λ (objects : List (Oid × Value)). IfNone c.value_at.result (IsLive objects c.args.oid → ⊥)) (sym told) c.value_at.ensures.none

pub returns-clause-only : goal.returns-clause-only
returns-clause-only c = λ value at.
    let h = c.in_ok-history.history.now in
    let past = c.if-moment-last.false in
    let last = c.last.ensures.last in
    let within : c.args.moment ≤ h.last = omega (arith, past, last) in
    let told : objects_at c.args.self.now.state.history c.args.moment ≡ (moment_at h c.args.moment).objects =
    ap (λ (o : Option (List Moment)). objects_at o c.args.moment) c.in_ok-history.ensures.some ∙ objects_of_moment h c.args.moment within in
    c.value_at.ensures.only value (subst (λ (objects : List (Oid × Value)). Contains objects (c.args.oid, value)) told at)
