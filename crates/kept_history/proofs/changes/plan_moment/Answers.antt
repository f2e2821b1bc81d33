use Rattle.std.proofs.Common.{Option, Some, sym, subst}
use Rattle.lore_base.specs.Deltas.{IsDelta}
use Rattle.lore_store.specs.Stores.{database_then}
use Rattle.doem_history.specs.Types.{Delta}
use Rattle.doem_history.specs.Histories.{KeptHistory}
use Rattle.kept_history.specs.Kept.{present, IsLast, AppendsTo, IsFullWith}
use Rattle.kept_history.proofs.MomentLaws.{leads_on}
use Rattle.kept_history.proofs.changes.plan_moment.Goals as goal

pub prepare-requires : goal.prepare-requires
prepare-requires c =
    let before = c.args.store.now.db in
    let then = database_then before c.args.prepared.now in
    let last = subst (λ (o : Option KeptHistory). IsLast o (present before)) c.in-Some.is c.requires.last in
    let differ = subst (λ (d : Delta). IsDelta before.graph then.graph d) (sym c.delta.ensures) c.requires.delta in
    (present then, leads_on c.in-Some.history before then.graph c.delta.result.now last differ c.requires.leads.valid.restorable.rooted.well_formed.ordered)

pub returns-in-Ok-clause-appends : goal.returns-in-Ok-clause-appends
returns-in-Ok-clause-appends c =
    let before = c.args.store.now.db in
    let then = database_then before c.args.prepared.now in
    let last = subst (λ (o : Option KeptHistory). IsLast o (present before)) c.in-Some.is c.requires.last in
    let differ = subst (λ (d : Delta). IsDelta before.graph then.graph d) (sym c.delta.ensures) c.requires.delta in
    let leads = leads_on c.in-Some.history before then.graph c.delta.result.now last differ c.requires.leads.valid.restorable.rooted.well_formed.ordered in
    subst (λ (o : Option KeptHistory). AppendsTo o (Some c.in-Ok.plan) (present then)) (sym c.in-Some.is) (c.in-Ok.ensures.appends (present then) leads)

pub returns-in-Ok-clause-light : goal.returns-in-Ok-clause-light
returns-in-Ok-clause-light c =
    let before = c.args.store.now.db in
    let then = database_then before c.args.prepared.now in
    let last = subst (λ (o : Option KeptHistory). IsLast o (present before)) c.in-Some.is c.requires.last in
    let differ = subst (λ (d : Delta). IsDelta before.graph then.graph d) (sym c.delta.ensures) c.requires.delta in
    let leads = leads_on c.in-Some.history before then.graph c.delta.result.now last differ c.requires.leads.valid.restorable.rooted.well_formed.ordered in
    subst (λ (o : Option KeptHistory). IsFullWith o (present then) → ⊥) (sym c.in-Some.is) (c.in-Ok.ensures.ok (present then) leads)

pub returns-in-Err-clause-full : goal.returns-in-Err-clause-full
returns-in-Err-clause-full c is =
    let before = c.args.store.now.db in
    let then = database_then before c.args.prepared.now in
    let last = subst (λ (o : Option KeptHistory). IsLast o (present before)) c.in-Some.is c.requires.last in
    let differ = subst (λ (d : Delta). IsDelta before.graph then.graph d) (sym c.delta.ensures) c.requires.delta in
    let leads = leads_on c.in-Some.history before then.graph c.delta.result.now last differ c.requires.leads.valid.restorable.rooted.well_formed.ordered in
    subst (λ (o : Option KeptHistory). IsFullWith o (present then)) (sym c.in-Some.is) (c.in-Err.ensures.full is (present then) leads)
