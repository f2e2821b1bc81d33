use Rattle.std.proofs.Common.{◌≡◌, ◌∙◌, ◌<◌, ◌+◌, inl, inr, true≢false, ap, sym, subst, arith}
use Rattle.std.proofs.lemmas.Bool.{cases_lt}
use Rattle.doem_history.specs.Types.{MOMENTS, HISTORY_WEIGHT}
use Rattle.doem_history.specs.Histories.{KeptHistory}
use Rattle.doem_history.specs.Plans.{weight_of, weight_of_come}
use Rattle.doem_history.specs.inside.Kept.{IsHistory}
use Rattle.doem_history.proofs.PlanLaws.{full_by_number, full_by_weight, not_full_then}
use Rattle.doem_history.proofs.history.History.prepare.Goals as goal

pub returns-then-is_at_end-clause-full : goal.returns-then-is_at_end-clause-full
returns-then-is_at_end-clause-full c =
    λ _ after leads. full_by_number c.args.self.now after (c.is_at_end.ensures.0 c.if-is_at_end.true)

pub returns-in_default-weigh_all-clause-full : goal.returns-in_default-weigh_all-clause-full
returns-in_default-weigh_all-clause-full c =
    let is = subst (λ (x : KeptHistory). IsHistory x) c.self.view_is c.self.invariant in
    let n_is = c.as_slice.ensures.value ∙ c.in-Ok.ensures.facts in
    let o_is = c.as_slice-objects.ensures in let e_is = c.as_slice-edges.ensures in
    let same : weight_of c.as_slice.result.now c.as_slice-objects.result.now c.as_slice-edges.result.now ≡ weight_of_come c.args.delta.now = λ i. weight_of (n_is i) (o_is i) (e_is i) in
    let weight_is = ap (λ (x : KeptHistory). x.weight) c.self.view_is in
    let heavy : HISTORY_WEIGHT < c.args.self.now.weight + weight_of_come c.args.delta.now = (let none = c.in_default-weigh_all.ensures.none in omega (arith, none, same, weight_is)) in
    λ _. full_by_weight c.args.self.now is c.args.delta.now heavy

pub returns-in-Ok-plan-clause-ok : goal.returns-in-Ok-plan-clause-ok
returns-in-Ok-plan-clause-ok c =
    let is = subst (λ (x : KeptHistory). IsHistory x) c.self.view_is c.self.invariant in
    let n_is = c.as_slice.ensures.value ∙ c.in-Ok.ensures.facts in
    let o_is = c.as_slice-objects.ensures in let e_is = c.as_slice-edges.ensures in
    let same : weight_of c.as_slice.result.now c.as_slice-objects.result.now c.as_slice-edges.result.now ≡ weight_of_come c.args.delta.now = λ i. weight_of (n_is i) (o_is i) (e_is i) in
    let weight_is = ap (λ (x : KeptHistory). x.weight) c.self.view_is in
    let early : c.args.self.now.last < MOMENTS = elim (cases_lt c.args.self.now.last MOMENTS) [
      | inl early ↦ early
      | inr late ↦ absurd (true≢false (sym (c.is_at_end.ensures.1 late) ∙ c.if-is_at_end.false))
    ] in
    let some : c.in-Some.weight ≡ c.args.self.now.weight + weight_of_come c.args.delta.now = (let some = c.in-Some.ensures.some in omega (arith, some, same, weight_is)) in
    not_full_then c.args.self.now is c.args.delta.now c.in-Some.weight early some c.in-Some.ensures.light
