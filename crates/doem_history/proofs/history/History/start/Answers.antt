use Rattle.std.proofs.Common.{◌≡◌, ◌∙◌, ◌<◌, arith}
use Rattle.doem_history.specs.Types.{HISTORY_WEIGHT}
use Rattle.doem_history.specs.Moments.{moment_of, IsInOrder}
use Rattle.doem_history.specs.Plans.{weight_of}
use Rattle.doem_history.proofs.StartLaws.{full_first, not_full_first}
use Rattle.doem_history.proofs.history.History.start.Goals as goal

pub returns-in_default-weigh_all-clause-full : goal.returns-in_default-weigh_all-clause-full
returns-in_default-weigh_all-clause-full c =
    let ordered : IsInOrder (moment_of c.args.names.now c.args.objects.now c.args.edges.now) = record { names = c.in-Ok.ensures.table; objects = c.requires.objects; edges = c.requires.edges } in
    let n_is = c.as_slice.ensures.value ∙ c.in-Ok.ensures.facts in
    let o_is = c.as_slice-objects.ensures in let e_is = c.as_slice-edges.ensures in
    let same : weight_of c.as_slice.result.now c.as_slice-objects.result.now c.as_slice-edges.result.now ≡ weight_of c.args.names.now c.args.objects.now c.args.edges.now = λ i. weight_of (n_is i) (o_is i) (e_is i) in
    let heavy : HISTORY_WEIGHT < weight_of c.args.names.now c.args.objects.now c.args.edges.now = (let none = c.in_default-weigh_all.ensures.none in omega (arith, none, same)) in
    λ _. full_first c.args.names.now c.args.objects.now c.args.edges.now ordered heavy

pub returns-in-Ok-first-clause-ok : goal.returns-in-Ok-first-clause-ok
returns-in-Ok-first-clause-ok c =
    let ordered : IsInOrder (moment_of c.args.names.now c.args.objects.now c.args.edges.now) = record { names = c.in-Ok.ensures.table; objects = c.requires.objects; edges = c.requires.edges } in
    let n_is = c.as_slice.ensures.value ∙ c.in-Ok.ensures.facts in
    let o_is = c.as_slice-objects.ensures in let e_is = c.as_slice-edges.ensures in
    let same : weight_of c.as_slice.result.now c.as_slice-objects.result.now c.as_slice-edges.result.now ≡ weight_of c.args.names.now c.args.objects.now c.args.edges.now = λ i. weight_of (n_is i) (o_is i) (e_is i) in
    let some : c.in-Some.weight ≡ weight_of c.args.names.now c.args.objects.now c.args.edges.now = (let some = c.in-Some.ensures.some in omega (arith, some, same)) in
    not_full_first c.args.names.now c.args.objects.now c.args.edges.now ordered c.in-Some.weight some c.in-Some.ensures.light
