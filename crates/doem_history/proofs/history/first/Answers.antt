use Rattle.std.proofs.Common.{◌∙◌, ◌<◌, ◌^◌, ap, sym, subst, length, List}
use Rattle.doem_history.specs.inside.Kept.{begun}
use Rattle.doem_history.proofs.StartLaws.{few_names_first, few_objects_first, few_edges_first, moments_first, history_first}
use Rattle.doem_history.proofs.history.first.Goals as goal

pub first-requires : goal.first-requires
first-requires c = few_names_first c.args.names.items c.args.objects.now c.args.edges.now c.args.weight c.requires.weight c.requires.light

pub first-requires-2 : goal.first-requires-2
first-requires-2 c =
    subst (λ (l : List _). length l < 2 ^ 31) (sym c.in_ok-come.ensures)
    (few_objects_first c.args.names.items c.args.objects.now c.args.edges.now c.args.weight c.requires.weight c.requires.light)

pub first-requires-3 : goal.first-requires-3
first-requires-3 c =
    subst (λ (l : List _). length l < 2 ^ 31) (sym c.in_ok-come-2.ensures)
    (few_edges_first c.args.names.items c.args.objects.now c.args.edges.now c.args.weight c.requires.weight c.requires.light)

pub invariant_of-result : goal.invariant_of-result
invariant_of-result c =
    history_first c.args.names.items c.args.objects.now c.args.edges.now c.requires.ordered c.in_ok-names.names c.in_ok-objects.objects c.in_ok-edges.edges
    (record { runs = c.in_ok-names.ensures.runs; moments = c.in_ok-names.ensures.moments })
    (record { runs = c.in_ok-objects.ensures.runs ∙ ap (λ (l : List _). begun 0 l) c.in_ok-come.ensures; moments = c.in_ok-objects.ensures.moments })
    (record { runs = c.in_ok-edges.ensures.runs ∙ ap (λ (l : List _). begun 0 l) c.in_ok-come-2.ensures; moments = c.in_ok-edges.ensures.moments })
    c.args.weight c.requires.weight c.requires.light

pub returns : goal.returns
returns c =
    moments_first c.args.names.items c.args.objects.now c.args.edges.now c.requires.ordered c.in_ok-names.names c.in_ok-objects.objects c.in_ok-edges.edges
    (record { runs = c.in_ok-names.ensures.runs; moments = c.in_ok-names.ensures.moments })
    (record { runs = c.in_ok-objects.ensures.runs ∙ ap (λ (l : List _). begun 0 l) c.in_ok-come.ensures; moments = c.in_ok-objects.ensures.moments })
    (record { runs = c.in_ok-edges.ensures.runs ∙ ap (λ (l : List _). begun 0 l) c.in_ok-come-2.ensures; moments = c.in_ok-edges.ensures.moments })
    c.args.weight c.requires.weight
