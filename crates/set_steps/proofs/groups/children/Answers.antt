use Rattle.std.proofs.Common.{◌≡◌, ◌<◌, List, map, AllPairs, sym, ap, ◌∙◌, subst}
use Rattle.std.proofs.lemmas.List.{take_all}
use Rattle.set_steps.specs.Types.{Oid, Label}
use Rattle.set_steps.proofs.PairLaws.{AllPairs-map}
use Rattle.set_steps.proofs.groups.children.Goals as goal

pub from_ascending-requires : goal.from_ascending-requires
from_ascending-requires c =
    let arcs = c.args.arcs.now in
    let are : c.arcs.oids ≡ map (λ (arc : Label × Oid). arc.1) arcs =
    c.arcs.invariant ∙ ap (map (λ (arc : Label × Oid). arc.1)) (take_all c.arcs.arc-index arcs c.arcs-test.false) in
    subst (λ (l : List Oid). AllPairs (λ a b. a.0 < b.0) l) (sym are)
    (AllPairs-map (λ (arc : Label × Oid). arc.1) (λ (a b : Label × Oid). a.1.0 < b.1.0) (λ (a b : Oid). a.0 < b.0)
    (λ a b less. less) arcs c.requires)
