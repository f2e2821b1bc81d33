use Rattle.std.proofs.Common.{◌≡◌, List, refl, sym, subst}
use Rattle.lore_base.specs.Walks.{out_of}
use Rattle.edge_layers.specs.Types.{Edge}
use Rattle.edge_layers.proofs.LayerLaws.{none_there}
use Rattle.edge_layers.proofs.run_starts.RunStarts.run_in.Goals as goal

pub returns-then-is_empty : goal.returns-then-is_empty
returns-then-is_empty c =
    let none = none_there c.args.edges.now c.is_empty.result c.is_empty.ensures c.if-is_empty.true in
    subst (λ (l : List Edge). l ≡ out_of c.args.oid l) (sym none) refl
