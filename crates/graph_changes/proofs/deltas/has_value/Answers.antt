use Rattle.std.proofs.Common.{Contains, map, sym, subst}
use Rattle.std.proofs.lemmas.Bool.{true≢false}
use Rattle.edge_lists.specs.Objects.{object_of}
use Rattle.graph_changes.specs.Types.{Value}
use Rattle.index_traits.proofs.ObjectLaws.{one_value_of}
use Rattle.graph_changes.proofs.PairLaws.{pairs-ascend}
use Rattle.graph_changes.proofs.deltas.has_value.Goals as goal

pub returns-in-Some : goal.returns-in-Some
returns-in-Some c =
    let objects = map object_of c.args.objects.now in
    let object = c.args.object.now in (
      λ yes. subst (λ (v : Value). Contains objects (object.0, v)) (c.is_same.ensures.0 yes) c.in-Some.ensures.found,
      λ at. c.is_same.ensures.1 (one_value_of objects (pairs-ascend c.args.objects.now c.requires) object.0 _ object.1 c.in-Some.ensures.found at),
    )

pub returns-in-None : goal.returns-in-None
returns-in-None c = (λ yes. absurd (true≢false (sym yes)), λ at. absurd (c.in-None.ensures.none (c.args.object.now.1, at)))
