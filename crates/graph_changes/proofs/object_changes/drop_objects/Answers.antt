use Rattle.std.proofs.Common.{not, rules}
use Rattle.std.proofs.lemmas.Fn.{filter_same}
use Rattle.graph_changes.specs.Types.{ObjectRecord}
use Rattle.graph_changes.specs.Left.{is_among}
use Rattle.graph_changes.proofs.object_changes.drop_objects.Goals as goal

pub returns-else-moves_few : goal.returns-else-moves_few
returns-else-moves_few c = filter_same _ (λ (object : ObjectRecord). not (is_among c.args.dead.now object.oid)) _ (λ x b q k. search rules) _ _ c.retain.ensures.filtered
