use Rattle.std.proofs.Common.{List, IfOk, IfSome, subst}
use Rattle.lore_base.specs.Paths.{path_tree}
use Rattle.index_eval.specs.Types.{Oid}
use Rattle.index_eval.specs.inside.Ends.{TakesEndsOf}
use Rattle.index_eval.proofs.EndLaws.{path_found}
use Rattle.index_eval.proofs.ends.ends_of_path.Goals as goal

pub returns : goal.returns
returns g c =
    let readers = c.args.readers.now in
    let objects = g.G.ValueOf.objects readers.graph.now in
    let entries = g.V.Values.entries readers.values.now in
    path_found readers.labels.now (g.G.Adjacent.edges readers.graph.now) objects entries c.args.row.now c.args.comparison.now c.args.start (path_tree c.args.route.now)
    c.in-Some.from c.new-found.result c.reach.new.buf c.ends_of_each.result c.in-Some.ensures c.new-found.ensures c.in_ok-reach.ensures.objects
    (subst (λ (l : List Oid). IfOk c.ends_of_each.result (λ ends. IfSome ends (TakesEndsOf objects entries c.args.comparison.now l))) c.as_slice.ensures c.ends_of_each.ensures)
