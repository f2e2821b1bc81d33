use Rattle.std.proofs.Common.{◌≡◌, rules}
use Rattle.lorel_trees.proofs.CopyLaws.{copied_same}
use Rattle.lorel_trees.proofs.dump_trees.DumpTreeTryCopy.try_copy.Goals as goal

pub returns : goal.returns
returns c =
    let labels : c.in_ok-labels.labels ≡ c.args.self.now.labels = copied_same c.in_ok-labels.ensures in
    let names : c.in_ok-names.names ≡ c.args.self.now.names = copied_same c.in_ok-names.ensures in
    let objects : c.in_ok-objects.objects ≡ c.args.self.now.objects = copied_same c.in_ok-objects.ensures in
    let edges : c.in_ok-edges.edges ≡ c.args.self.now.edges = copied_same c.in_ok-edges.ensures in
    rw (labels, names, objects, edges) (search rules)
