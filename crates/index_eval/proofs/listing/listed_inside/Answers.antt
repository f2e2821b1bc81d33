use Rattle.std.proofs.Common.{◌≡◌, ◌∙◌, ap}
use Rattle.lorel_bound.specs.declared.conditions.BoundOperand.{BoundOperand}
use Rattle.lorel_bound.specs.Bound.{bound_path, bound_operand}
use Rattle.lorel_bound.specs.Conditions.{compare, exists, at, constant}
use Rattle.index_eval.proofs.ListedLaws.{found_of}
use Rattle.index_eval.proofs.listing.listed_inside.Goals as goal

pub returns-in-At-Atom : goal.returns-in-At-Atom
returns-in-At-Atom g c =
    let readers = c.args.readers.now in
    let edges = g.G.Adjacent.edges readers.graph.now in
    let objects = g.G.ValueOf.objects readers.graph.now in
    let path = at (bound_path c.in-At-Atom.inner) in
    let left : exists (bound_path c.args.path.now) (compare (bound_operand c.args.left.now) c.args.op (bound_operand c.args.right.now)) ≡ exists (bound_path c.args.path.now) (compare path c.args.op (bound_operand c.args.right.now)) =
    ap (λ (o : BoundOperand). exists (bound_path c.args.path.now) (compare (bound_operand o) c.args.op (bound_operand c.args.right.now))) c.in-At-Atom.is-0 in
    let right : exists (bound_path c.args.path.now) (compare path c.args.op (bound_operand c.args.right.now)) ≡ exists (bound_path c.args.path.now) (compare path c.args.op (constant c.in-At-Atom.value)) =
    ap (λ (o : BoundOperand). exists (bound_path c.args.path.now) (compare path c.args.op (bound_operand o))) c.in-At-Atom.is-1 in
    found_of readers.labels.now edges objects _ _ c.listed_sought_through.result (left ∙ right) c.listed_sought_through.ensures
