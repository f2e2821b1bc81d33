use Rattle.std.proofs.Common.{ap}
use Rattle.lore_base.specs.Paths.{path_tree}
use Rattle.lorel_bound.specs.Conditions.{at}
use Rattle.member_clues.specs.Asked.{given_operand}
use Rattle.index_eval.proofs.EndLaws.{atom_found, given_found}
use Rattle.index_eval.proofs.ends.ends_compared.Goals as goal

pub returns-in-Atom : goal.returns-in-Atom
returns-in-Atom g c =
    let readers = c.args.readers.now in
    atom_found readers.labels.now (g.G.Adjacent.edges readers.graph.now) (g.G.ValueOf.objects readers.graph.now) (g.V.Values.entries readers.values.now)
    c.args.row.now c.args.comparison.now c.in-Atom.value.now c.ends_of_value.result (ap given_operand c.in-Atom.is) c.ends_of_value.ensures

pub returns-in-At : goal.returns-in-At
returns-in-At g c =
    let readers = c.args.readers.now in
    given_found readers.labels.now (g.G.Adjacent.edges readers.graph.now) (g.G.ValueOf.objects readers.graph.now) (g.V.Values.entries readers.values.now)
    c.args.row.now c.args.comparison.now (at (record { start = c.in-At.start; rest = path_tree c.in-At.route })) c.ends_of_path.result (ap given_operand c.in-At.is)
    c.ends_of_path.ensures
