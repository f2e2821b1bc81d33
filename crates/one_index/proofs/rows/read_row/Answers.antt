use Rattle.std.proofs.Common.{◌++◌, ◌≤◌, List, length, sym, ap, ◌∙◌, subst, arith}
use Rattle.std.specs.Prelude.{None}
use Rattle.lore_base.specs.Walks.{ListsEntering}
use Rattle.one_index.specs.Types.{Edge}
use Rattle.read_costs.specs.ReadCosts.{in_of}
use Rattle.one_index.specs.inside.Rows.{IsRowOf}
use Rattle.one_index.proofs.RowLaws.{IsRow-entering, few_entering}
use Rattle.one_index.proofs.rows.read_row.Goals as goal

pub returns-clause-row : goal.returns-clause-row
returns-clause-row g c =
    let links : List Edge = g.K.Links.edges c.args.links.now in
    let entering = c.in_ok-parents.ensures.edges in
    let listed : ListsEntering links c.args.oid None c.parents.new.buf =
    subst (λ (l : List Edge). ListsEntering links c.args.oid None l)
    (sym (entering.1 ∙ ap (λ (l : List Edge). l ++ entering.0) c.new-edges.ensures)) entering.2 in
    IsRow-entering c.args.objects.now links c.args.oid c.parents.new.buf c.in_ok-row.row listed
    (subst (λ (l : List Edge). IsRowOf c.args.objects.now l c.in_ok-row.row) c.as_slice.ensures c.in_ok-row.ensures)

pub returns-clause-steps : goal.returns-clause-steps
returns-clause-steps g c edges same =
    let links : List Edge = g.K.Links.edges c.args.links.now in
    let entering = c.in_ok-parents.ensures.edges in
    let listed : ListsEntering links c.args.oid None c.parents.new.buf =
    subst (λ (l : List Edge). ListsEntering links c.args.oid None l)
    (sym (entering.1 ∙ ap (λ (l : List Edge). l ++ entering.0) c.new-edges.ensures)) entering.2 in
    let few : length c.parents.new.buf ≤ length (in_of c.args.oid edges) =
    few_entering links edges same c.args.oid c.parents.new.buf listed in
    omega (arith, c.in_ok-parents.ensures.steps, few)
