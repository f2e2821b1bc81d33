use Rattle.std.proofs.Common.{[], get_or, take, List, sym, subst}
use Rattle.std.proofs.lemmas.List.{take_all, take_more}
use Rattle.one_index.specs.Types.{Edge}
use Rattle.one_index.specs.inside.Rows.{IsRowOf}
use Rattle.one_index.proofs.RowLaws.{IsRowOf-none, IsRowOf-put}
use Rattle.one_index.proofs.rows.row_of.Goals as goal

pub edges-init : goal.edges-init
edges-init c = subst (λ l. IsRowOf c.args.objects.now [] l) (sym c.in_ok-row.ensures) (IsRowOf-none c.args.objects.now)

pub edges-preserved : goal.edges-preserved
edges-preserved c =
    let first : Edge = record { parent = record { 0 = 0 }; label = record { 0 = 0 }; child = record { 0 = 0 } } in
    let edges = c.args.edges.now in
    let edge = get_or edges c.edges.edge-index first in
    subst (λ (l : List Edge). IsRowOf c.args.objects.now l c.push_parent.new.row)
    (sym (take_more edges c.edges.edge-index first c.edges-test.true))
    (IsRowOf-put c.args.objects.now c.requires (take c.edges.edge-index edges) edge c.edges.row c.push_parent.new.row
    c.in_ok-push_parent.ensures c.edges.invariant)

pub returns : goal.returns
returns c =
    subst (λ (l : List Edge). IsRowOf c.args.objects.now l c.edges.row)
    (take_all c.edges.edge-index c.args.edges.now c.edges-test.false) c.edges.invariant
