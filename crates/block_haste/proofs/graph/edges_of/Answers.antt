use Rattle.std.proofs.Common.{◌≡◌, ℕ, [], length, ◌∙◌, subst, arith}
use Rattle.std.specs.Prelude.{slice_index_or}
use Rattle.std.proofs.lemmas.List.{get_or_default}
use Rattle.block_haste.specs.inside.Listed.{AreRowsBelow}
use Rattle.block_haste.proofs.ListedLaws.{rows-more}
use Rattle.block_haste.proofs.graph.edges_of.Goals as goal

pub rows-preserved : goal.rows-preserved
rows-preserved c =
    let rows = c.args.rows.now in
    let node = c.rows.node in
    let row : c.as_slice.result.now ≡ slice_index_or rows node [] =
    c.as_slice.ensures ∙ c.index-rows-node.is ∙ get_or_default rows node c.index-rows-node.result [] c.rows-test.true in
    rows-more rows node c.as_slice.result.now c.rows.edges.items c.push_row.new.edges.items row c.in_ok-push_row.ensures c.rows.invariant

pub returns : goal.returns
returns c =
    subst (λ (n : ℕ). AreRowsBelow n c.args.rows.now c.rows.edges.items) (omega (arith, c.rows-test.false, c.rows.auto.node-end))
    c.rows.invariant
