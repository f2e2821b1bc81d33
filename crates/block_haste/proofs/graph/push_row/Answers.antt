use Rattle.std.proofs.Common.{ℕ, List, get_or, take, sym, subst}
use Rattle.std.proofs.lemmas.List.{take_more, take_all}
use Rattle.block_haste.specs.inside.Listed.{AreRowListed}
use Rattle.block_haste.proofs.ListedLaws.{row-none, row-more}
use Rattle.block_haste.proofs.graph.push_row.Goals as goal

pub entries-init : goal.entries-init
entries-init c = row-none c.args.node c.args.edges.now.items

pub entries-preserved : goal.entries-preserved
entries-preserved c =
    let row = c.args.row.now in
    let i = c.entries.entry-index in
    let entry = get_or row i (0, 0) in
    subst (λ (l : List (ℕ × ℕ)). AreRowListed c.args.node l c.args.edges.now.items c.push.new.self.items)
    (sym (take_more row i (0, 0) c.entries-test.true))
    (row-more c.args.node (take i row) entry c.args.edges.now.items c.entries.edges.items c.push.new.self.items
    c.in_ok-push.ensures.items c.entries.invariant)

pub returns : goal.returns
returns c =
    subst (λ (l : List (ℕ × ℕ)). AreRowListed c.args.node l c.args.edges.now.items c.entries.edges.items)
    (take_all c.entries.entry-index c.args.row.now c.entries-test.false) c.entries.invariant
