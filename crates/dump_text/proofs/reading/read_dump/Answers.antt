use Rattle.std.proofs.Common.{List, true≢false, refl, sym, subst, ◌∙◌}
use Rattle.dump_text.specs.Types.{Edge}
use Rattle.dump_text.specs.inside.RuleParts.{AreChanges}
use Rattle.dump_text.proofs.RuleLaws.{head_kept, keeps_head, keeps_lists, keeps_edges, keeps_all, keeps_restored, broken_bad}
use Rattle.dump_text.proofs.reading.read_dump.Goals as goal

pub returns-in_default-clause-bad : goal.returns-in_default-clause-bad
returns-in_default-clause-bad c =
    λ _. broken_bad c.args.tree.now (λ keeps. c.in_default.ensures.none (keeps_head c.args.tree.now keeps))

pub returns-then-not-are_kept-clause-bad : goal.returns-then-not-are_kept-clause-bad
returns-then-not-are_kept-clause-bad c =
    λ _. broken_bad c.args.tree.now
    (λ keeps. true≢false (sym (c.are_kept.ensures.1 (keeps_lists c.args.tree.now keeps)) ∙ c.if-not-are_kept.true))

pub returns-in_default-2-clause-bad : goal.returns-in_default-2-clause-bad
returns-in_default-2-clause-bad c =
    λ _. broken_bad c.args.tree.now
    (λ keeps. (rw c.in_default-2.is at c.in_ok-added.ensures.none) (keeps_edges c.args.tree.now keeps))

pub returns-clause-restored : goal.returns-clause-restored
returns-clause-restored c =
    let tree = c.args.tree.now in
    let head = c.in-Some.ensures.some in
    let edges = rw c.in-Some-2.is at c.in_ok-added.ensures.edges in
    let keeps = keeps_all tree (head_kept tree c.in-Some.next c.in-Some.nodes head) (c.are_kept.ensures.0 c.if-not-are_kept.false)
    (rw c.in-Some-2.is at c.in_ok-added.ensures.some) in
    keeps_restored tree (record { changes = c.in_ok-changes.changes; next = c.in-Some.next; nodes = c.in-Some.nodes; mode = tree.mode })
    head refl (subst (λ (l : List Edge). AreChanges tree l c.in_ok-changes.changes) edges c.in_ok-changes.ensures) keeps
