use Rattle.std.proofs.Common.{List, map, All, sym, subst}
use Rattle.std.proofs.lemmas.List.{drop_all}
use Rattle.std.proofs.lemmas.List.Elements.{All-nil}
use Rattle.lorel_bound.specs.Conditions.{CondOf, paths_of_all}
use Rattle.lorel_eval.specs.declared.ready_conds.ReadyCond.{ReadyCond}
use Rattle.lorel_eval.specs.inside.Labelled.{LabelledPath, in_order}
use Rattle.lorel_eval.specs.inside.Ready.{ready_tree}
use Rattle.lorel_eval.specs.inside.Early.{StartsKnown}
use Rattle.lorel_eval.proofs.KnownLaws.{exists_known, for_all_known, compare_known, same_known, members_known}
use Rattle.lorel_eval.proofs.known_starts.+known.Goals as goal

pub reads_known-returns-in-Exists : goal.reads_known-returns-in-Exists
reads_known-returns-in-Exists t c = λ yes.
    let told = c.both_read_known.ensures yes in
    exists_known c.args.known.now c.args.cond.now c.deref-in-Exists.result.now c.in-Exists.path c.in-Exists.body c.in-Exists.is c.deref-in-Exists.ensures told.0 told.1

pub reads_known-returns-in-ForAll : goal.reads_known-returns-in-ForAll
reads_known-returns-in-ForAll t c = λ yes.
    let told = c.both_read_known-in-ForAll.ensures yes in
    for_all_known c.args.known.now c.args.cond.now c.deref-in-ForAll.result.now c.in-ForAll.path c.in-ForAll.body c.in-ForAll.is c.deref-in-ForAll.ensures told.0 told.1

pub reads_known-returns-in-Compare : goal.reads_known-returns-in-Compare
reads_known-returns-in-Compare t c = λ yes.
    let told = c.operands_are_known.ensures yes in
    compare_known c.args.known.now c.args.cond.now c.in-Compare.left _ c.in-Compare.right c.in-Compare.is told.0 told.1

pub reads_known-returns-in-Same : goal.reads_known-returns-in-Same
reads_known-returns-in-Same t c = λ yes.
    let told = c.paths_are_known.ensures yes in
    same_known c.args.known.now c.args.cond.now c.in-Same.left c.in-Same.right c.in-Same.is told.0 told.1

pub both_read_known-returns : goal.both_read_known-returns
both_read_known-returns t c = λ yes. (c.is_known.ensures c.if-not-is_known.false, c.reads_known.ensures yes)

pub all_read_known-members-init : goal.all_read_known-members-init
all_read_known-members-init t c =
    subst (λ (trees : List (CondOf LabelledPath)). All (StartsKnown c.args.known.now) (paths_of_all (in_order (map ready_tree c.as_slice-member-items.result.now)))
    → All (StartsKnown c.args.known.now) (paths_of_all (in_order trees))) c.as_slice-member-items.ensures.trees (λ told. told)

pub all_read_known-members-preserved : goal.all_read_known-members-preserved
all_read_known-members-preserved t c = λ rest. c.members.invariant
    (members_known c.args.known.now c.as_slice-member-items.result.now c.members.member-index c.member-item.result c.members-test.true c.member-item.is
    (c.reads_known.ensures c.if-not-reads_known.false) rest)

pub all_read_known-returns : goal.all_read_known-returns
all_read_known-returns t c = λ yes. c.members.invariant
    (subst (λ (l : List ReadyCond). All (StartsKnown c.args.known.now) (paths_of_all (in_order (map ready_tree l))))
    (sym (drop_all c.members.member-index c.as_slice-member-items.result.now c.members-test.false)) (All-nil (StartsKnown c.args.known.now)))
