use Rattle.std.proofs.Common.{List, [], sym, subst}
use Rattle.value_changes.specs.Types.{Edge}
use Rattle.value_changes.specs.inside.Pairs.{AreKept}
use Rattle.value_changes.proofs.PairLaws.{same_edge}
use Rattle.value_changes.proofs.MovingLaws.{kept-none, kept-sorted}
use Rattle.value_changes.proofs.EnteredLaws.{there_back, none_read}
use Rattle.value_changes.proofs.entered.entered_before.Goals as goal

pub returns-then-is_empty : goal.returns-then-is_empty
returns-then-is_empty c =
    let none = none_read c.args.read.now c.is_empty.result c.is_empty.ensures c.if-is_empty.true in
    there_back c.args.read.now c.args.added.now c.args.lost.now [] c.in_ok-only.only
    (subst (λ (l : List Edge). AreKept l c.args.added.now []) (sym none) (kept-none c.args.added.now)) c.in_ok-only.ensures

pub returns : goal.returns
returns c =
    let keeps = kept-sorted c.args.read.now c.args.added.now c.in_ok-new.new c.in_ok-edges.edges (c.in_ok-new.ensures.members same_edge)
    (rw c.as_slice.ensures at c.in_ok-edges.ensures) in
    there_back c.args.read.now c.args.added.now c.args.lost.now c.in_ok-edges.edges c.append.new.self keeps c.in_ok-append.ensures.ok
