use Rattle.std.proofs.Common.{ℕ, List, get_or, take, sym, subst}
use Rattle.std.proofs.lemmas.List.{take_more, take_all}
use Rattle.block_haste.specs.inside.Hastening.{AreChangesIn}
use Rattle.block_haste.proofs.ExchangeLaws.{AreChangesIn-more}
use Rattle.block_haste.proofs.moving.changes_in.Goals as goal

pub moves-preserved : goal.moves-preserved
moves-preserved c =
    let moves = c.args.moves.now in
    let i = c.moves.step-index in
    let move = get_or moves i (0, 0) in
    subst (λ (l : List (ℕ × ℕ)). AreChangesIn c.args.numbers.now l c.push_change.new.changes.items)
    (sym (take_more moves i (0, 0) c.moves-test.true))
    (AreChangesIn-more c.args.numbers.now (take i moves) move c.moves.changes.items c.push_change.new.changes.items
    c.in_ok-push_change.ensures c.moves.invariant)

pub returns : goal.returns
returns c =
    subst (λ (l : List (ℕ × ℕ)). AreChangesIn c.args.numbers.now l c.moves.changes.items)
    (take_all c.moves.step-index c.args.moves.now c.moves-test.false) c.moves.invariant
