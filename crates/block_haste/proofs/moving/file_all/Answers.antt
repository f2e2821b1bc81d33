use Rattle.std.proofs.Common.{◌++◌, ◌∷◌, [], ℕ, List, get_or, take, sym, subst}
use Rattle.std.proofs.lemmas.List.{take_more, take_all}
use Rattle.block_haste.specs.inside.Hastening.{AreFiled}
use Rattle.block_haste.proofs.FileLaws.{KeepLists-same, KeepLists-then, AreFiled-more}
use Rattle.block_haste.proofs.moving.file_all.Goals as goal

pub moves-preserved : goal.moves-preserved
moves-preserved c =
    let moves = c.args.moves.now in
    let i = c.moves.step-index in
    let move = get_or moves i (0, 0) in
    let old = c.moves.lists.items in
    let new = c.file.new.lists.items in
    record {
      kept = KeepLists-then c.args.lists.now.items old new c.moves.invariant.kept c.in_ok-file.ensures.kept;
      filed = subst (λ (l : List (ℕ × ℕ)). AreFiled l new) (sym (take_more moves i (0, 0) c.moves-test.true))
          (AreFiled-more (take i moves) move old new c.in_ok-file.ensures.kept c.in_ok-file.ensures.here c.moves.invariant.filed);
    }

pub returns-clause-filed : goal.returns-clause-filed
returns-clause-filed c =
    subst (λ (l : List (ℕ × ℕ)). AreFiled l c.moves.lists.items) (take_all c.moves.step-index c.args.moves.now c.moves-test.false)
    c.moves.invariant.filed
