use Rattle.std.proofs.Common.{◌≡◌, ℕ, ◌+◌, ◌∷◌, ◌++◌, [], List, length, get_or, set, take, subst, sym, ◌∙◌, length-set}
use Rattle.std.proofs.lemmas.List.{take_more, take_all}
use Rattle.block_haste.specs.inside.Hastening.{AreWritten}
use Rattle.block_haste.proofs.MoveLaws.{AreWritten-none, AreWritten-more}
use Rattle.block_haste.proofs.moving.apply.Goals as goal

pub moves-preserved : goal.moves-preserved
moves-preserved c =
    let moves = c.args.moves.now in
    let move = get_or moves c.moves.step-index (0, 0) in
    let numbers = c.moves.numbers.items in
    let old = c.args.numbers.now.items in
    let more : take (c.moves.step-index + 1) moves ≡ take c.moves.step-index moves ++ move ∷ [] = take_more moves c.moves.step-index (0, 0) c.moves-test.true in
    record {
      written = subst (λ (l : List (ℕ × ℕ)). AreWritten l old (set numbers move.0 move.1)) (sym more)
          (AreWritten-more (take c.moves.step-index moves) move old numbers c.moves.invariant.every
          (c.requires c.moves.step-index (0, 0) c.moves-test.true) c.moves.invariant.written);
      every = length-set numbers move.0 move.1 ∙ c.moves.invariant.every;
    }

pub returns-clause-written : goal.returns-clause-written
returns-clause-written c =
    subst (λ (l : List (ℕ × ℕ)). AreWritten l c.args.numbers.now.items c.moves.numbers.items)
    (take_all c.moves.step-index c.args.moves.now c.moves-test.false) c.moves.invariant.written
