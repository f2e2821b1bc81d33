use Rattle.std.proofs.Common.{◌≡◌, ℕ, ◌<◌, ◌++◌, ◌∷◌, [], List, get_or, take, All, Contains, sym, subst}
use Rattle.std.proofs.lemmas.List.{take_more, take_all}
use Rattle.std.proofs.lemmas.List.Elements.{All-push, All-weaker, Contains-append_left, Contains-push}
use Rattle.block_haste.proofs.exchanging.note_moved.Goals as goal

pub moves-preserved : goal.moves-preserved
moves-preserved c =
    let moves = c.args.moves.now in
    let i = c.moves.step-index in
    let move = get_or moves i (0, 0) in
    let nodes = c.moves.nodes.items in
    let new = c.push.new.self.items in
    let pushed : new ≡ nodes ++ move.0 ∷ [] = c.in_ok-push.ensures.items in
    let kept : (node : ℕ) → Contains nodes node → Contains new node =
    λ node at. subst (λ (l : List ℕ). Contains l node) (sym pushed) (Contains-append_left nodes (move.0 ∷ []) node at) in
    record {
      kept = λ node at. kept node (c.moves.invariant.kept node at);
      noted = subst (λ (l : List (ℕ × ℕ)). All (λ m. Contains new m.0) l) (sym (take_more moves i (0, 0) c.moves-test.true))
          (All-push (λ (m : ℕ × ℕ). Contains new m.0) (take i moves) move
          (All-weaker (λ (m : ℕ × ℕ). Contains nodes m.0) (λ (m : ℕ × ℕ). Contains new m.0) (λ m at. kept m.0 at) (take i moves) c.moves.invariant.noted)
          (subst (λ (l : List ℕ). Contains l move.0) (sym pushed) (Contains-push nodes move.0)));
      within = λ count low before. subst (λ (l : List ℕ). All (λ node. node < count) l) (sym pushed)
          (All-push (λ node. node < count) nodes move.0 (c.moves.invariant.within count low before) (low i (0, 0) c.moves-test.true));
    }

pub returns-clause-noted : goal.returns-clause-noted
returns-clause-noted c =
    subst (λ (l : List (ℕ × ℕ)). All (λ m. Contains c.moves.nodes.items m.0) l)
    (take_all c.moves.step-index c.args.moves.now c.moves-test.false) c.moves.invariant.noted
