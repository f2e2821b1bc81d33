use Rattle.std.proofs.Common.{◌≡◌, ◌↔◌, ◌++◌, ℕ, List, Contains, ap, ◌∙◌, subst}
use Rattle.block_haste.specs.inside.Hastening.{IsMovedFrom}
use Rattle.block_haste.proofs.ExchangeLaws.{AreSwaps-found}
use Rattle.block_haste.proofs.exchanging.exchange_moves.Goals as goal

pub returns : goal.returns
returns c =
    let numbers = c.args.numbers.now in
    let first = c.in_ok-moves.moves.items in
    let second = c.in_ok-back.back.items in
    let firsts =
    subst (λ (l : List ℕ). (move : ℕ × ℕ) → Contains first move ↔ IsMovedFrom l numbers c.args.one c.args.other move)
    c.list_of-first.ensures c.in_ok-moves.ensures in
    let seconds =
    subst (λ (l : List ℕ). (move : ℕ × ℕ) → Contains second move ↔ IsMovedFrom l numbers c.args.other c.args.one move)
    c.list_of-second.ensures c.in_ok-back.ensures in
    AreSwaps-found c.args.one c.args.other numbers c.args.lists.now first second c.extend_from_slice.new.self.items c.requires
    firsts seconds
    (c.in_ok-extend_from_slice.ensures.items ∙ ap (λ (l : List (ℕ × ℕ)). first ++ l) c.as_slice.ensures.value)
