use Rattle.std.proofs.Common.{◌≡◌, ◌<◌, ℕ, List, length, All, IfSome, Contains, sym, subst}
use Rattle.block_haste.specs.inside.Hastening.{AreInLists, AreWritten, AreSwaps, AreFiled, AreExchanged}
use Rattle.block_haste.proofs.ExchangeLaws.{AreInLists-shown, AreInLists-swapped, AreExchanged-swapped}
use Rattle.block_haste.proofs.ExchangeLaws.{ok-from_three, ok-anyway}
use Rattle.block_haste.proofs.exchanging.exchange.Goals as goal

pub exchange_moves-requires : goal.exchange_moves-requires
exchange_moves-requires c =
    AreInLists-shown c.as_slice.result.now c.args.lists.now.items c.as_slice-2.result.now c.args.numbers.now.items
    c.as_slice.ensures.value c.as_slice-2.ensures.value c.requires.lists

pub returns-clause-exchanged : goal.returns-clause-exchanged
returns-clause-exchanged c =
    let numbers = c.args.numbers.now.items in
    let before = c.args.changed.now.items in
    let new = c.apply.new.numbers.items in
    let after = c.note_moved.new.nodes.items in
    let moves = c.in-Some.moves.items in
    let found = subst (λ found. IfSome found (λ moves. AreSwaps c.args.one c.args.other c.as_slice-2.result.now moves.items)) c.in-Some.is c.in_ok-found.ensures in
    let swaps = subst (λ (l : List ℕ). AreSwaps c.args.one c.args.other l moves) c.as_slice-2.ensures.value found in
    let written = subst (λ (l : List (ℕ × ℕ)). AreWritten l numbers new) c.as_slice-3.ensures.value c.apply.ensures.written in
    let shown = c.as_slice-5.ensures.value in
    ok-from_three c.note_moved.result ((node : ℕ) → Contains before node → Contains after node) (All (λ move. Contains after move.0) c.as_slice-5.result.now)
    ((count : ℕ) → All (λ move. move.0 < count) c.as_slice-5.result.now → All (λ node. node < count) before → All (λ node. node < count) after)
    (AreExchanged numbers before new after)
    (λ kept noted within. AreExchanged-swapped c.args.one c.args.other numbers moves new before after c.apply.ensures.every swaps written kept
    (subst (λ (l : List (ℕ × ℕ)). All (λ move. Contains after move.0) l) shown noted)
    (subst (λ (l : List (ℕ × ℕ)). (count : ℕ) → All (λ move. move.0 < count) l → All (λ node. node < count) before → All (λ node. node < count) after) shown within)
    c.requires.within)
    c.note_moved.ensures.kept c.note_moved.ensures.noted c.note_moved.ensures.within

pub returns-clause-lists : goal.returns-clause-lists
returns-clause-lists c =
    let numbers = c.args.numbers.now.items in
    let lists = c.args.lists.now.items in
    let new = c.apply.new.numbers.items in
    let moves = c.in-Some.moves.items in
    let found = subst (λ found. IfSome found (λ moves. AreSwaps c.args.one c.args.other c.as_slice-2.result.now moves.items)) c.in-Some.is c.in_ok-found.ensures in
    let swaps = subst (λ (l : List ℕ). AreSwaps c.args.one c.args.other l moves) c.as_slice-2.ensures.value found in
    let written = subst (λ (l : List (ℕ × ℕ)). AreWritten l numbers new) c.as_slice-3.ensures.value c.apply.ensures.written in
    let filed = subst (λ (l : List (ℕ × ℕ)). AreFiled l c.file_all.new.lists.items) c.as_slice-4.ensures.value c.in_ok-file_all.ensures.filed in
    ok-anyway c.note_moved.result (AreInLists c.file_all.new.lists.items new)
    (AreInLists-swapped c.args.one c.args.other numbers lists c.clear_list.new.lists.items c.clear_list-2.new.lists.items c.file_all.new.lists.items moves new
    c.apply.ensures.every c.requires.lists swaps written c.clear_list.ensures c.clear_list-2.ensures c.in_ok-file_all.ensures.kept filed)
