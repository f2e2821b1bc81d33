use Rattle.std.proofs.Common.{◌≡◌, ℕ, ◌<◌, List, Option, length, All, ap, ◌∙◌, sym, subst, arith}
use Rattle.block_haste.specs.inside.Marking.{Change}
use Rattle.block_haste.specs.inside.Hastening.{AreMoves, AreWritten, AreTouched, AreFiled, AreChangesIn}
use Rattle.block_haste.proofs.MoveLaws.{moved_within, AreChanged-moved, StayTogether-moved, low_shown, AreMoves-shown}
use Rattle.block_haste.proofs.ExchangeLaws.{AreInLists-filed}
use Rattle.block_haste.proofs.hastening.part.Goals as goal

pub mark_touched-requires-clause-within : goal.mark_touched-requires-clause-within
mark_touched-requires-clause-within c =
    subst (λ (n : ℕ). All (λ event. event.0 < n) c.args.events.now) (sym c.requires.marks) c.requires.within

pub moves_of-requires-clause-touched : goal.moves_of-requires-clause-touched
moves_of-requires-clause-touched c =
    low_shown c.as_slice.result.now c.in_ok-touched.touched.items (length c.args.parts.now.marks.items) (length c.as_slice-3.result.now)
    c.as_slice.ensures.value (c.requires.marks ∙ ap length (sym c.as_slice-3.ensures.value)) c.in_ok-touched.ensures.within

pub moves_of-requires-clause-marks : goal.moves_of-requires-clause-marks
moves_of-requires-clause-marks c =
    ap length c.as_slice-2.ensures.value ∙ c.in_ok-touched.ensures.every ∙ c.requires.marks ∙ ap length (sym c.as_slice-3.ensures.value)

pub apply-requires : goal.apply-requires
apply-requires c =
    let touched = c.in_ok-touched.touched.items in
    let numbers = c.args.parts.now.numbers.items in
    let moves = c.in_ok-moves.moves.items in
    let marks = c.mark_touched.new.marks.items in
    let are =
    AreMoves-shown c.as_slice.result.now touched c.as_slice-3.result.now numbers c.as_slice-2.result.now marks moves
    c.as_slice.ensures.value c.as_slice-3.ensures.value c.as_slice-2.ensures.value c.in_ok-moves.ensures.moves in
    let within = subst (λ (n : ℕ). All (λ node. node < n) touched) c.requires.marks c.in_ok-touched.ensures.within in
    subst (λ (l : List (ℕ × ℕ)). All (λ move. move.0 < length numbers) l) (sym c.as_slice-7.ensures.value)
    (moved_within touched numbers marks moves (length numbers) are within)

pub clear-requires-clause-within : goal.clear-requires-clause-within
clear-requires-clause-within c =
    low_shown c.as_slice-9.result.now c.in_ok-touched.touched.items (length c.args.parts.now.marks.items) (length c.mark_touched.new.marks.items)
    c.as_slice-9.ensures.value (sym c.in_ok-touched.ensures.every) c.in_ok-touched.ensures.within

pub clear-requires-clause-touched : goal.clear-requires-clause-touched
clear-requires-clause-touched c =
    subst (λ (l : List ℕ). AreTouched c.mark_touched.new.marks.items l) (sym c.as_slice-9.ensures.value) c.in_ok-touched.ensures.touched

pub returns-clause-parted : goal.returns-clause-parted
returns-clause-parted c =
    let touched = c.in_ok-touched.touched.items in
    let numbers = c.args.parts.now.numbers.items in
    let moves = c.in_ok-moves.moves.items in
    let marks = c.mark_touched.new.marks.items in
    let new = c.apply.new.numbers.items in
    let are =
    AreMoves-shown c.as_slice.result.now touched c.as_slice-3.result.now numbers c.as_slice-2.result.now marks moves
    c.as_slice.ensures.value c.as_slice-3.ensures.value c.as_slice-2.ensures.value c.in_ok-moves.ensures.moves in
    let written = subst (λ (l : List (ℕ × ℕ)). AreWritten l numbers new) c.as_slice-7.ensures.value c.apply.ensures.written in
    record {
      marks = marks;
      every = c.in_ok-touched.ensures.every ∙ c.requires.marks;
      marked = c.in_ok-touched.ensures.marks;
      together = StayTogether-moved touched numbers marks moves new are c.in_ok-touched.ensures.touched written;
      changed = AreChanged-moved touched numbers marks moves new c.apply.ensures.every are written;
    }

pub changes_in-requires : goal.changes_in-requires
changes_in-requires c =
    let touched = c.in_ok-touched.touched.items in
    let numbers = c.args.parts.now.numbers.items in
    let moves = c.in_ok-moves.moves.items in
    let marks = c.mark_touched.new.marks.items in
    let are =
    AreMoves-shown c.as_slice.result.now touched c.as_slice-3.result.now numbers c.as_slice-2.result.now marks moves
    c.as_slice.ensures.value c.as_slice-3.ensures.value c.as_slice-2.ensures.value c.in_ok-moves.ensures.moves in
    let within = subst (λ (n : ℕ). All (λ node. node < n) touched) c.requires.marks c.in_ok-touched.ensures.within in
    subst (λ (l : List (ℕ × ℕ)). All (λ move. move.0 < length c.as_slice-6.result.now) l) (sym c.as_slice-5.ensures.value)
    (subst (λ (n : List ℕ). All (λ move. move.0 < length n) moves) (sym c.as_slice-6.ensures.value)
    (moved_within touched numbers marks moves (length numbers) are within))

pub returns-clause-lists : goal.returns-clause-lists
returns-clause-lists c =
    let numbers = c.args.parts.now.numbers.items in
    let moves = c.in_ok-moves.moves.items in
    let changes = c.in_ok-changes.changes.items in
    let new = c.apply.new.numbers.items in
    let split =
    subst (λ (n : List ℕ). AreChangesIn n moves changes) c.as_slice-6.ensures.value
    (subst (λ (l : List (ℕ × ℕ)). AreChangesIn c.as_slice-6.result.now l changes) c.as_slice-5.ensures.value c.in_ok-changes.ensures) in
    AreInLists-filed c.args.parts.now.lists.items c.file_all.new.lists.items moves changes numbers new c.apply.ensures.every c.requires.lists
    (subst (λ (l : List (ℕ × ℕ)). AreWritten l numbers new) c.as_slice-7.ensures.value c.apply.ensures.written) split
    c.in_ok-file_all.ensures.kept
    (subst (λ (l : List (ℕ × ℕ)). AreFiled l c.file_all.new.lists.items) c.as_slice-8.ensures.value c.in_ok-file_all.ensures.filed)
