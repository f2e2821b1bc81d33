use Rattle.std.proofs.Common.{◌≡◌, ℕ, ◌<◌, List, length, All, sym, ap, ◌∙◌, subst}
use Rattle.std.proofs.lemmas.List.{length-map}
use Rattle.block_haste.specs.inside.Marking.{Change, stands}
use Rattle.block_haste.specs.inside.Recounting.{key_under}
use Rattle.block_haste.specs.inside.Hastening.{AreChanged, IsParted, IsHastening}
use Rattle.block_haste.proofs.MoveLaws.{low_shown}
use Rattle.block_haste.proofs.ExchangeLaws.{AreChanged-exchanged}
use Rattle.block_haste.proofs.HasteLaws.{events_within, IsEntered-told, IsHastening-round, AreChanged-shown}
use Rattle.block_haste.proofs.hastening.haste.Goals as goal

pub entered-requires-clause-changed : goal.entered-requires-clause-changed
entered-requires-clause-changed c =
    let graph = c.args.graph.now in
    low_shown c.as_slice.result.now c.args.state.changed.items (length graph.rows.now) (length c.as_slice-outs.result.now)
    c.as_slice.ensures.value (sym c.requires.graph.every ∙ ap length (sym c.as_slice-outs.ensures.value)) c.requires.state.within

pub entered-requires-clause-within : goal.entered-requires-clause-within
entered-requires-clause-within c =
    subst (λ (e : List (ℕ × ℕ × ℕ)). All (λ own. All (λ place. place < length e) own) c.as_slice-outs.result.now) (sym c.as_slice-edges.ensures.value)
    (subst (λ (o : List (List ℕ)). All (λ own. All (λ place. place < length c.args.graph.now.edges.items) own) o) (sym c.as_slice-outs.ensures.value)
    c.requires.graph.within)

pub entered-requires-clause-parents : goal.entered-requires-clause-parents
entered-requires-clause-parents c =
    subst (λ (e : List (ℕ × ℕ × ℕ)). All (λ edge. edge.0 < length c.as_slice-numbers.result.now) e) (sym c.as_slice-edges.ensures.value)
    (subst (λ (n : ℕ). All (λ edge. edge.0 < n) c.args.graph.now.edges.items)
    (sym c.requires.state.every ∙ ap length (sym c.as_slice-numbers.ensures.value)) c.requires.graph.parents)

pub entered-requires-clause-every : goal.entered-requires-clause-every
entered-requires-clause-every c =
    ap length c.requires.state.counted ∙ length-map c.args.graph.now.edges.items (key_under c.args.state.tags.items)
    ∙ ap length (sym c.as_slice-edges.ensures.value)

pub catch_up-requires-clause-every : goal.catch_up-requires-clause-every
catch_up-requires-clause-every c =
    c.requires.state.tagged ∙ sym c.requires.state.every ∙ ap length (sym c.as_slice-numbers.ensures.value)

pub catch_up-requires-clause-within : goal.catch_up-requires-clause-within
catch_up-requires-clause-within c =
    low_shown c.as_slice-2.result.now c.args.state.changed.items (length c.args.graph.now.rows.now) (length c.as_slice-numbers.result.now)
    c.as_slice-2.ensures.value (sym c.requires.state.every ∙ ap length (sym c.as_slice-numbers.ensures.value)) c.requires.state.within

pub catch_up-requires-clause-changes : goal.catch_up-requires-clause-changes
catch_up-requires-clause-changes c =
    AreChanged-shown c.args.state.tags.items c.args.state.tags.items c.as_slice-numbers.result.now c.args.state.parts.numbers.items
    c.as_slice-2.result.now c.args.state.changed.items (λ i. c.args.state.tags.items) c.as_slice-numbers.ensures.value c.as_slice-2.ensures.value
    c.requires.state.changes

pub part-requires-clause-within : goal.part-requires-clause-within
part-requires-clause-within c =
    let graph = c.args.graph.now in
    let state = c.args.state in
    let entered =
    IsEntered-told graph.rows.now graph.kinds.now graph.edges.items graph.outs.items c.requires.graph state.tags.items state.parts.numbers.items
    state.changed.items state.tally c.in_ok-recounted.recounted.tally c.in_ok-recounted.recounted.events state.parts.lists.items state.parts.marks.items
    c.as_slice-edges.result.now c.as_slice-outs.result.now c.as_slice-numbers.result.now c.as_slice.result.now c.as_slice-edges.ensures.value
    c.as_slice-outs.ensures.value c.as_slice-numbers.ensures.value c.as_slice.ensures.value c.requires.state c.in_ok-recounted.ensures.counted
    c.in_ok-recounted.ensures.events in
    subst (λ (l : List (ℕ × Change)). All (λ event. event.0 < length state.parts.numbers.items) l) (sym c.as_slice-3.ensures)
    (events_within graph.rows.now graph.kinds.now graph.edges.items graph.outs.items c.requires.graph state.tags.items state.parts.numbers.items
    c.in_ok-recounted.recounted.events (length state.parts.numbers.items) c.requires.state.every entered.exact)

pub exchange_all-requires-clause-within : goal.exchange_all-requires-clause-within
exchange_all-requires-clause-within c =
    subst (λ (n : ℕ). All (λ node. node < n) c.in_ok-touched.touched.items) (sym c.in_ok-touched.ensures.every) c.in_ok-touched.ensures.within

pub differing-requires-clause-within : goal.differing-requires-clause-within
differing-requires-clause-within c =
    low_shown c.as_slice-5.result.now c.exchange_all.new.changed.items (length c.part.new.parts.numbers.items) (length c.as_slice-numbers-2.result.now)
    c.as_slice-5.ensures.value (sym c.in_ok-exchange_all.ensures.exchanged.every ∙ ap length (sym c.as_slice-numbers-2.ensures.value))
    c.in_ok-exchange_all.ensures.exchanged.within

pub differing-requires-clause-every : goal.differing-requires-clause-every
differing-requires-clause-every c =
    ap length (c.as_slice-6.ensures.value ∙ c.catch_up.ensures ∙ c.as_slice-numbers.ensures.value) ∙ sym c.in_ok-touched.ensures.every
    ∙ sym c.in_ok-exchange_all.ensures.exchanged.every ∙ ap length (sym c.as_slice-numbers-2.ensures.value)

pub differing-requires-clause-changes : goal.differing-requires-clause-changes
differing-requires-clause-changes c =
    let numbers = c.args.state.parts.numbers.items in
    AreChanged-shown c.as_slice-6.result.now numbers c.as_slice-numbers-2.result.now c.exchange_all.new.numbers.items
    c.as_slice-5.result.now c.exchange_all.new.changed.items (c.as_slice-6.ensures.value ∙ c.catch_up.ensures ∙ c.as_slice-numbers.ensures.value)
    c.as_slice-numbers-2.ensures.value c.as_slice-5.ensures.value
    (AreChanged-exchanged numbers c.part.new.parts.numbers.items c.exchange_all.new.numbers.items c.in_ok-touched.touched.items
    c.exchange_all.new.changed.items c.in_ok-touched.ensures.parted.changed c.in_ok-exchange_all.ensures.exchanged)

pub returns : goal.returns
returns c =
    let graph = c.args.graph.now in
    let state = c.args.state in
    let tags_are : c.catch_up.new.tags.items ≡ state.parts.numbers.items = c.catch_up.ensures ∙ c.as_slice-numbers.ensures.value in
    let entered =
    IsEntered-told graph.rows.now graph.kinds.now graph.edges.items graph.outs.items c.requires.graph state.tags.items state.parts.numbers.items
    state.changed.items state.tally c.in_ok-recounted.recounted.tally c.in_ok-recounted.recounted.events state.parts.lists.items state.parts.marks.items
    c.as_slice-edges.result.now c.as_slice-outs.result.now c.as_slice-numbers.result.now c.as_slice.result.now c.as_slice-edges.ensures.value
    c.as_slice-outs.ensures.value c.as_slice-numbers.ensures.value c.as_slice.ensures.value c.requires.state c.in_ok-recounted.ensures.counted
    c.in_ok-recounted.ensures.events in
    let parted =
    subst (λ (l : List (ℕ × Change)). IsParted (stands c.in_ok-recounted.recounted.tally) l state.parts.numbers.items c.part.new.parts.numbers.items c.in_ok-touched.touched.items)
    c.as_slice-3.ensures c.in_ok-touched.ensures.parted in
    let last =
    AreChanged-shown state.parts.numbers.items c.as_slice-6.result.now c.exchange_all.new.numbers.items c.as_slice-numbers-2.result.now
    c.in_ok-changed.changed.items c.in_ok-changed.changed.items (sym (c.as_slice-6.ensures.value ∙ tags_are)) (sym c.as_slice-numbers-2.ensures.value)
    (λ i. c.in_ok-changed.changed.items) c.in_ok-changed.ensures.changes in
    let low =
    subst (λ (l : List ℕ). All (λ node. node < length l) c.in_ok-changed.changed.items) c.as_slice-numbers-2.ensures.value c.in_ok-changed.ensures.within in
    subst (λ (t : List ℕ). IsHastening graph.rows.now graph.kinds.now graph.edges.items t c.exchange_all.new.numbers.items
    c.in_ok-recounted.recounted.tally c.exchange_all.new.lists.items c.in_ok-changed.changed.items c.part.new.parts.marks.items) (sym tags_are)
    (IsHastening-round graph.rows.now graph.kinds.now graph.edges.items graph.outs.items c.requires.graph state.tags.items state.parts.numbers.items state.tally
    c.in_ok-recounted.recounted.tally state.parts.lists.items c.exchange_all.new.lists.items state.changed.items state.parts.marks.items c.part.new.parts.marks.items
    c.in_ok-recounted.recounted.events c.part.new.parts.numbers.items c.in_ok-touched.touched.items c.exchange_all.new.numbers.items
    c.exchange_all.new.changed.items c.in_ok-changed.changed.items c.requires.state entered.counted entered.exact c.in_ok-recounted.ensures.ascend
    parted c.in_ok-touched.ensures.none c.in_ok-touched.ensures.every c.in_ok-touched.ensures.marked c.in_ok-exchange_all.ensures.exchanged
    c.in_ok-exchange_all.ensures.lists last low)
