use Rattle.std.proofs.Common.{◌≡◌, ℕ, ◌+◌, ◌<◌, ◌⊎◌, inl, inr, ◌∷◌, ◌++◌, [], List, length, get_or, take, ap, ◌∙◌, sym, subst, arith, length-set}
use Rattle.std.proofs.lemmas.List.{take_more, take_all}
use Rattle.block_haste.specs.inside.Marking.{keys_of, Change}
use Rattle.block_haste.specs.inside.Recounting.{IsRecounted, IsCovered}
use Rattle.block_haste.proofs.RecountLaws.{IsRecounted-none, IsRecounted-more, length-recounted, counted_all, events_all}
use Rattle.block_haste.proofs.recounting.recount.Goals as goal

pub places-init : goal.places-init
places-init c = record {
  every = c.requires.every;
  recounted = λ tags are. subst (λ (e : List (ℕ × Change)). IsRecounted c.args.edges.now [] tags c.args.numbers.now c.args.tally e) (sym c.new.ensures)
      (IsRecounted-none c.args.edges.now tags c.args.numbers.now c.args.tally are);
}

pub places-preserved : goal.places-preserved
places-preserved c =
    let edges = c.args.edges.now in
    let places = c.args.places.now in
    let place = get_or places c.places.place-index 0 in
    let within : place < length edges = c.requires.places c.places.place-index 0 c.places-test.true in
    let more = take_more places c.places.place-index 0 c.places-test.true in
    record {
      every = length-recounted place (get_or edges place (0, 0, 0)) (get_or c.args.numbers.now (get_or edges place (0, 0, 0)).0 0) c.places.recounted.tally
          c.in_ok-recounted.recounted.tally c.places.recounted.events c.in_ok-recounted.recounted.events c.in_ok-recounted.ensures ∙ c.places.invariant.every;
      recounted = λ tags are. IsRecounted-more edges tags c.args.numbers.now (take c.places.place-index places) (take (c.places.place-index + 1) places) place
          c.places.recounted.tally c.in_ok-recounted.recounted.tally c.places.recounted.events c.in_ok-recounted.recounted.events more within
          (c.places.invariant.recounted tags are) c.in_ok-recounted.ensures;
    }

pub returns-clause-counted : goal.returns-clause-counted
returns-clause-counted c tags are covered =
    let whole = take_all c.places.place-index c.args.places.now (omega arith) in
    counted_all c.args.edges.now tags c.args.numbers.now c.args.places.now c.places.recounted.tally c.places.recounted.events
    (subst (λ (l : List ℕ). IsRecounted c.args.edges.now l tags c.args.numbers.now c.places.recounted.tally c.places.recounted.events) whole
    (c.places.invariant.recounted tags are)) covered

pub returns-clause-events : goal.returns-clause-events
returns-clause-events c rows tags of_rows are covered =
    let whole = take_all c.places.place-index c.args.places.now (omega arith) in
    events_all c.args.edges.now tags c.args.numbers.now rows c.args.places.now c.places.recounted.tally c.places.recounted.events of_rows
    (subst (λ (l : List ℕ). IsRecounted c.args.edges.now l tags c.args.numbers.now c.places.recounted.tally c.places.recounted.events) whole
    (c.places.invariant.recounted tags are)) covered
