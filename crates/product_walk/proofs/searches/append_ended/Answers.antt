use Rattle.std.proofs.Common.{◌≡◌, ◌↔◌, ◌++◌, length, get_or, take, Contains, subst, sym, ap, ◌∙◌, arith}
use Rattle.std.proofs.lemmas.List.{take_more}
use Rattle.std.proofs.Math.Seq.{take-length}
use Rattle.graph_search.specs.Closures.{IsMet}
use Rattle.product_walk.specs.Types.{Oid, StateMarks, END}
use Rattle.product_walk.specs.inside.StateSets.{HasState, same_oid}
use Rattle.product_walk.proofs.ProductLaws.{ended_more, lists_ended}
use Rattle.product_walk.proofs.searches.append_ended.Goals as goal

pub places-preserved : goal.places-preserved
places-preserved c =
    let first : Oid × StateMarks = (record { 0 = 0 }, record { 0 = record { 0 = 0 } }) in
    let place : Oid × StateMarks = get_or c.args.met.now c.places.place-index first in
    subst (λ l. (oid : Oid) → Contains c.push_ended.new.ended oid ↔ IsMet HasState l (oid, END))
    (sym (take_more c.args.met.now c.places.place-index first c.places-test.true))
    (ended_more (take c.places.place-index c.args.met.now) place c.places.ended c.push_ended.new.ended c.places.invariant c.in_ok-push_ended.ensures)

pub returns-clause-objects : goal.returns-clause-objects
returns-clause-objects c =
    let done : c.places.place-index ≡ length c.args.met.now = omega (arith, c.places-test.false, c.places.auto.place-index-end) in
    let all : (oid : Oid) → Contains c.places.ended oid ↔ IsMet HasState c.args.met.now (oid, END) =
    subst (λ l. (oid : Oid) → Contains c.places.ended oid ↔ IsMet HasState l (oid, END))
    (ap (λ n. take n c.args.met.now) done ∙ take-length c.args.met.now) c.places.invariant in (
      c.sort_set.new.self,
      c.in_ok-append.ensures.ok ∙ ap (λ l. c.args.buf.now ++ l) c.as_slice.ensures,
      lists_ended c.args.met.now c.places.ended c.sort_set.new.self all c.sort_set.ensures.ascend (c.sort_set.ensures.members same_oid),
    )
