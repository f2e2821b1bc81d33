use Rattle.std.proofs.Common.{◌≡◌, List, [], ◌∷◌, ◌++◌, map, get_or, sym, ap, ◌∙◌, arith}
use Rattle.std.proofs.lemmas.List.{take_all, length-map}
use Rattle.std.proofs.lemmas.Option.{slice_get_within, get_or_from_slice_get}
use Rattle.list_laws.proofs.PartLaws.{take_more_read}
use Rattle.doem_history.specs.Types.{Oid}
use Rattle.kept_history.proofs.objects.live_objects.Goals as goal

pub places-preserved : goal.places-preserved
places-preserved c =
    let oids : List Oid = map (λ object. object.0) c.args.graph.now.graph.objects in
    let place = c.places.place in
    let oid = c.oid_at.result in
    let low = slice_get_within oids place oid c.oid_at.ensures in
    let here : oid ≡ get_or oids place oid = sym (get_or_from_slice_get oids place oid oid c.oid_at.ensures) in
    c.in_ok-push.ensures.ok ∙ ap (λ (l : List Oid). l ++ oid ∷ []) c.places.invariant ∙ sym (take_more_read oids place oid low here)

pub returns : goal.returns
returns c =
    let objects = c.args.graph.now.graph.objects in
    let oids : List Oid = map (λ object. object.0) objects in
    let count = c.objects-place-end.ensures.count in
    c.places.invariant
    ∙ take_all c.places.place oids (omega (arith, c.places-test.false, count, length-map objects (λ object. object.0)))
