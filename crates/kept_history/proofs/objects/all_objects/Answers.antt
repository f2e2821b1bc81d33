use Rattle.std.proofs.Common.{◌≡◌, ◌<◌, ◌∷◌, [], ◌++◌, length, get_or, map, refl, sym, ◌∙◌, arith}
use Rattle.std.proofs.lemmas.List.{take_more}
use Rattle.doem_history.specs.Types.{Complex}
use Rattle.oem_graph.proofs.ObjectLaws.{object_at, object_here, object_live}
use Rattle.kept_history.proofs.objects.all_objects.Goals as goal

pub live_value-requires : goal.live_value-requires
live_value-requires c =
    let objects = c.args.graph.now.graph.objects in
    let place = c.places.place in
    let oid = c.oid_at-oid.result in
    let count = c.objects-place-end.ensures.count in
    let inside = c.places-test.true in
    let low : place < length objects = omega (arith, count, inside) in
    (_, object_live objects (map (λ object. object.0) objects) place oid oid Complex refl low (object_at _ place oid oid c.oid_at-oid.ensures))

pub places-preserved : goal.places-preserved
places-preserved c =
    let objects = c.args.graph.now.graph.objects in
    let oids = map (λ object. object.0) objects in
    let place = c.places.place in
    let oid = c.oid_at-oid.result in
    let count = c.objects-place-end.ensures.count in
    let inside = c.places-test.true in
    let low : place < length objects = omega (arith, count, inside) in
    let here = object_at oids place oid oid c.oid_at-oid.ensures in
    let at = get_or objects place (oid, Complex) in
    let value = c.in_ok-value.ensures ∙ c.live_value.ensures at.1 (object_live objects oids place oid oid Complex refl low here) in
    let number = object_here objects oids place oid oid Complex refl low here in
    let is : (oid, c.in_ok-value.value) ≡ at = λ k. (number k, value k) in
    c.in_ok-push.ensures.ok ∙ (λ k. c.places.invariant k ++ is k ∷ []) ∙ sym (take_more objects place (oid, Complex) low)
