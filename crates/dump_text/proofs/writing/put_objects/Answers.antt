use Rattle.std.proofs.Common.{◌≡◌, ◌<◌, length, get_or, map, ap, arith, refl}
use Rattle.dump_text.specs.Types.{Complex}
use Rattle.dump_text.specs.Dumps.{object_line}
use Rattle.oem_graph.proofs.ObjectLaws.{object_at, object_here, object_live}
use Rattle.dump_text.proofs.LineLaws.{lines_more}
use Rattle.dump_text.proofs.writing.put_objects.Goals as goal

pub live_value-requires : goal.live_value-requires
live_value-requires c =
    let objects = c.args.graph.now.graph.objects in
    let place = c.places.place in
    let oid = c.oid_at-oid.result in
    let count = c.objects-place-end.ensures.count in
    let inside = c.places-test.true in
    let low : place < length objects = omega (arith, count, inside) in
    (_, object_live objects (map (λ object. object.0) objects) place oid oid Complex refl low (object_at _ place oid oid c.oid_at-oid.ensures))

pub places-preserved : goal.places-preserved
places-preserved c =
    let objects = c.args.graph.now.graph.objects in
    let oids = map (λ object. object.0) objects in
    let place = c.places.place in
    let oid = c.oid_at-oid.result in
    let count = c.objects-place-end.ensures.count in
    let inside = c.places-test.true in
    let low : place < length objects = omega (arith, count, inside) in
    let here = object_at oids place oid oid c.oid_at-oid.ensures in
    let at = get_or objects place (oid, Complex) in
    let value = c.live_value.ensures at.1 (object_live objects oids place oid oid Complex refl low here) in
    let number = object_here objects oids place oid oid Complex refl low here in
    let is : (oid, c.live_value.result.now) ≡ at = λ k. (number k, value k) in
    lines_more object_line c.args.dump.now c.places.dump c.put_object_line.new.dump objects place (oid, Complex)
    (object_line (oid, c.live_value.result.now)) low (ap object_line is) c.in_ok-put_object_line.ensures c.places.invariant
